-- What a number states adds to a draft what it adds once the open section is closed.
use Rattle.std.proofs.Common.{◌≡◌, ℕ, [], refl, ap, sym, ◌∙◌}
use Rattle.std.specs.Prelude.{Result, Ok}
use Rattle.co_text.specs.Fallible.{◌>>=◌}
use Rattle.co_text.specs.declared.Cause.{Cause}
use Rattle.co_grammar.specs.declared.Kind.{Kind}
use Rattle.co_grammar.specs.declared.Kind.TheVariants as kind
use Rattle.co_script.specs.Drafts.{Draft, closed}
use Rattle.co_script.specs.Refusals.{draft_after}
use Rattle.co_script.specs.Stated.{numbered, stated_line}

abbrev closed_draft : Draft → Draft
closed_draft d = record d { script = closed d; stage = kind.Callout; acts = [] }

after-close : (d : Draft) (k : Kind) (n : ℕ) → draft_after (closed_draft d) (closed d) (numbered k n) ≡ draft_after d (closed d) (numbered k n)
after-close d kind.Hz n = refl
after-close d kind.Cpus n = refl
after-close d kind.Wheel n = refl
after-close d kind.Funcs n = refl
after-close d kind.Func n = refl
after-close d kind.Client n = refl
after-close d _ n = refl

pub number-line : (d e : Draft) (k : Kind) (n : ℕ) (r : Result ℕ Cause) → r ≡ Ok n → e ≡ closed_draft d → draft_after e e.script (numbered k n) ≡ stated_line d (r >>= λ m. Ok (numbered k m))
number-line d e k n r read is =
    ap (λ (x : Draft). draft_after x x.script (numbered k n)) is
    ∙ (after-close d k n ∙ sym (ap (λ q. stated_line d (q >>= λ m. Ok (numbered k m))) read))
