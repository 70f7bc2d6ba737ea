-- An act of one operand is held by its type where the operand is held by its own.
use Rattle.std.proofs.Common.{◌≡◌, ℕ, refl}
use Rattle.std.specs.Prelude.{Result, Ok, Err}
use Rattle.co_text.specs.Fallible.{◌>>=◌}
use Rattle.co_text.specs.declared.Cause.{Cause}
use Rattle.co_program.specs.declared.Who.{Who}
use Rattle.co_grammar.specs.declared.keyword.Verb.{Verb}
use Rattle.co_grammar.specs.declared.keyword.Verb.TheVariants as verb
use Rattle.co_grammar.specs.Checks.{typed, act_typed, number_typed, who_typed}
use Rattle.co_grammar.specs.LoneActs.{numbered_act, who_act}

numbered : (v : Verb) (n : ℕ) → act_typed (numbered_act v n) ≡ (number_typed n >>= λ m. Ok (numbered_act v m))
numbered verb.Lock n = refl
numbered verb.ReadLock n = refl
numbered _ n = refl

of_who : (v : Verb) (w : Who) → act_typed (who_act v w) ≡ (who_typed w >>= λ x. Ok (who_act v x))
of_who verb.Stop w = refl
of_who verb.Active w = refl
of_who verb.Pending w = refl
of_who verb.Deactivate w = refl
of_who verb.Init w = refl
of_who _ w = refl

pub numbered-then : (v : Verb) (r : Result ℕ Cause) → typed (r >>= λ n. Ok (numbered_act v n)) ≡ ((r >>= number_typed) >>= λ n. Ok (numbered_act v n))
numbered-then v (Ok n) = numbered v n
numbered-then v (Err cause) = refl

pub who-then : (v : Verb) (r : Result Who Cause) → typed (r >>= λ w. Ok (who_act v w)) ≡ ((r >>= who_typed) >>= λ w. Ok (who_act v w))
who-then v (Ok w) = of_who v w
who-then v (Err cause) = refl
