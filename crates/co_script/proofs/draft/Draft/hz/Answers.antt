use Rattle.std.proofs.Common.{◌≡◌, ◌∙◌, ℕ, Bool, true, false, List, [], Result, Ok, Err, refl, sym, ap, subst}
use Rattle.co_program.specs.declared.Script.{Script}
use Rattle.co_program.specs.declared.Act.{Act}
use Rattle.co_grammar.specs.Checks.{is_within}
use Rattle.co_grammar.specs.Statements as states
use Rattle.co_text.specs.Fallible.{◌>>=◌, unless}
use Rattle.co_text.specs.declared.Cause.{Cause}
use Rattle.co_text.specs.declared.Cause.TheVariants as cause
use Rattle.co_script.specs.Drafts.{Draft}
use Rattle.co_script.specs.Refusals.{draft_after, draft_with}
use Rattle.co_script.proofs.draft.Draft.hz.Goals as goal

-- a rate in its range is entered, and another is refused
module _ (d : Draft) (s : Script) (n : ℕ) where
  abbrev entered : Bool → Result Draft Cause
  entered fits = unless fits cause.Number >>= λ _. Ok (draft_with d s (states.Hz n))

  refused : is_within 1 1000000 n ≡ false → draft_after d s (states.Hz n) ≡ Err cause.Number
  refused out = subst (λ (fits : Bool). entered fits ≡ Err cause.Number) (sym out) refl

  accepted : is_within 1 1000000 n ≡ true → draft_after d s (states.Hz n) ≡ Ok (draft_with d s (states.Hz n))
  accepted within = subst (λ (fits : Bool). entered fits ≡ Ok (draft_with d s (states.Hz n))) (sym within) refl

pub returns-then-not-is_within : goal.returns-then-not-is_within
returns-then-not-is_within c = refused c.args.self.now c.args.self.now.script c.args.number (sym c.is_within.ensures ∙ c.if-not-is_within.true)

pub returns : goal.returns
returns c =
    let fits : is_within 1 1000000 c.args.number ≡ true = sym c.is_within.ensures ∙ c.if-not-is_within.false in
    let added = accepted c.args.self.now c.args.self.now.script c.args.number fits in
    let held : Draft = record { script = c.self.inside.script; stage = c.self.inside.stage; funcs = c.self.inside.funcs; acts = c.self.inside.acts; clock = c.self.inside.clock; count = c.self.inside.count } in
    let none : c.self.inside.acts ≡ [] = subst (λ (d : Draft). d.acts ≡ []) (sym c.self.view_is) c.requires in
    let entering : c.enter.new.self ≡ draft_with held held.script (states.Hz c.args.number) =
    subst (λ (acts : List Act). c.enter.new.self ≡ record (draft_with held held.script (states.Hz c.args.number)) { acts = acts }) none c.enter.ensures in
    let same : draft_with c.args.self.now c.args.self.now.script (states.Hz c.args.number) ≡ c.enter.new.self =
    subst (λ (d : Draft). draft_with d d.script (states.Hz c.args.number) ≡ c.enter.new.self) c.self.view_is (sym entering) in
    added ∙ ap (λ (d : Draft). Ok d) same
