-- A drain of the callout in whose service it is made is refused, and every other one is made.
use Rattle.std.proofs.Common.{Bool, refl, subst, sym}
use Rattle.std.proofs.lemmas.Bool.{ne_eqb}
use Rattle.std.specs.Option.{option_copied}
use Rattle.std.specs.Prelude.{Err}
use Rattle.co_object.proofs.Numbers.{same_itself}
use Rattle.co_timers.specs.declared.answers.Refused.TheVariants.{DrainsItself}
use Rattle.co_timers.specs.Drains.{IsDrainedIf}
use Rattle.co_timers.proofs.client.Client.drain_within.Goals as goal

pub returns-then-i-fire-clause-answer : goal.returns-then-i-fire-clause-answer
returns-then-i-fire-clause-answer g c =
    subst (λ (b : Bool). IsDrainedIf b c.args.self.now (option_copied c.args.hold) c.args.i (Err DrainsItself) c.args.self.now) (sym (same_itself c.args.i c.args.fire.now.i c.if-i-fire.true)) (refl, refl)

pub returns-clause-answer : goal.returns-clause-answer
returns-clause-answer g c =
    subst (λ (b : Bool). IsDrainedIf b c.args.self.now (option_copied c.args.hold) c.args.i c.drain.result c.drain.new.self) (sym (ne_eqb c.args.i c.args.fire.now.i c.if-i-fire.false)) c.drain.ensures.answer
