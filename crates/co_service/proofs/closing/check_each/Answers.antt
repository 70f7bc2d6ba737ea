use Rattle.std.proofs.Common.{◌≡◌, ℕ, sym, subst, arith}
use mathlib.Core.Logic.{dite}
use native.Mathlib.Decide.{ℕ_discrete}
use Rattle.co_service.specs.Closing.{of_actor}
use Rattle.co_service.proofs.closing.check_each.Goals as goal

pub loop-actor-preserved : goal.loop-actor-preserved
loop-actor-preserved g c = λ a below.
    dite (ℕ_discrete a c.loop-actor.actor)
    (λ same. subst (λ (n : ℕ). of_actor c.args.passes.now.items n ≡ 1) (sym same) c.check_one.ensures)
    (λ away. c.loop-actor.invariant a (omega (arith, away)))
