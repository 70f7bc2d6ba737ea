use Rattle.std.proofs.Common.{◌≡◌, ◌<◌, ℕ}
use Rattle.co_service.specs.Closing.{of_actor}
use Rattle.co_service.proofs.closing.check_each.Given as goal

-- each actor so far has one of the passes
abbrev pub invariant-loop-actor : goal.invariant-loop-actor
invariant-loop-actor g l = (a : ℕ) → a < l.actor → of_actor l.passes.items a ≡ 1
