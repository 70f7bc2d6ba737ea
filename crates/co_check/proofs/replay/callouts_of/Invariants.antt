use Rattle.std.proofs.Common.{◌≡◌, take, map}
use Rattle.co_check.specs.Replayed.{opened}
use Rattle.co_check.proofs.replay.callouts_of.Given as goal

abbrev pub invariant-loop-spec : goal.invariant-loop-spec
invariant-loop-spec l = l.callouts ≡ map opened (take l.spec-index l.specs)
