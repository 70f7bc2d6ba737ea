use Rattle.std.proofs.Common.{◌≡◌, ◌≤◌, take}
use Rattle.co_service.specs.Closing.{of_actor}
use Rattle.co_service.proofs.closing.count_of.Given as goal

-- those of the passes so far
abbrev pub invariant-loop-at : goal.invariant-loop-at
invariant-loop-at l = record {
  counted : l.count ≡ of_actor (take l.at l.passes.items) l.actor;
  few : l.count ≤ l.at;
}
