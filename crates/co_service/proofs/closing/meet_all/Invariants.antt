use Rattle.std.proofs.Common.{◌≡◌, take}
use Rattle.std.specs.List.{All}
use Rattle.co_desk.specs.Meeting.{IsMet}
use Rattle.co_service.proofs.closing.meet_all.Given as goal

abbrev pub invariant-loop-at : goal.invariant-loop-at
invariant-loop-at g l =
    record {
      keeper : l.keeper ≡ l.initial.keeper;
      passes : l.passes.items ≡ l.initial.passes.items;
      met : All (IsMet g.S.Kind.kind l.i l.initial.keeper) (take l.at l.initial.passes.items);
    }
