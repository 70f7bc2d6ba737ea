use Rattle.std.proofs.Common.{◌≡◌, length}
use Rattle.co_print.specs.Order.{AreWritten}
use Rattle.co_print.proofs.order.origins_of.Given as goal

-- the origins of the notes of the first actors are written
abbrev pub invariant-loop-actor : goal.invariant-loop-actor
invariant-loop-actor l = record {
  length : length l.origins.items ≡ l.room;
  written : AreWritten l.script l.lists l.first l.starts l.origins.items l.actor 0;
}
