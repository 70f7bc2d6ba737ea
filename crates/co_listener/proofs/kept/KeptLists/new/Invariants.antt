use Rattle.std.proofs.Common.{◌≡◌, []}
use Rattle.co_listener.specs.MadeNotes.{lists_by}
use Rattle.co_listener.proofs.kept.KeptLists.new.Given as goal

abbrev pub invariant-loop-actor : goal.invariant-loop-actor
invariant-loop-actor l = l.lists ≡ lists_by l._actor []
