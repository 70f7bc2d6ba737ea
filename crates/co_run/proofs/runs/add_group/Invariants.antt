-- The actors before the next one are over, and what is left of the group is of those from it on.
use Rattle.std.proofs.Common.{◌≡◌, length, map}
use Rattle.co_run.specs.Jobs.{HavePlayed, IsGroup}
use Rattle.co_run.specs.Over.{AreOver}
use Rattle.co_run.proofs.runs.add_group.Given as goal

abbrev pub invariant-loop-next : goal.invariant-loop-next
invariant-loop-next g l = record {
  over : AreOver l.script g.N.Name.name 0 l.all.passes (map g.B.Book.notes l.all.books);
  count : length l.all.books ≡ l.next;
  group : IsGroup (HavePlayed g.B.Book.notes l.script g.N.Name.name) l.next l.end l.group.items;
}
