-- The seats so far are of the last actors.
use Rattle.std.proofs.Common.{◌≡◌, ◌+◌, length}
use Rattle.co_run.specs.Jobs.{AreJobs, AreLeft, IsGroup}
use Rattle.co_run.proofs.jobs.deal.Given as goal

abbrev pub invariant-loop-dealt : goal.invariant-loop-dealt
invariant-loop-dealt g l = record {
  less : length l.passes.items + l.dealt ≡ length l.fn.passes.items;
  left : AreLeft g.B.Book.notes g.B.Book.spare l.script g.N.Name.name l.passes.items l.books.items;
  group : IsGroup (AreJobs l.script g.N.Name.name g.B.Book.notes g.B.Book.spare) (length l.passes.items) (length l.fn.passes.items) l.seats;
}
