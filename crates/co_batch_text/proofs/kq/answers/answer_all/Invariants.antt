-- What is to come ends as all of it does.
use Rattle.std.proofs.Common.{◌≡◌, ◌≤◌, ◌+◌, length}
use Rattle.co_batch_text.specs.Ends.{IsUnderWay}
use Rattle.co_batch_text.specs.Kq.Ends.{kq_served}
use Rattle.co_batch_text.proofs.kq.answers.answer_all.Given as goal

abbrev pub invariant-loop-command : goal.invariant-loop-command
invariant-loop-command g l = record {
  room : l.list.room ≡ l.fn.list.room;
  events : length l.events ≡ 1024;
  work : l.list.work ≤ l.fn.list.work + l.command-index;
  way : IsUnderWay kq_served l.fn.list.room l.fn.list.list l.fn.list.passes l.fn.page l.commands l.command-index l.list.list l.list.passes l.page;
}
