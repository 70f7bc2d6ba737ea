-- What is to come ends as all of it does.
use Rattle.std.proofs.Common.{◌≡◌, ◌≤◌, ◌+◌, length}
use Rattle.co_batch_text.specs.Ends.{IsUnderWay}
use Rattle.co_batch_text.specs.Itimer.Ends.{timer_served}
use Rattle.co_batch_text.proofs.itimer.answers.answer_all.Given as goal

abbrev pub invariant-loop-command : goal.invariant-loop-command
invariant-loop-command g l = record {
  processes : length l.timers.alone.timers ≡ length l.fn.timers.alone.timers;
  work : l.timers.work ≤ l.fn.timers.work + l.command-index;
  way : IsUnderWay timer_served (length l.fn.timers.alone.timers) l.fn.timers.alone l.fn.timers.seen l.fn.page l.commands l.command-index l.timers.alone l.timers.seen l.page;
}
