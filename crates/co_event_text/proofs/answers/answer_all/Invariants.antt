-- The answers that are to come end as all of them do.
use Rattle.std.proofs.Common.{◌≡◌, ◌≤◌, length, drop}
use Rattle.co_event.specs.Events.{Events}
use Rattle.co_event.specs.StandsFor.{StandsFor}
use Rattle.co_event_text.proofs.Written.{SoFar}
use Rattle.co_event_text.proofs.answers.answer_all.Given as goal

abbrev pub invariant-loop-command : goal.invariant-loop-command
invariant-loop-command l = record {
  size : l.queue.timers.size ≡ l.fn.queue.timers.size;
  room : l.queue.timers.size ≤ length l.out;
  so_far : (e : Events) → StandsFor l.fn.queue e → SoFar l.fn.queue.timers.size l.fn.page l.page l.queue l.commands (drop l.command-index l.commands) e;
}
