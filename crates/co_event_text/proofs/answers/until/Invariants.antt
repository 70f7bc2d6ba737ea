-- The events that are to come end as all of them do, and each leaves less time.
use Rattle.std.proofs.Common.{◌≡◌, ◌≤◌, length}
use Rattle.co_event.specs.Events.{Events}
use Rattle.co_event.specs.EventTimers.{first_deadline}
use Rattle.co_event.specs.StandsFor.{StandsFor}
use Rattle.co_event_text.specs.Written.{left_by}
use Rattle.co_event_text.proofs.Written.{Halfway}
use Rattle.co_event_text.proofs.answers.until.Given as goal

abbrev pub decreases-loop-event : goal.decreases-loop-event
decreases-loop-event l = left_by l.time (first_deadline l.queue)

abbrev pub invariant-loop-event : goal.invariant-loop-event
invariant-loop-event l = record {
  size : l.queue.timers.size ≡ l.fn.queue.timers.size;
  room : l.queue.timers.size ≤ length l.out;
  halfway : (e : Events) → StandsFor l.fn.queue e → Halfway l.time l.fn.page l.page l.queue e;
}
