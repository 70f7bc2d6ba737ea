use Rattle.std.proofs.Common.{◌≡◌, ◌++◌, take, map}
use Rattle.co_text.specs.Lines.{text}
use Rattle.co_batch_text.specs.Kq.Answers.{event_words}
use Rattle.co_batch_text.proofs.kq.answers.print_events.Given as goal

abbrev pub invariant-loop-event : goal.invariant-loop-event
invariant-loop-event l = l.page ≡ l.initial.page ++ text (map event_words (take l.event-index l.events))
