-- What an answer does to the page and to the queue.
use Rattle.std.specs.Prelude.{◌≡◌, ℕ, ◌+◌, ◌-◌, List, ◌++◌, Option, Some, None}
use Rattle.co_text.specs.Lines.{text}
use Rattle.co_event.specs.Events.{Events}
use Rattle.co_event.specs.EventTimers.{EventTimers}
use Rattle.co_event.specs.StandsFor.{StandsFor}
use Rattle.co_event_text.specs.Answers.{Answered}

-- For whatever events the queue stood, their lines come to the page, and the queue then stands for the events after them.
pub record IsPageWritten (before after : EventTimers) (page then : List ℕ) (answer : Events → Answered) : Type 0 where
  pub outcome : (e : Events) → StandsFor before e → (then ≡ page ++ text (answer e).1) × StandsFor after (answer e).0

-- how far time t lies behind a moment, counted from 1
abbrev pub left_by : ℕ → Option ℕ → ℕ
left_by t None = 0
left_by t (Some moment) = t + 1 - moment
