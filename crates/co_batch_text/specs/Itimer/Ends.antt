-- What a run does to the service.
use Rattle.std.specs.Prelude.{◌≡◌, ℕ, ◌+◌, ◌≤◌, List, length}
use Rattle.co_itimer.specs.Itimers.{ItimersView}
use Rattle.co_itimer.specs.Timers.{Timers, expirations}
use Rattle.co_service.specs.Closing.{ClosingView}
use Rattle.co_batch_text.specs.Ends.{Served, IsServed, EndsBatch}
use Rattle.co_batch_text.specs.Itimer.Answers.{answering}
use Rattle.co_batch_text.specs.Itimer.Commands.{timer_language}
use Rattle.co_batch_text.specs.declared.itimer.command.TimerCommand.{TimerCommand}
use Rattle.co_batch_text.specs.declared.itimer.command.TimerCommand.TheVariants.{Set, Get, Tick, Alarm}

-- the number that a tick is answered with, and else 0
abbrev pub count_of : Timers → TimerCommand → ℕ
count_of s (Set p to) = 0
count_of s (Get p) = 0
count_of s (Tick t) = expirations s t
count_of s (Alarm p) = 0

abbrev pub timer_served : Served TimerCommand Timers
timer_served = record { language = timer_language; answering = answering; counted = λ _ s c. count_of s c }

-- one command
pub record IsAnswered (v : ItimersView) (c : TimerCommand) (w : ItimersView) : Type 0 where
  pub served : IsServed timer_served (length v.alone.timers) v.alone v.seen c w.alone w.seen
  pub work : w.work ≤ v.work + 1
  pub processes : length w.alone.timers ≡ length v.alone.timers

-- the end of the service that answered these bytes
abbrev pub EndsRun : List ℕ → ClosingView → Type 0
EndsRun bytes closing = EndsBatch timer_served bytes closing
