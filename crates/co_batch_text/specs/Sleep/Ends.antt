-- What a run does to the service.
use Rattle.std.specs.Prelude.{ℕ, ◌+◌, List}
use Rattle.co_service.specs.Closing.{ClosingView}
use Rattle.co_batch_text.specs.Ends.{Served, EndsBatch}
use Rattle.co_batch_text.specs.Sleep.Answers.{answering}
use Rattle.co_batch_text.specs.Sleep.Clock.{Answer, Told, Ticked, Clocked, obey}
use Rattle.co_batch_text.specs.Sleep.Commands.{sleep_language}
use Rattle.co_batch_text.specs.declared.sleep.command.SleepCommand.{SleepCommand}

-- how many timers came due by this answer
abbrev pub calls_in : Answer → ℕ
calls_in (Told r) = 0
calls_in (Ticked out late) = out + late

abbrev pub sleep_served : Served SleepCommand Clocked
sleep_served = record { language = sleep_language; answering = answering; counted = λ sleepers c x. calls_in (obey sleepers c x).1 }

-- the end of the service that answered these bytes
abbrev pub EndsRun : List ℕ → ClosingView → Type 0
EndsRun bytes closing = EndsBatch sleep_served bytes closing
