-- The language of the command `itimer`.
use Rattle.std.specs.Prelude.{ℕ, Bool, true, List, Option, Some, None, Result, Ok, Err, nat_lt, codes, if◌then◌else◌}
use Rattle.co_text.specs.Fallible.{◌>>=◌, ◌>>◌}
use Rattle.co_text.specs.Values.{Word, is_word, number, time}
use Rattle.co_text.specs.Taking.{next, ended, lone}
use Rattle.co_text.specs.declared.Cause.{Cause}
use Rattle.co_text.specs.declared.Cause.TheVariants as cause
use Rattle.co_batch.specs.Language.{Language}
use Rattle.co_batch_text.specs.declared.itimer.command.TimerCommand.{TimerCommand}
use Rattle.co_batch_text.specs.declared.itimer.command.TimerCommand.TheVariants.{Set, Get, Tick, Alarm}

-- the words after `set`: a process, a value and an interval
abbrev pub set_form : List Word → Result TimerCommand Cause
set_form ws = do
  process ← next number ws
  value ← next time process.1
  interval ← next time value.1
  ended interval.1
  Ok (Set process.0 (record { value = value.0; interval = interval.0 }))

abbrev pub form : Word → List Word → Result TimerCommand Cause
form w ws = if is_word w (codes "set") then set_form ws
    else (if is_word w (codes "get") then lone number ws >>= (λ p. Ok (Get p))
    else (if is_word w (codes "tick") then lone time ws >>= (λ t. Ok (Tick t))
    else (if is_word w (codes "alarm") then lone number ws >>= (λ p. Ok (Alarm p))
    else Err cause.Form)))

-- the process exists
abbrev pub fits : ℕ → TimerCommand → Bool
fits processes (Set p to) = nat_lt p processes
fits processes (Get p) = nat_lt p processes
fits processes (Tick t) = true
fits processes (Alarm p) = nat_lt p processes

abbrev pub tick_time : TimerCommand → Option ℕ
tick_time (Tick t) = Some t
tick_time _ = None

abbrev pub timer_language : Language TimerCommand
timer_language = record { name = codes "itimer"; counted = codes "processes"; form = form; fits = fits; moment = tick_time }
