-- The language of the command `sleep`.
use Rattle.std.specs.Prelude.{ℕ, ◌^◌, Bool, true, ◌&&◌, List, Option, Some, None, Result, Ok, Err, nat_lt, codes, if◌then◌else◌}
use Rattle.co_text.specs.Fallible.{◌>>=◌}
use Rattle.co_text.specs.Values.{Word, is_word, number, time}
use Rattle.co_text.specs.Taking.{next, lone}
use Rattle.co_text.specs.declared.Cause.{Cause}
use Rattle.co_text.specs.declared.Cause.TheVariants as cause
use Rattle.co_batch.specs.Language.{Language}
use Rattle.co_batch_text.specs.declared.sleep.command.SleepCommand.{SleepCommand}
use Rattle.co_batch_text.specs.declared.sleep.command.SleepCommand.TheVariants.{Sleep, Wakeup, WakeupOne, Awake, Tick}

-- a count of ticks is below this number
abbrev pub most_ticks : ℕ
most_ticks = 2147483648

-- the words after `sleep`: a sleeper, a channel and the ticks
abbrev pub sleep_form : List Word → Result SleepCommand Cause
sleep_form ws = do
  sleeper ← next number ws
  channel ← next number sleeper.1
  ticks ← lone number channel.1
  Ok (Sleep sleeper.0 channel.0 ticks)

abbrev pub form : Word → List Word → Result SleepCommand Cause
form w ws = if is_word w (codes "sleep") then sleep_form ws
    else (if is_word w (codes "wakeup") then lone number ws >>= (λ c. Ok (Wakeup c))
    else (if is_word w (codes "wakeup1") then lone number ws >>= (λ c. Ok (WakeupOne c))
    else (if is_word w (codes "awake") then lone number ws >>= (λ i. Ok (Awake i))
    else (if is_word w (codes "tick") then lone time ws >>= (λ t. Ok (Tick t))
    else Err cause.Form))))

-- the sleeper exists, a channel has 64 bits, and the ticks are in their range
abbrev pub fits : ℕ → SleepCommand → Bool
fits sleepers (Sleep i chan timo) = nat_lt i sleepers && (nat_lt chan (2 ^ 64) && nat_lt timo most_ticks)
fits sleepers (Wakeup chan) = nat_lt chan (2 ^ 64)
fits sleepers (WakeupOne chan) = nat_lt chan (2 ^ 64)
fits sleepers (Awake i) = nat_lt i sleepers
fits sleepers (Tick t) = true

-- the clock runs to the time of a `tick`
abbrev pub clock_of : SleepCommand → Option ℕ
clock_of (Tick t) = Some t
clock_of _ = None

abbrev pub sleep_language : Language SleepCommand
sleep_language = record { name = codes "sleep"; counted = codes "sleepers"; form = form; fits = fits; moment = clock_of }
