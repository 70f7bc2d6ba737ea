-- The language of the command `kq`.
use Rattle.std.specs.Prelude.{ℕ, ◌^◌, Bool, true, ◌&&◌, List, Option, Some, None, Result, Ok, Err, nat_lt, nat_le, codes, if◌then◌else◌}
use Rattle.co_text.specs.Fallible.{◌>>=◌, ◌>>◌}
use Rattle.co_text.specs.Values.{Word, is_word, number, time}
use Rattle.co_text.specs.Taking.{next, ended, option, lone}
use Rattle.co_text.specs.declared.Cause.{Cause}
use Rattle.co_text.specs.declared.Cause.TheVariants as cause
use Rattle.co_batch.specs.Language.{Language}
use Rattle.co_kq.specs.declared.kevent.Unit.{Unit as TimeUnit}
use Rattle.co_kq.specs.declared.kevent.Unit.TheVariants as unit
use Rattle.co_batch_text.specs.declared.kq.command.KqCommand.{KqCommand}
use Rattle.co_batch_text.specs.declared.kq.command.KqCommand.TheVariants.{Add, Delete, Tick, Events}

abbrev pub unit_of : Word → Result TimeUnit Cause
unit_of w = if is_word w (codes "s") then Ok unit.Seconds
    else (if is_word w (codes "ms") then Ok unit.Milli
    else (if is_word w (codes "us") then Ok unit.Micro
    else (if is_word w (codes "ns") then Ok unit.Nano
    else Err cause.Form)))

-- the words after `add`: an ident, a value, its unit, then `oneshot` or nothing
abbrev pub add_form : List Word → Result KqCommand Cause
add_form ws = do
  ident ← next number ws
  value ← next number ident.1
  unit ← next unit_of value.1
  oneshot ← option (codes "oneshot") unit.1
  ended oneshot.1
  Ok (Add ident.0 value.0 unit.0 oneshot.0)

abbrev pub form : Word → List Word → Result KqCommand Cause
form w ws = if is_word w (codes "add") then add_form ws
    else (if is_word w (codes "delete") then lone number ws >>= (λ ident. Ok (Delete ident))
    else (if is_word w (codes "tick") then lone time ws >>= (λ t. Ok (Tick t))
    else (if is_word w (codes "events") then lone number ws >>= (λ room. Ok (Events room))
    else Err cause.Form)))

-- an ident and a value have 64 bits, and 1024 events are asked for at most
abbrev pub fits : ℕ → KqCommand → Bool
fits knotes (Add ident value unit oneshot) = nat_lt ident (2 ^ 64) && nat_lt value (2 ^ 64)
fits knotes (Delete ident) = nat_lt ident (2 ^ 64)
fits knotes (Tick t) = true
fits knotes (Events room) = nat_le room 1024

abbrev pub tick_time : KqCommand → Option ℕ
tick_time (Tick t) = Some t
tick_time _ = None

abbrev pub kq_language : Language KqCommand
kq_language = record { name = codes "kq"; counted = codes "knotes"; form = form; fits = fits; moment = tick_time }
