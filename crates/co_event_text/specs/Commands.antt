-- The language of the command `event`.
use Rattle.std.specs.Prelude.{ℕ, Bool, true, List, Option, Some, None, Result, Ok, Err, nat_lt, codes, if◌then◌else◌}
use Rattle.co_text.specs.Fallible.{◌>>=◌, ◌>>◌, unless}
use Rattle.co_text.specs.Values.{Word, is_word, number, time}
use Rattle.co_text.specs.Taking.{next, option, lone}
use Rattle.co_text.specs.declared.Cause.{Cause}
use Rattle.co_text.specs.declared.Cause.TheVariants as cause
use Rattle.co_grammar.specs.Operands.{moment}
use Rattle.co_batch.specs.Language.{Language}
use Rattle.co_event_text.specs.declared.command.EventCommand.{EventCommand}
use Rattle.co_event_text.specs.declared.command.EventCommand.TheVariants.{Arm, Stop, Until}

-- the words after `arm`: a callout, `+T` or `=T`, then `pr` and the precision
abbrev pub arm_form : List Word → Result EventCommand Cause
arm_form ws = do
  callout ← next number ws
  when ← next moment callout.1
  stands ← option (codes "pr") when.1
  unless stands.0 cause.Form
  prec ← lone time stands.1
  Ok (Arm callout.0 when.0 prec)

abbrev pub form : Word → List Word → Result EventCommand Cause
form w ws = if is_word w (codes "arm") then arm_form ws
    else (if is_word w (codes "stop") then lone number ws >>= (λ i. Ok (Stop i))
    else (if is_word w (codes "until") then lone time ws >>= (λ t. Ok (Until t))
    else Err cause.Form))

-- the callout exists
abbrev pub fits : ℕ → EventCommand → Bool
fits callouts (Arm i when prec) = nat_lt i callouts
fits callouts (Stop i) = nat_lt i callouts
fits callouts (Until t) = true

-- the clock runs to the time of an `until`
abbrev pub clock_of : EventCommand → Option ℕ
clock_of (Until t) = Some t
clock_of _ = None

abbrev pub event_language : Language EventCommand
event_language = record { name = codes "event"; counted = codes "timers"; form = form; fits = fits; moment = clock_of }
