-- What the command `event` writes: each command is answered by events alone.
use Rattle.std.specs.Prelude.{ℕ, zero, suc, Bool, false, List, [], ◌∷◌, ◌++◌, length, map, ℤ, Option, Some, None, Result, nat_le, decimal, codes, if◌then◌else◌}
use Rattle.std.specs.Fmt.{signed_decimal}
use Rattle.co_sbt.specs.Time.{sat_add}
use Rattle.co_program.specs.declared.When.{When}
use Rattle.co_program.specs.declared.When.TheVariants.{After, At}
use Rattle.co_text.specs.Fallible.{Refusal}
use Rattle.co_text.specs.Values.{Word}
use Rattle.co_text.specs.Written.{units_word}
use Rattle.co_batch.specs.Answers.{Answering, answer_text}
use Rattle.co_event.specs.declared.Armed.{Armed}
use Rattle.co_event.specs.declared.Event.{Event}
use Rattle.co_event.specs.Events.{Events, no_events, next_moment}
use Rattle.co_event.specs.Calls.{arm, stop, take, settle}
use Rattle.co_event_text.specs.declared.command.EventCommand.{EventCommand}
use Rattle.co_event_text.specs.declared.command.EventCommand.TheVariants.{Arm, Stop, Until}
use Rattle.co_event_text.specs.Commands.{event_language}

-- what is pending after a command, and the lines that answer it
abbrev pub Answered : Type 0
Answered = Events × List (List Word)

-- the time from which an arming may fire, where the clock has run up to now
abbrev pub earliest_of : ℕ → When → ℕ
earliest_of now (After t) = sat_add now t
earliest_of now (At t) = t

abbrev pub armed_words : Armed → List Word
armed_words armed = codes "armed" ∷ signed_decimal armed.code ∷ units_word armed.due ∷ []

abbrev pub stopped_words : ℤ → List Word
stopped_words code = codes "stopped" ∷ signed_decimal code ∷ []

abbrev pub fired_words : ℕ → List Word
fired_words i = codes "fired" ∷ decimal i ∷ []

abbrev pub until_words : ℕ → List Word
until_words t = codes "until" ∷ units_word t ∷ []

-- an event, and the callouts that fire at it
abbrev pub event_lines : Event → List ℕ → List (List Word)
event_lines event numbers = (codes "event" ∷ units_word event.at ∷ decimal event.count ∷ []) ∷ map fired_words numbers

-- a moment comes by time t
abbrev pub comes_by : ℕ → Option ℕ → Bool
comes_by t None = false
comes_by t (Some moment) = nat_le moment t

-- the next event, where it comes by time t
abbrev pub take_by : ℕ → Events → Events × (Option Event × List ℕ)
take_by t e = if comes_by t (next_moment e) then take e else (e, (None, []))

-- the clock settles at time t
abbrev pub until_answered : ℕ → Events → Answered
until_answered t e = ((settle e t).0, until_words t ∷ [])

-- an event, and what comes after it; where none comes, the clock settles
abbrev pub with_event : ℕ → Events × (Option Event × List ℕ) → Answered → Answered
with_event t (e, (None, numbers)) rest = until_answered t e
with_event t (e, (Some event, numbers)) rest = (rest.0, event_lines event numbers ++ rest.1)

-- the events that come by time t, at most so many, and then the clock settles
abbrev pub events_by : ℕ → ℕ → Events → Answered
events_by t zero e = until_answered t e
events_by t (suc most) e = with_event t (take_by t e) (events_by t most (take_by t e).0)

-- each event takes at least one of what is pending, so there are no more of them
abbrev pub run_until : ℕ → Events → Answered
run_until t e = events_by t (length e.pending) e

-- a command's answer
abbrev pub answered : EventCommand → Events → Answered
answered (Arm i when prec) e = ((arm e i (earliest_of e.now when) prec).0, armed_words (arm e i (earliest_of e.now when) prec).1 ∷ [])
answered (Stop i) e = ((stop e i).0, stopped_words (stop e i).1 ∷ [])
answered (Until t) e = run_until t e

-- events alone as a service of commands
abbrev pub answering : Answering EventCommand Events
answering = record { opens = λ _. no_events; after = λ _ e c. (answered c e).0; answer = λ _ e c. (answered c e).1 }

-- what the command `event` writes for these bytes, or why it refuses them
abbrev pub event_text : List ℕ → Result (List ℕ) Refusal
event_text bytes = answer_text answering event_language bytes
