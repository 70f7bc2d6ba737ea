-- What the command `itimer` writes.
use Rattle.std.specs.Prelude.{ℕ, List, [], ◌∷◌, Result, decimal, codes}
use Rattle.co_text.specs.Fallible.{Refusal}
use Rattle.co_text.specs.Values.{Word}
use Rattle.co_text.specs.Written.{units_word}
use Rattle.co_batch.specs.Answers.{Answering, answer_text}
use Rattle.co_itimer.specs.declared.timer.Itimerval.{Itimerval}
use Rattle.co_batch_text.specs.declared.itimer.command.TimerCommand.{TimerCommand}
use Rattle.co_batch_text.specs.declared.itimer.command.TimerCommand.TheVariants.{Set, Get, Tick, Alarm}
use Rattle.co_itimer.specs.Itimers.{once}
use Rattle.co_itimer.specs.Timers.{Timers, opening, value_of, set, ticked, expirations, alarm_of, alarmed}
use Rattle.co_batch_text.specs.Itimer.Commands.{timer_language}

-- a word, a value and an interval
abbrev pub value_words : Word → Itimerval → List Word
value_words w v = w ∷ units_word v.value ∷ units_word v.interval ∷ []

-- the words of a command's answer
abbrev pub answer_words : Timers → TimerCommand → List Word
answer_words s (Set p to) = value_words (codes "was") (value_of s p)
answer_words s (Get p) = value_words (codes "is") (value_of s p)
answer_words s (Tick t) = codes "ticked" ∷ decimal (expirations s t) ∷ []
answer_words s (Alarm p) = codes "alarm" ∷ decimal (once (alarm_of s p)) ∷ []

abbrev pub after : Timers → TimerCommand → Timers
after s (Set p to) = set s p to
after s (Get p) = s
after s (Tick t) = ticked s t
after s (Alarm p) = alarmed s p

-- the interval timers as a service of commands
abbrev pub answering : Answering TimerCommand Timers
answering = record { opens = opening; after = λ _ s c. after s c; answer = λ _ s c. answer_words s c ∷ [] }

-- what the command `itimer` writes for these bytes, or why it refuses them
abbrev pub itimer_text : List ℕ → Result (List ℕ) Refusal
itimer_text bytes = answer_text answering timer_language bytes
