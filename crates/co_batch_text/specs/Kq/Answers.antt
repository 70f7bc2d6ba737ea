-- What the command `kq` writes.
use Rattle.std.specs.Prelude.{ℕ, List, [], ◌∷◌, length, map, Option, Some, None, Result, decimal, codes}
use Rattle.co_text.specs.Fallible.{Refusal}
use Rattle.co_text.specs.Values.{Word}
use Rattle.co_batch.specs.Answers.{Answering, answer_text}
use Rattle.co_kq.specs.declared.kevent.Add.{Add as AddAnswer}
use Rattle.co_kq.specs.declared.kevent.Add.TheVariants.{Added, BadValue, Full}
use Rattle.co_kq.specs.declared.kevent.Event.{Event}
use Rattle.co_batch_text.specs.declared.kq.command.KqCommand.{KqCommand}
use Rattle.co_batch_text.specs.declared.kq.command.KqCommand.TheVariants.{Add, Delete, Tick, Events}
use Rattle.co_kq.specs.Kevents.{Kevents, opening, span_of, add_answer, added, deleted_count, deleted, ticked, expirations, events, delivered}
use Rattle.co_batch_text.specs.Kq.Commands.{kq_language}

abbrev pub add_word : AddAnswer → Word
add_word Added = codes "added"
add_word BadValue = codes "value"
add_word Full = codes "full"

abbrev pub deleted_words : Option ℕ → List Word
deleted_words None = codes "noentry" ∷ []
deleted_words (Some count) = codes "deleted" ∷ decimal count ∷ []

-- an ident and its expirations
abbrev pub event_words : Event → List Word
event_words e = decimal e.ident ∷ decimal e.count ∷ []

abbrev pub events_lines : List Event → List (List Word)
events_lines es = (codes "events" ∷ decimal (length es) ∷ []) ∷ map event_words es

-- the lines of a command's answer, where there is room for so many knotes
abbrev pub answer_lines : ℕ → Kevents → KqCommand → List (List Word)
answer_lines room s (Add ident value unit oneshot) = (add_word (add_answer room s ident (span_of value unit)) ∷ []) ∷ []
answer_lines room s (Delete ident) = deleted_words (deleted_count s ident) ∷ []
answer_lines room s (Tick t) = (codes "ticked" ∷ decimal (expirations s t) ∷ []) ∷ []
answer_lines room s (Events most) = events_lines (events s most)

abbrev pub after : ℕ → Kevents → KqCommand → Kevents
after room s (Add ident value unit oneshot) = added room s ident (span_of value unit) oneshot
after room s (Delete ident) = deleted s ident
after room s (Tick t) = ticked s t
after room s (Events most) = delivered s most

-- the kevent list as a service of commands
abbrev pub answering : Answering KqCommand Kevents
answering = record { opens = λ _. opening; after = after; answer = answer_lines }

-- what the command `kq` writes for these bytes, or why it refuses them
abbrev pub kq_text : List ℕ → Result (List ℕ) Refusal
kq_text bytes = answer_text answering kq_language bytes
