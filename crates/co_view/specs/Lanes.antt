-- The text of `lanes`: a column for each actor, a row for each note of an order.
use Rattle.std.specs.Prelude.{ℕ, zero, suc, ◌==◌, ◌||◌, Bool, true, false, List, [], ◌∷◌, ◌++◌, Option, Some, None, codes, decimal, flat_map, slice_get, if◌then◌else◌}
use Rattle.std.specs.List.{range_with_len}
use Rattle.co_object.specs.declared.Place.{Place}
use Rattle.co_object.specs.declared.Place.TheVariants as place
use Rattle.co_object.specs.declared.AnyEntry.{AnyEntry}
use Rattle.co_object.specs.declared.AnyEntry.TheVariants as of
use Rattle.co_object.specs.declared.QOp.{QOp}
use Rattle.co_object.specs.declared.QOp.TheVariants as queue
use Rattle.co_object.specs.declared.QReply.{QReply}
use Rattle.co_object.specs.declared.QReply.TheVariants as answer
use Rattle.co_object.specs.declared.Op.{Op}
use Rattle.co_object.specs.declared.Op.TheVariants.{Call, Run}
use Rattle.co_object.specs.History.{cpu_of}
use Rattle.co_program.specs.declared.script.Script.{Script}
use Rattle.co_program.specs.Actors.{actor_count}
use Rattle.co_grammar.specs.Spelling.{actor_word}
use Rattle.co_report.specs.declared.line.Line.{Line}
use Rattle.co_object.specs.Lists.{actor_of}
use Rattle.co_view.specs.declared.lanes.Focus.{Focus}
use Rattle.co_view.specs.declared.lanes.Focus.TheVariants as focus
use Rattle.co_view.specs.Words.{note_text}

-- ---- which notes are shown

-- a queue's operation names this callout
abbrev pub asks_of : ℕ → QOp → Bool
asks_of i (queue.Insert j n t) = j == i
asks_of i (queue.Remove j) = j == i
asks_of i op = false

abbrev pub tells_of : ℕ → QReply → Bool
tells_of i (answer.Got j n at) = j == i
tells_of i reply = false

-- a note of the callout, or of a queue that names it
abbrev pub is_of_timer : ℕ → Place → AnyEntry → Bool
is_of_timer i (place.Timer j) entry = j == i
is_of_timer i p (of.Cpu e) = asks_of i e.op || tells_of i e.reply
is_of_timer i p entry = false

-- a service on this CPU
abbrev pub serves_on : ℕ → Op → Bool
serves_on c (Call op) = false
serves_on c (Run op) = cpu_of op == c

-- a note of the CPU's queue, or of a service on it
abbrev pub is_of_cpu : ℕ → Place → AnyEntry → Bool
is_of_cpu c (place.Cpu d) entry = d == c
is_of_cpu c p (of.Timer e) = serves_on c e.op
is_of_cpu c p entry = false

abbrev pub concerns : Focus → Line → Bool
concerns focus.All l = true
concerns (focus.Timer i) l = is_of_timer i l.place l.entry
concerns (focus.Cpu c) l = is_of_cpu c l.place l.entry

-- ---- the text

-- the lanes of the actors before the one whose note it is: `|` and a tab each
abbrev pub passing : ℕ → List ℕ
passing zero = []
passing (suc a) = 124 ∷ 9 ∷ passing a

-- the number of its line in the report, and the note in its actor's column
abbrev pub lane_row : Line → List ℕ
lane_row l = decimal l.line ++ (9 ∷ (passing (actor_of l.entry) ++ (note_text l.place l.entry ++ 10 ∷ [])))

-- the row of a note that is shown
abbrev pub shown_row : Focus → Option Line → List ℕ
shown_row f (Some l) = if concerns f l then lane_row l else []
shown_row f None = []

abbrev pub row_at : Focus → List Line → ℕ → List ℕ
row_at f lines i = shown_row f (slice_get lines i)

-- the names of the actors
abbrev pub header_text : Script → List ℕ
header_text s = codes "line" ++ (flat_map (λ a. 9 ∷ actor_word s a) (range_with_len 0 (actor_count s)) ++ 10 ∷ [])

abbrev pub lanes_text : Focus → Script → List Line → List ℕ → List ℕ
lanes_text f s lines order = header_text s ++ flat_map (row_at f lines) order
