-- What it means that an actor's notes follow its program.
use Rattle.std.specs.Prelude.{◌≡◌, ℕ, zero, suc, ◌+◌, ◌≤◌, ⊤, Bool, false, List, [], ◌∷◌, length, take, Option, None, is_some}
use Rattle.co_object.specs.declared.Note.{Note}
use Rattle.co_object.specs.declared.Place.{Place}
use Rattle.co_object.specs.declared.Place.TheVariants as place
use Rattle.co_object.specs.declared.AnyEntry.{AnyEntry}
use Rattle.co_object.specs.declared.AnyEntry.TheVariants.{Timer, Cpu, Own}
use Rattle.co_object.specs.declared.Entry.{Entry}
use Rattle.co_object.specs.declared.QEntry.{QEntry}
use Rattle.co_object.specs.declared.Op.{Op}
use Rattle.co_object.specs.declared.Op.TheVariants.{Call, Run}
use Rattle.co_object.specs.declared.QOp.{QOp}
use Rattle.co_object.specs.declared.QOp.TheVariants.{Remove, Scan}
use Rattle.co_object.specs.declared.QReply.TheVariants.{Off}
use Rattle.co_program.specs.declared.script.Script.{Script}
use Rattle.co_program.specs.Cursor.{Cursor, start_of}
use Rattle.co_program.specs.declared.action.Asked.{Asked}
use Rattle.co_program.specs.declared.action.Asked.TheVariants.{Callout, Queue, Itself}
use Rattle.co_program.specs.Action.{Action, Nothing, Silent, Take, Asks, action_for, scans_first, spec_at}
use Rattle.co_program.specs.Advance.{advance}
use Rattle.co_object.specs.Stand.{off}
use Rattle.co_object.specs.History.{state}
use Rattle.co_object.specs.Group.{off_of}

-- the histories of the callouts and the journals of the CPUs, by number
pub record Histories : Type 0 where
  pub timers : ℕ → List Entry
  pub cpus : ℕ → List QEntry

-- ---- what the other histories say of a note

-- whether the callout stands in a queue once this note is made
abbrev pub listed_after : Script → Histories → Place → ℕ → Bool
listed_after s H (place.Timer i) pos = is_some (off (state (spec_at s i) (take (pos + 1) (H.timers i))))
listed_after s H place pos = false

abbrev pub one_scan : QOp → ℕ
one_scan (Scan now) = 1
one_scan op = 0

abbrev pub scan_count : List QEntry → ℕ
scan_count [] = 0
scan_count (e ∷ es) = one_scan e.op + scan_count es

-- the number of Scans before a note of a CPU's journal
abbrev pub scans_before : Histories → Place → ℕ → ℕ
scans_before H (place.Cpu cpu) pos = scan_count (take pos (H.cpus cpu))
scans_before H place pos = 0

-- ---- whether a note is what the program gives

-- a call's entry, whose off is the CPU from which the callout was just removed, or before it that Remove; and an entry of a service
abbrev pub FitsCallout : ℕ → ℕ → ℕ → Op → Option ℕ → Place → AnyEntry → Type 0
FitsCallout a act i (Call op) removed (place.Timer j) (Timer e) =
    (j ≡ i) × (e ≡ record { actor = a; act = act; op = Call op; reply = e.reply }) × (off_of e.reply ≡ removed)
FitsCallout a act i (Call op) removed (place.Cpu cpu) (Cpu e) =
    (removed ≡ None) × (e ≡ record { actor = a; act = act; op = Remove i; reply = Off })
FitsCallout a act i (Run op) removed (place.Timer j) (Timer e) =
    (j ≡ i) × (e ≡ record { actor = a; act = act; op = Run op; reply = e.reply })
FitsCallout a act i op removed place entry = ⊥

abbrev pub FitsQueue : ℕ → ℕ → ℕ → QOp → Place → AnyEntry → Type 0
FitsQueue a act cpu op (place.Cpu x) (Cpu e) = (x ≡ cpu) × (e ≡ record { actor = a; act = act; op = op; reply = e.reply })
FitsQueue a act cpu op place entry = ⊥

abbrev pub FitsOwn : ℕ → ℕ → Asked → Place → AnyEntry → Type 0
FitsOwn a act (Itself kind) (place.Actor b) (Own e) = (b ≡ a) × (e ≡ record { actor = a; act = act; kind = kind })
FitsOwn a act asked place entry = ⊥

abbrev pub Fits : ℕ → Cursor → Action → Place → AnyEntry → Type 0
Fits a c Nothing place entry = ⊥
Fits a c (Silent to) place entry = ⊥
Fits a c (Take held to) place entry = ⊥
Fits a c (Asks act (Callout i op)) place entry = FitsCallout a act i op c.removed place entry
Fits a c (Asks act (Queue cpu op)) place entry = FitsQueue a act cpu op place entry
Fits a c (Asks act (Itself kind)) place entry = FitsOwn a act (Itself kind) place entry

-- ---- a list of notes

-- past the steps without a note: each of them ends an act, but for the last release and the one that a stage of a service may have
abbrev pub past : Script → ℕ → ℕ → Cursor → Action → Cursor
past s a zero c action = c
past s a (suc fuel) c (Silent to) = past s a fuel to (action_for s a to)
past s a (suc fuel) c (Take held to) = past s a fuel to (action_for s a to)
past s a (suc fuel) c action = c

abbrev pub at_next_note : Script → ℕ → Cursor → Cursor
at_next_note s a c = past s a (suc (length c.left)) c (action_for s a c)

-- the note is the next one of the program, and comes after the Scans that it waits for
pub record IsNextNote (s : Script) (H : Histories) (a : ℕ) (c : Cursor) (note : Note) : Type 0 where
  pub fits : Fits a c (action_for s a c) note.place note.entry
  pub scanned : scans_first c ≤ scans_before H note.place note.pos

abbrev pub goes_on : Script → Histories → Cursor → Note → Cursor
goes_on s H c note = advance s c (listed_after s H note.place note.pos) note.place note.entry

-- each note is the next one of the program, from this place in it on
abbrev pub AreNext : Script → Histories → ℕ → Cursor → List Note → Type 0
AreNext s H a c [] = ⊤
AreNext s H a c (note ∷ notes) = IsNextNote s H a (at_next_note s a c) note × AreNext s H a (goes_on s H (at_next_note s a c) note) notes

-- the place in the program after these notes
abbrev pub cursor_after : Script → Histories → ℕ → Cursor → List Note → Cursor
cursor_after s H a c [] = c
cursor_after s H a c (note ∷ notes) = cursor_after s H a (goes_on s H (at_next_note s a c) note) notes

-- the notes are those of the actor's whole program, each once and in order
pub record Follows (s : Script) (H : Histories) (a : ℕ) (notes : List Note) : Type 0 where
  pub each : AreNext s H a (start_of s a) notes
  pub whole : action_for s a (at_next_note s a (cursor_after s H a (start_of s a) notes)) ≡ Nothing
