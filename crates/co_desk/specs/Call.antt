-- A caller's operation, section by section.
use Rattle.std.specs.Prelude.{◌≡◌, ℕ, List, [], ◌∷◌, ◌++◌, map, ◌<◌}
use Rattle.std.specs.declared.option.Option.{Option}
use Rattle.std.specs.declared.option.Option.TheVariants.{Some, None}
use Rattle.co_object.specs.declared.note.Entry.{Entry}
use Rattle.co_object.specs.declared.note.Note.{Note}
use Rattle.co_object.specs.declared.note.Place.TheVariants as at
use Rattle.co_object.specs.declared.note.AnyEntry.TheVariants as of
use Rattle.co_object.specs.declared.op.CallOp.{CallOp}
use Rattle.co_object.specs.declared.op.CallOp.TheVariants.{Plain}
use Rattle.co_object.specs.declared.op.PlainOp.TheVariants.{Reset, Schedule}
use Rattle.co_object.specs.declared.op.Op.TheVariants.{Call}
use Rattle.co_object.specs.declared.reply.Reply.{Reply}
use Rattle.co_object.specs.declared.reply.Reply.TheVariants.{Armed}
use Rattle.co_object.specs.declared.queue.QOp.TheVariants.{Insert, Remove}
use Rattle.co_object.specs.declared.queue.QReply.TheVariants.{At, Off}
use Rattle.co_object.specs.Group.{Placed, placed, off_of, group, removal_notes}
use Rattle.co_object.specs.History.{state}
use Rattle.co_wheel.specs.Parcel.{Parcel}
use Rattle.co_wheel.specs.Turns.{Turn, removal}
use Rattle.co_desk.specs.declared.told.Inserted.{Inserted}
use Rattle.co_desk.specs.declared.told.Told.{Told}
use Rattle.co_desk.specs.Outcomes.{noted_entry, noted_turn}
use Rattle.co_desk.specs.Params.{spec_at}
use Rattle.co_desk.specs.Views.{PassesView, seen_of}
use Rattle.co_desk.specs.Writes.{Writes}

-- the entry of a caller's operation
abbrev pub call_entry : PassesView → ℕ → CallOp → Reply → Entry
call_entry p act op reply = record { actor = p.actor; act = act; op = Call op; reply = reply }

abbrev pub notes_with : Option Note → List Note
notes_with None = []
notes_with (Some note) = note ∷ []

-- the notes that there are
abbrev pub notes_in : List (Option Note) → List Note
notes_in [] = []
notes_in (o ∷ os) = notes_with o ++ notes_in os

-- where an arming goes that leaves its CPU
pub record Target : Type 0 where
  pub cpu : ℕ
  pub n : ℕ
  pub due : ℕ

-- where what leaves a wheel goes
abbrev pub target_in : Option Parcel → Option Target
target_in None = None
target_in (Some q) = Some (record { cpu = q.arming.cpu; n = q.arming.n; due = q.arming.due })

-- the Insert of callout i at its target, as the queue there will answer it
abbrev pub landing : PassesView → (act i : ℕ) → Option Target → ℕ → List Placed
landing p act i None time = []
landing p act i (Some t) time = (at.Cpu t.cpu, of.Cpu (record { actor = p.actor; act = act; op = Insert i t.n t.due; reply = At time })) ∷ []

-- the time of the Insert: of one that is still to come, or of one that there is
abbrev pub time_of : Option Target → (time later : ℕ) → ℕ
time_of None time later = time
time_of (Some t) time later = later

-- these notes, with the Insert of what leaves, are the notes of the call. `time` is the answer to an Insert among them
pub record IsGroupBut (p : PassesView) (act i : ℕ) (op : CallOp) (reply : Reply) (leaves : Option Target) (notes : List Note) (q : PassesView) : Type 0 where
  pub time : ℕ
  pub group_is : (later : ℕ) → map placed notes ++ landing p act i leaves later
      ≡ group i (call_entry p act op reply) (state (spec_at p.params i) (seen_of q i)) (time_of leaves time later)

-- one section of a call: the notes so far, and what leaves for another CPU
pub record IsAnswer (p : PassesView) (act i : ℕ) (op : CallOp) (reply : Reply) (leaves : Option Target) (notes : List Note) (q : PassesView) : Type 0 where
  pub group_but : IsGroupBut p act i op reply leaves notes q
  pub written : Writes p notes q

-- a call with its landing: its notes are its group. `time` is the answer to an Insert among them
pub record IsCalled (p : PassesView) (act i : ℕ) (op : CallOp) (reply : Reply) (notes : List Note) (q : PassesView) : Type 0 where
  pub time : ℕ
  pub group_is : map placed notes ≡ group i (call_entry p act op reply) (state (spec_at p.params i) (seen_of q i)) time
  pub written : Writes p notes q

-- the last note is still free
abbrev pub HasFreeNote : List (Option Note) → Type 0
HasFreeNote notes = (first : Option Note) × (second : Option Note) × (notes ≡ first ∷ second ∷ None ∷ [])

-- a CPU that an operation names exists
abbrev pub NamesCpu : ℕ → CallOp → Type 0
NamesCpu cpus (Plain (Reset due prec func arg (Some cpu))) = cpu < cpus
NamesCpu cpus (Plain (Schedule due prec (Some cpu))) = cpu < cpus
NamesCpu cpus _ = Unit {0}

-- the due time that an operation names
abbrev pub due_named : CallOp → ℕ
due_named (Plain (Reset due prec func arg cpu)) = due
due_named (Plain (Schedule due prec cpu)) = due
due_named _ = 0

-- the number of the arming that a reply accepts
abbrev pub number_accepted : Reply → ℕ
number_accepted (Armed code n cpu off) = n
number_accepted _ = 0

-- what the queue is asked for an arming that is to stand in it
abbrev pub insert_turns : (i n due : ℕ) → Option ℕ → List Turn
insert_turns i n due None = []
insert_turns i n due (Some time) = (Insert i n due, At time) ∷ []

abbrev pub insertion_notes : PassesView → (act cpu i n due : ℕ) → Option ℕ → List Placed
insertion_notes p act cpu i n due None = []
insertion_notes p act cpu i n due (Some time) = (at.Cpu cpu, of.Cpu (record { actor = p.actor; act = act; op = Insert i n due; reply = At time })) ∷ []

-- the notes of what a call told that it did: what it took out of a queue, its entry, and what it put in
abbrev pub removal_told : (actor act i : ℕ) → Option ℕ → (pos : ℕ) → List Note
removal_told actor act i None pos = []
removal_told actor act i (Some cpu) pos = noted_turn actor act cpu (Remove i) Off pos ∷ []

abbrev pub noted_insert : (actor act i : ℕ) → Inserted → Note
noted_insert actor act i x = noted_turn actor act x.cpu (Insert i x.n x.due) (At x.at) x.pos

abbrev pub insertion_told : (actor act i : ℕ) → Option Inserted → List Note
insertion_told actor act i None = []
insertion_told actor act i (Some x) = noted_insert actor act i x ∷ []

abbrev pub told_notes : (actor act i : ℕ) → CallOp → Told → List Note
told_notes actor act i op t =
    removal_told actor act i (off_of t.out.reply) t.removal
    ++ noted_entry i (record { actor = actor; act = act; op = Call op; reply = t.out.reply }) t.entry
    ∷ insertion_told actor act i t.insertion

-- what a call asks of the queue
abbrev pub call_turns : ℕ → CallOp → Reply → Option ℕ → List Turn
call_turns i op reply inserted = removal i (off_of reply) ++ insert_turns i (number_accepted reply) (due_named op) inserted

-- the notes of a call's section on its callout's CPU
abbrev pub section_notes : PassesView → (act cpu i : ℕ) → CallOp → Reply → Option ℕ → List Placed
section_notes p act cpu i op reply inserted =
    removal_notes i (call_entry p act op reply) (off_of reply)
    ++ ((at.Timer i, of.Timer (call_entry p act op reply)) ∷ [])
    ++ insertion_notes p act cpu i (number_accepted reply) (due_named op) inserted
