-- The notes of one call on a callout.
use Rattle.std.specs.Prelude.{◌≡◌, ℕ, List, [], ◌∷◌, ◌++◌, map}
use Rattle.std.specs.declared.option.Option.{Option}
use Rattle.std.specs.declared.option.Option.TheVariants.{Some, None}
use Rattle.co_object.specs.declared.state.Arming.{Arming}
use Rattle.co_object.specs.declared.state.State.{State}
use Rattle.co_object.specs.declared.queue.QOp.TheVariants.{Insert, Remove}
use Rattle.co_object.specs.declared.queue.QReply.TheVariants.{At, Off}
use Rattle.co_object.specs.declared.reply.Reply.{Reply}
use Rattle.co_object.specs.declared.reply.Reply.TheVariants.{Armed, Stopped, Wait, Drained}
use Rattle.co_object.specs.declared.note.Entry.{Entry}
use Rattle.co_object.specs.declared.note.AnyEntry.{AnyEntry}
use Rattle.co_object.specs.declared.note.Place.{Place}
use Rattle.co_object.specs.declared.note.Note.{Note}
use Rattle.co_object.specs.declared.note.Place.TheVariants as at
use Rattle.co_object.specs.declared.note.AnyEntry.TheVariants as of
use Rattle.co_object.specs.Stand.{Stand, Nowhere, Listed, Deferred, stand}

-- a note but for its position
abbrev pub Placed : Type 0
Placed = Place × AnyEntry

abbrev pub placed : Note → Placed
placed note = (note.place, note.entry)

-- the CPU from whose queue an arming went, by the reply
abbrev pub off_of : Reply → Option ℕ
off_of (Armed code n cpu off) = off
off_of (Stopped code off) = off
off_of (Wait n took off) = off
off_of (Drained code off) = off
off_of _ = None

-- what a call took out of a queue, told before its entry
abbrev pub removal_notes : ℕ → Entry → Option ℕ → List Placed
removal_notes i e None = []
removal_notes i e (Some cpu) = (at.Cpu cpu, of.Cpu (record { actor = e.actor; act = e.act; op = Remove i; reply = Off })) ∷ []

abbrev listed : ℕ → Entry → Option Arming → Stand → ℕ → List Placed
listed i e None stands time = []
listed i e (Some a) Nowhere time = []
listed i e (Some a) (Deferred cpu) time = []
listed i e (Some a) (Listed cpu) time = (at.Cpu cpu, of.Cpu (record { actor = e.actor; act = e.act; op = Insert i a.n a.due; reply = At time })) ∷ []

abbrev inserted : ℕ → Entry → Reply → State → ℕ → List Placed
inserted i e (Armed code n cpu off) after time = listed i e after.armed (stand after) time
inserted i e _ after time = []

-- a call's entry on callout i, with what it takes from a queue before it and puts into one after it.
-- `after` is the callout's state after the entry, and `time` the queue's answer to the insert
abbrev pub group : ℕ → Entry → State → ℕ → List Placed
group i e after time =
    removal_notes i e (off_of e.reply) ++ ((at.Timer i, of.Timer e) ∷ []) ++ inserted i e e.reply after time

-- these notes are a call's group
abbrev pub IsGroup : ℕ → Entry → State → List Note → Type 0
IsGroup i e after notes = (time : ℕ) × (map placed notes ≡ group i e after time)
