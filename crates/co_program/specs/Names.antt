-- What the notes of a script's actors name exists in the script, and each queue answers its own operation.
use Rattle.std.specs.Prelude.{◌≡◌, ℕ, ◌<◌, ⊤, List, length, Option, Some, None}
use Rattle.std.specs.List.{AllByRecursion}
use Rattle.co_object.specs.declared.Op.{Op}
use Rattle.co_object.specs.declared.Op.TheVariants.{Call}
use Rattle.co_object.specs.declared.CallOp.TheVariants.{Plain}
use Rattle.co_object.specs.declared.PlainOp.TheVariants as op
use Rattle.co_object.specs.declared.Reply.{Reply}
use Rattle.co_object.specs.declared.Reply.TheVariants.{Go, Ended}
use Rattle.co_object.specs.declared.QOp.{QOp}
use Rattle.co_object.specs.declared.QReply.{QReply}
use Rattle.co_object.specs.declared.Place.{Place}
use Rattle.co_object.specs.declared.Place.TheVariants as place
use Rattle.co_object.specs.declared.AnyEntry.{AnyEntry}
use Rattle.co_object.specs.declared.AnyEntry.TheVariants as entry
use Rattle.co_object.specs.declared.Note.{Note}
use Rattle.co_object.specs.Group.{off_of}
use Rattle.co_object.specs.Queue.{Queue}
use Rattle.co_object.specs.Journal.{step, reply_of}
use Rattle.co_program.specs.declared.act.Act.{Act}
use Rattle.co_program.specs.declared.act.Act.TheVariants.{Reset, Ticks, AsyncDrain}
use Rattle.co_program.specs.declared.script.Script.{Script}
use Rattle.co_program.specs.Actors.{actor_count, acts_at}
use Rattle.co_program.specs.Existing.{CpuExists, OpExists, ReplyExists, QOpExists, QReplyExists}
use Rattle.co_program.specs.Runs.{are_direct}

-- ---- functions

abbrev pub IsFunc : Script → ℕ → Type 0
IsFunc s f = f < length s.funcs

abbrev pub FuncExists : Script → Option ℕ → Type 0
FuncExists s None = ⊤
FuncExists s (Some f) = IsFunc s f

-- the function that an act names
abbrev pub ActNamesFunc : Script → Act → Type 0
ActNamesFunc s (Reset who func when arg cpu prec) = IsFunc s func
ActNamesFunc s (Ticks who ticks func arg cpu) = IsFunc s func
ActNamesFunc s (AsyncDrain who func) = IsFunc s func
ActNamesFunc s act = ⊤

abbrev pub ActsNameFuncs : Script → List Act → Type 0
ActsNameFuncs s acts = AllByRecursion (ActNamesFunc s) acts

-- the functions that a script's acts name exist
pub record FuncsExist (s : Script) : Type 0 where
  pub clients : (client : ℕ) → ActsNameFuncs s (acts_at s.clients client)
  pub funcs : (func : ℕ) → ActsNameFuncs s (acts_at s.funcs func)

abbrev pub OpNamesFunc : Script → Op → Type 0
OpNamesFunc s (Call (Plain (op.Reset due prec func arg cpu))) = IsFunc s func
OpNamesFunc s (Call (Plain (op.AsyncDrain func))) = IsFunc s func
OpNamesFunc s o = ⊤

abbrev pub ReplyNamesFunc : Script → Reply → Type 0
ReplyNamesFunc s (Go func arg) = IsFunc s func
ReplyNamesFunc s (Ended drain next woke) = FuncExists s drain
ReplyNamesFunc s reply = ⊤

-- ---- notes

-- what an operation on a callout names exists
pub record OpNames (s : Script) (o : Op) : Type 0 where
  pub exists : OpExists s o
  pub func : OpNamesFunc s o

-- and what its reply names
pub record ReplyNames (s : Script) (reply : Reply) : Type 0 where
  pub exists : ReplyExists s reply
  pub off : CpuExists s (off_of reply)
  pub func : ReplyNamesFunc s reply

-- what an operation on a queue and its answer name exists, and some queue gives this answer to it
pub record JournalNames (s : Script) (o : QOp) (r : QReply) : Type 0 where
  pub op : QOpExists s o
  pub reply : QReplyExists s r
  pub queue : Queue
  pub answers : reply_of (step s.buckets (are_direct s) queue o) ≡ Some r

-- what an entry of this place names exists: its actor does, and the entry is of the place's kind
abbrev pub EntryNames : Script → Place → AnyEntry → Type 0
EntryNames s (place.Timer i) (entry.Timer e) = (e.actor < actor_count s) × (OpNames s e.op × ReplyNames s e.reply)
EntryNames s (place.Cpu cpu) (entry.Cpu e) = (e.actor < actor_count s) × JournalNames s e.op e.reply
EntryNames s (place.Actor a) (entry.Own e) = (e.actor < actor_count s) × (e.actor ≡ a)
EntryNames s p e = ⊥

abbrev pub NotesName : Script → List Note → Type 0
NotesName s notes = AllByRecursion (λ note. EntryNames s note.place note.entry) notes

abbrev pub AllNotesName : Script → List (List Note) → Type 0
AllNotesName s lists = AllByRecursion (NotesName s) lists
