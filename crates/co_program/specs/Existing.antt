-- That the callouts and the CPUs which a place in a program names exist in the script.
use Rattle.std.specs.Prelude.{◌≡◌, ℕ, ◌<◌, ⊤, true, List, length, Option, Some, None}
use Rattle.std.specs.List.{AllByRecursion}
use Rattle.co_object.specs.declared.Next.{Next}
use Rattle.co_object.specs.declared.Op.{Op}
use Rattle.co_object.specs.declared.Op.TheVariants.{Call, Run}
use Rattle.co_object.specs.declared.CallOp.TheVariants.{Plain, DrainTry}
use Rattle.co_object.specs.declared.PlainOp.{PlainOp}
use Rattle.co_object.specs.declared.PlainOp.TheVariants.{Reset, Schedule}
use Rattle.co_object.specs.declared.RunOp.{RunOp}
use Rattle.co_object.specs.declared.RunOp.TheVariants.{Pick, Begin, End}
use Rattle.co_object.specs.declared.Reply.{Reply}
use Rattle.co_object.specs.declared.Reply.TheVariants.{Armed, Ended}
use Rattle.co_object.specs.declared.QOp.{QOp}
use Rattle.co_object.specs.declared.QOp.TheVariants.{Insert, Remove}
use Rattle.co_object.specs.declared.QReply.{QReply}
use Rattle.co_object.specs.declared.QReply.TheVariants.{Got}
use Rattle.co_object.specs.declared.Place.{Place}
use Rattle.co_object.specs.declared.Place.TheVariants as place
use Rattle.co_object.specs.declared.AnyEntry.{AnyEntry}
use Rattle.co_object.specs.declared.AnyEntry.TheVariants.{Timer, Cpu}
use Rattle.co_program.specs.declared.act.Act.{Act}
use Rattle.co_program.specs.declared.script.Script.{Script}
use Rattle.co_program.specs.declared.program.Task.{Task}
use Rattle.co_program.specs.declared.program.Task.TheVariants.{Does, Soft}
use Rattle.co_program.specs.declared.cursor.PendingInsert.{PendingInsert}
use Rattle.co_program.specs.declared.action.Asked.{Asked}
use Rattle.co_program.specs.declared.action.Asked.TheVariants.{Callout, Queue, Itself}
use Rattle.co_program.specs.Stages.{Stage, Ready, Waiting, Popping, Picking, Locking, Beginning, Unlocking, Firing, Releasing, Ending, Freeing, Drained}
use Rattle.co_program.specs.Cursor.{Cursor}
use Rattle.co_program.specs.Action.{Action, Nothing, Silent, Take, Asks}
use Rattle.co_program.specs.Scripts.{names_exist}

abbrev pub IsCallout : Script → ℕ → Type 0
IsCallout s i = i < length s.timers

abbrev pub IsCpu : Script → ℕ → Type 0
IsCpu s cpu = cpu < s.cpus

-- ---- a place

abbrev pub ActsExist : Script → List Act → Type 0
ActsExist s acts = AllByRecursion (λ act. names_exist s act ≡ true) acts

-- a soft act names nothing
abbrev pub TaskExists : Script → Task → Type 0
TaskExists s (Does act) = names_exist s act ≡ true
TaskExists s (Soft j) = ⊤

abbrev pub NextExists : Script → Option Next → Type 0
NextExists s None = ⊤
NextExists s (Some next) = IsCpu s next.cpu

-- the callout of a service, the acts that are left of its function, and where it sends the callout
abbrev pub StageExists : Script → Stage → Type 0
StageExists s Ready = ⊤
StageExists s (Waiting n took) = ⊤
StageExists s (Popping act) = ⊤
StageExists s (Picking v) = IsCallout s v.i
StageExists s (Locking v) = IsCallout s v.i
StageExists s (Beginning v) = IsCallout s v.i
StageExists s (Unlocking v acts) = IsCallout s v.i × ActsExist s acts
StageExists s (Firing v acts) = IsCallout s v.i × ActsExist s acts
StageExists s (Releasing v) = IsCallout s v.i
StageExists s (Ending v) = IsCallout s v.i
StageExists s (Freeing v drain next) = IsCallout s v.i × NextExists s next
StageExists s (Drained v acts) = IsCallout s v.i × ActsExist s acts

abbrev pub ParcelExists : Script → Option PendingInsert → Type 0
ParcelExists s None = ⊤
ParcelExists s (Some p) = IsCallout s p.i × IsCpu s p.cpu

-- what the place names exists
pub record IsIn (s : Script) (c : Cursor) : Type 0 where
  pub left : AllByRecursion (TaskExists s) c.left
  pub stage : StageExists s c.stage
  pub parcel : ParcelExists s c.parcel

-- ---- what an actor does next

abbrev pub CpuExists : Script → Option ℕ → Type 0
CpuExists s None = ⊤
CpuExists s (Some cpu) = IsCpu s cpu

abbrev pub PlainOpExists : Script → PlainOp → Type 0
PlainOpExists s (Reset due prec func arg cpu) = CpuExists s cpu
PlainOpExists s (Schedule due prec cpu) = CpuExists s cpu
PlainOpExists s op = ⊤

abbrev pub RunOpExists : Script → RunOp → Type 0
RunOpExists s (Pick n cpu at) = IsCpu s cpu
RunOpExists s (Begin n cpu) = IsCpu s cpu
RunOpExists s (End n cpu) = IsCpu s cpu

abbrev pub OpExists : Script → Op → Type 0
OpExists s (Call (Plain op)) = PlainOpExists s op
OpExists s (Call (DrainTry took)) = ⊤
OpExists s (Run op) = RunOpExists s op

abbrev pub QOpExists : Script → QOp → Type 0
QOpExists s (Insert i n t) = IsCallout s i
QOpExists s (Remove i) = IsCallout s i
QOpExists s op = ⊤

abbrev pub AskedExists : Script → Asked → Type 0
AskedExists s (Callout i op) = IsCallout s i × OpExists s op
AskedExists s (Queue cpu op) = IsCpu s cpu × QOpExists s op
AskedExists s (Itself kind) = ⊤

-- what an action asks exists, and so does what the place names to which it leads
abbrev pub ActionExists : Script → Action → Type 0
ActionExists s Nothing = ⊤
ActionExists s (Silent to) = IsIn s to
ActionExists s (Take held to) = IsIn s to
ActionExists s (Asks act asked) = AskedExists s asked

-- ---- a note

abbrev pub ReplyExists : Script → Reply → Type 0
ReplyExists s (Armed code n cpu off) = IsCpu s cpu
ReplyExists s (Ended drain next woke) = NextExists s next
ReplyExists s reply = ⊤

abbrev pub QReplyExists : Script → QReply → Type 0
QReplyExists s (Got i n at) = IsCallout s i
QReplyExists s reply = ⊤

-- what a note names exists
abbrev pub EntryExists : Script → Place → AnyEntry → Type 0
EntryExists s (place.Timer i) (Timer e) = IsCallout s i × ReplyExists s e.reply
EntryExists s (place.Cpu cpu) (Cpu e) = QReplyExists s e.reply
EntryExists s place entry = ⊤
