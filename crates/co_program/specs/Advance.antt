-- How an actor's place in its program goes on after a note.
use Rattle.std.specs.Prelude.{ℕ, ◌+◌, Bool, true, if◌then◌else◌, List, [], ◌∷◌, Option, Some, None}
use Rattle.co_object.specs.declared.Place.{Place}
use Rattle.co_object.specs.declared.Place.TheVariants as place
use Rattle.co_object.specs.declared.AnyEntry.{AnyEntry}
use Rattle.co_object.specs.declared.AnyEntry.TheVariants.{Timer, Cpu}
use Rattle.co_object.specs.declared.Next.{Next}
use Rattle.co_object.specs.declared.Op.{Op}
use Rattle.co_object.specs.declared.Op.TheVariants.{Call}
use Rattle.co_object.specs.declared.CallOp.TheVariants.{Plain}
use Rattle.co_object.specs.declared.PlainOp.TheVariants.{Reset, Schedule}
use Rattle.co_object.specs.declared.Reply.{Reply}
use Rattle.co_object.specs.declared.Reply.TheVariants.{Armed, Wait, Go, Ended}
use Rattle.co_object.specs.declared.QOp.{QOp}
use Rattle.co_object.specs.declared.QOp.TheVariants.{Insert, Remove, Scan, Pop, Free, PopDirect, FreeDirect}
use Rattle.co_object.specs.declared.QReply.{QReply}
use Rattle.co_object.specs.declared.QReply.TheVariants.{Got}
use Rattle.co_program.specs.declared.act.Act.{Act}
use Rattle.co_program.specs.declared.script.Script.{Script}
use Rattle.co_program.specs.Actors.{acts_at}
use Rattle.co_program.specs.declared.cursor.InService.{InService}
use Rattle.co_program.specs.Stages.{Stage, Ready, Waiting, Popping, Picking, Locking, Beginning, Unlocking, Firing, Releasing, Ending, Freeing, Drained}
use Rattle.co_program.specs.declared.cursor.PendingInsert.{PendingInsert}
use Rattle.co_program.specs.Cursor.{Cursor}
use Rattle.co_program.specs.Action.{over, firing, draining, spec_at}

abbrev pub tail_of : {T : Type 0} → List T → List T
tail_of [] = []
tail_of (x ∷ xs) = xs

-- ---- after a call, or in its place a note of the actor's own

-- the act is over
abbrev pub act_over : Cursor → Stage → Cursor
act_over c (Firing v acts) = record c { act = c.act + 1; stage = firing v c.hold (tail_of acts) }
act_over c (Drained v acts) = record c { act = c.act + 1; stage = draining v (tail_of acts) }
act_over c stage = over c (tail_of c.left) c.hold

abbrev pub due_of_call : Op → ℕ
due_of_call (Call (Plain (Reset due prec func arg cpu))) = due
due_of_call (Call (Plain (Schedule due prec cpu))) = due
due_of_call op = 0

-- an accepted arming that is Listed is on its way into its CPU's queue
abbrev pub call_made : Cursor → ℕ → Bool → Op → Reply → Cursor
call_made c i listed op (Wait n took off) = record c { stage = Waiting n took }
call_made c i true op (Armed code n cpu off) =
    record (act_over c c.stage) { parcel = Some (record { act = c.act; i = i; n = n; due = due_of_call op; cpu = cpu }) }
call_made c i listed op reply = act_over c c.stage

-- ---- in a service

abbrev pub service_picked : Script → Cursor → InService → Reply → Cursor
service_picked s c v (Go func arg) = record c { stage = firing v c.hold (acts_at s.funcs func) }
service_picked s c v reply = record c { stage = Locking v }

abbrev pub service_begun : Script → Cursor → InService → Reply → Cursor
service_begun s c v (Go func arg) =
    record c { stage = if (spec_at s v.i).returns_unlocked then Unlocking v (acts_at s.funcs func) else firing v c.hold (acts_at s.funcs func) }
service_begun s c v reply = record c { stage = Releasing v }

abbrev pub service_ended : Cursor → InService → Reply → Cursor
service_ended c v (Ended drain next woke) = record c { stage = Freeing v drain next }
service_ended c v reply = c

abbrev pub advance_callout : Script → Cursor → ℕ → Bool → Op → Reply → Stage → Cursor
advance_callout s c i listed op reply (Picking v) = service_picked s c v reply
advance_callout s c i listed op reply (Beginning v) = service_begun s c v reply
advance_callout s c i listed op reply (Ending v) = service_ended c v reply
advance_callout s c i listed op reply stage = call_made c i listed op reply

-- ---- from a queue

-- a callout that the end of its service sends on its way
abbrev pub parcel_of : InService → Option Next → Option PendingInsert
parcel_of v None = None
parcel_of v (Some next) = Some (record { act = v.act; i = v.i; n = next.n; due = next.due; cpu = next.cpu })

-- the acts of a drain function
abbrev pub drain_acts : Script → Option ℕ → List Act
drain_acts s None = []
drain_acts s (Some func) = acts_at s.funcs func

abbrev pub freed : Script → Cursor → Stage → Cursor
freed s c (Freeing v drain next) = record c { stage = draining v (drain_acts s drain); parcel = parcel_of v next }
freed s c stage = c

-- an empty queue ends the act
abbrev pub pop_answered : Cursor → ℕ → QReply → Cursor
pop_answered c act (Got i n at) = record c { stage = Picking (record { act = act; i = i; n = n; at = at }) }
pop_answered c act reply = record c { left = tail_of c.left; stage = Ready }

-- a soft act begins with its first Pop
abbrev pub popped : Cursor → QReply → Stage → Cursor
popped c reply (Popping act) = pop_answered c act reply
popped c reply stage = pop_answered (record c { act = c.act + 1 }) c.act reply

abbrev pub advance_queue : Script → Cursor → ℕ → QOp → QReply → Cursor
advance_queue s c cpu (Insert i n t) reply = record c { parcel = None }
advance_queue s c cpu (Remove i) reply = record c { removed = Some cpu }
advance_queue s c cpu (Scan now) reply = record c { act = c.act + 1; stage = Popping c.act }
advance_queue s c cpu Pop reply = popped c reply c.stage
advance_queue s c cpu PopDirect reply = popped c reply c.stage
advance_queue s c cpu Free reply = freed s c c.stage
advance_queue s c cpu FreeDirect reply = freed s c c.stage

-- ---- any note

-- the cursor after an entry of its own at this place; listed is whether the callout stands in a queue after it
abbrev pub advance : Script → Cursor → Bool → Place → AnyEntry → Cursor
advance s c listed (place.Timer i) (Timer e) = advance_callout s (record c { removed = None }) i listed e.op e.reply c.stage
advance s c listed (place.Cpu cpu) (Cpu e) = advance_queue s c cpu e.op e.reply
advance s c listed place entry = act_over c c.stage
