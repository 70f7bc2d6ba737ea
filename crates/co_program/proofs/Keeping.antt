-- No note changes what an actor holds.
use Rattle.std.proofs.Common.{◌≡◌, ℕ, ◌+◌, Bool, true, refl}
use Rattle.co_object.specs.declared.Op.{Op}
use Rattle.co_object.specs.declared.Reply.{Reply}
use Rattle.co_object.specs.declared.Reply.TheVariants.{Armed, Wait, Go, Ended}
use Rattle.co_object.specs.declared.QOp.{QOp}
use Rattle.co_object.specs.declared.QOp.TheVariants.{Insert, Remove, Scan, Pop, PopDirect, Free as FreeSlot, FreeDirect}
use Rattle.co_object.specs.declared.QReply.{QReply}
use Rattle.co_object.specs.declared.QReply.TheVariants.{Got}
use Rattle.co_program.specs.declared.script.Script.{Script}
use Rattle.co_program.specs.declared.cursor.InService.{InService}
use Rattle.co_program.specs.Stages.{Stage, Popping, Picking, Beginning, Firing, Ending, Freeing, Drained}
use Rattle.co_program.specs.Cursor.{Cursor}
use Rattle.co_program.specs.Advance.{act_over, call_made, service_picked, service_begun, service_ended, advance_callout, freed, pop_answered, popped, advance_queue}

pub over_keeps : (c : Cursor) (stage : Stage) → (act_over c stage).hold ≡ c.hold
over_keeps c (Firing v acts) = refl
over_keeps c (Drained v acts) = refl
over_keeps c stage = refl

-- ---- after an entry of a callout

called_keeps : (c : Cursor) (i : ℕ) (listed : Bool) (op : Op) (reply : Reply) → (call_made c i listed op reply).hold ≡ c.hold
called_keeps c i listed op (Wait n took off) = refl
called_keeps c i true op (Armed code n cpu off) = over_keeps c c.stage
called_keeps c i listed op reply = over_keeps c c.stage

picked_keeps : (s : Script) (c : Cursor) (v : InService) (reply : Reply) → (service_picked s c v reply).hold ≡ c.hold
picked_keeps s c v (Go func arg) = refl
picked_keeps s c v reply = refl

begun_keeps : (s : Script) (c : Cursor) (v : InService) (reply : Reply) → (service_begun s c v reply).hold ≡ c.hold
begun_keeps s c v (Go func arg) = refl
begun_keeps s c v reply = refl

ended_keeps : (c : Cursor) (v : InService) (reply : Reply) → (service_ended c v reply).hold ≡ c.hold
ended_keeps c v (Ended drain next woke) = refl
ended_keeps c v reply = refl

pub callout_keeps : (s : Script) (c : Cursor) (i : ℕ) (listed : Bool) (op : Op) (reply : Reply) (stage : Stage) → (advance_callout s c i listed op reply stage).hold ≡ c.hold
callout_keeps s c i listed op reply (Picking v) = picked_keeps s c v reply
callout_keeps s c i listed op reply (Beginning v) = begun_keeps s c v reply
callout_keeps s c i listed op reply (Ending v) = ended_keeps c v reply
callout_keeps s c i listed op reply stage = called_keeps c i listed op reply

-- ---- after an entry of a journal

got_keeps : (c : Cursor) (n : ℕ) (reply : QReply) → (pop_answered c n reply).hold ≡ c.hold
got_keeps c n (Got i k at) = refl
got_keeps c n reply = refl

popped_keeps : (c : Cursor) (reply : QReply) (stage : Stage) → (popped c reply stage).hold ≡ c.hold
popped_keeps c reply (Popping n) = got_keeps c n reply
popped_keeps c reply stage = got_keeps (record c { act = c.act + 1 }) c.act reply

freed_keeps : (s : Script) (c : Cursor) (stage : Stage) → (freed s c stage).hold ≡ c.hold
freed_keeps s c (Freeing v drain next) = refl
freed_keeps s c stage = refl

pub queue_keeps : (s : Script) (c : Cursor) (cpu : ℕ) (op : QOp) (reply : QReply) → (advance_queue s c cpu op reply).hold ≡ c.hold
queue_keeps s c cpu (Insert i n t) reply = refl
queue_keeps s c cpu (Remove i) reply = refl
queue_keeps s c cpu (Scan time) reply = refl
queue_keeps s c cpu Pop reply = popped_keeps c reply c.stage
queue_keeps s c cpu PopDirect reply = popped_keeps c reply c.stage
queue_keeps s c cpu FreeSlot reply = freed_keeps s c c.stage
queue_keeps s c cpu FreeDirect reply = freed_keeps s c c.stage
