-- What an actor does next: its program and the replies so far decide it.
use Rattle.std.specs.Prelude.{ℕ, suc, ◌+◌, Bool, true, false, is_some, if◌then◌else◌, List, [], ◌∷◌, Option, Some, None, slice_index_or}
use Rattle.co_object.specs.declared.Spec.{Spec}
use Rattle.co_object.specs.declared.LockUse.TheVariants.{Free}
use Rattle.co_object.specs.declared.Op.TheVariants.{Call, Run}
use Rattle.co_object.specs.declared.CallOp.TheVariants.{Plain, DrainTry}
use Rattle.co_object.specs.declared.RunOp.TheVariants.{Pick, Begin, End}
use Rattle.co_object.specs.declared.PlainOp.{PlainOp}
use Rattle.co_object.specs.declared.QOp.{QOp}
use Rattle.co_object.specs.declared.QOp.TheVariants.{Insert, Scan, Pop, Free as FreeSlot, PopDirect, FreeDirect}
use Rattle.co_object.specs.declared.OwnKind.TheVariants.{NotHeld, HoldsLock, Holding, NotHolding}
use Rattle.co_lock.specs.declared.Held.{Held}
use Rattle.co_lock.specs.Covers.{covers}
use Rattle.co_lock.specs.Service.{hold_of}
use Rattle.co_program.specs.declared.act.Act.{Act}
use Rattle.co_program.specs.declared.act.Act.TheVariants.{Now, Lock, ReadLock, Unlock, Drain, Tick}
use Rattle.co_program.specs.declared.script.Script.{Script}
use Rattle.co_program.specs.declared.program.Task.{Task}
use Rattle.co_program.specs.declared.program.Task.TheVariants.{Does, Soft}
use Rattle.co_program.specs.declared.role.Role.{Role}
use Rattle.co_program.specs.declared.role.Role.TheVariants.{Client, Cpu, Interrupt}
use Rattle.co_program.specs.Actors.{role_of, cpu_of}
use Rattle.co_program.specs.declared.act.Scene.{Scene}
use Rattle.co_program.specs.Calls.{plain_op}
use Rattle.co_program.specs.declared.cursor.InService.{InService}
use Rattle.co_program.specs.Stages.{Stage, Ready, Waiting, Popping, Picking, Locking, Beginning, Unlocking, Firing, Releasing, Ending, Freeing, Drained}
use Rattle.co_program.specs.declared.cursor.PendingInsert.{PendingInsert}
use Rattle.co_program.specs.Cursor.{Cursor}
use Rattle.co_program.specs.declared.action.Asked.{Asked}
use Rattle.co_program.specs.declared.action.Asked.TheVariants.{Callout, Queue, Itself}

pub data Action : Type 0 where
  -- the program has ended
  Nothing : Action
  -- a step without a note, after which the cursor is there
  Silent : (to : Cursor) → Action
  -- the same, once this lock can be taken
  Take : (held : Held) (to : Cursor) → Action
  -- a note of what is asked, in the act of this number
  Asks : (act : ℕ) (asked : Asked) → Action

abbrev pub spec_at : Script → ℕ → Spec
spec_at s i = slice_index_or s.timers i (record { lock = Free; returns_unlocked = false; direct = false })

-- ---- calls

-- a call that the hold doesn't cover comes to no callout
abbrev pub asks_covered : Script → Option Held → ℕ → Option (ℕ × PlainOp) → Action
asks_covered s hold act None = Nothing
asks_covered s hold act (Some (i, op)) =
    if covers hold (spec_at s i) (Plain op) then Asks act (Callout i (Call (Plain op))) else Asks act (Itself NotHeld)

abbrev pub asks_call : Script → Cursor → Act → Scene → Action
asks_call s c act at = asks_covered s c.hold c.act (plain_op act s.hz at)

-- a function's act, about its service
abbrev pub asks_within : Script → ℕ → Cursor → InService → List Act → Action
asks_within s cpu c v [] = Nothing
asks_within s cpu c v (act ∷ acts) = asks_call s c act (record { time = v.at; here = cpu; me = v.i })

-- ---- acts

-- the cursor after the act under way, with this hold
abbrev pub over : Cursor → List Task → Option Held → Cursor
over c left hold = record c { left = left; act = c.act + 1; hold = hold; stage = Ready }

abbrev pub takes : Cursor → List Task → Held → Action
takes c left held = if is_some c.hold then Asks c.act (Itself Holding) else Take held (over c left (Some held))

abbrev pub asks_drain : Cursor → ℕ → Bool → Action
asks_drain c i took = if is_some c.hold then Asks c.act (Itself HoldsLock) else Asks c.act (Callout i (Call (DrainTry took)))

-- a queue's operations: those of the urgent list are the interrupt's
abbrev pub pop_of : Role → QOp
pop_of (Client c) = Pop
pop_of (Cpu x) = Pop
pop_of (Interrupt x) = PopDirect

abbrev pub free_of : Role → QOp
free_of (Client c) = FreeSlot
free_of (Cpu x) = FreeSlot
free_of (Interrupt x) = FreeDirect

-- how the next act begins; after the last one a lock that is still held is released
abbrev pub begins_next : Script → Role → Cursor → List Task → Action
begins_next s role c [] = if is_some c.hold then Silent (record c { left = []; hold = None; stage = Ready }) else Nothing
begins_next s role c (Does (Now time) ∷ left) = Silent (record (over c left c.hold) { now = time })
begins_next s role c (Does (Lock id) ∷ left) = takes c left (record { id = id; exclusive = true })
begins_next s role c (Does (ReadLock id) ∷ left) = takes c left (record { id = id; exclusive = false })
begins_next s role c (Does Unlock ∷ left) = if is_some c.hold then Silent (over c left None) else Asks c.act (Itself NotHolding)
begins_next s role c (Does (Drain i) ∷ left) = asks_drain c i false
begins_next s role c (Does (Tick time) ∷ left) = Asks c.act (Queue (cpu_of s role) (Scan time))
begins_next s role c (Does act ∷ left) = asks_call s c act (record { time = c.now; here = cpu_of s role; me = 0 })
begins_next s role c (Soft j ∷ left) = Asks c.act (Queue (cpu_of s role) (pop_of role))

-- the callout of the drain under way
abbrev pub drained_of : List Task → ℕ
drained_of (Does (Drain i) ∷ left) = i
drained_of left = 0

abbrev pub locks : Script → Cursor → InService → Option Held → Action
locks s c v None = Nothing
locks s c v (Some held) = Take held (record c { hold = Some held; stage = Beginning v })

-- what the function's acts lead to: the release of the lock, if it is held still, and the end of the service
abbrev pub firing : InService → Option Held → List Act → Stage
firing v hold (act ∷ acts) = Firing v (act ∷ acts)
firing v None [] = Ending v
firing v (Some held) [] = Releasing v

-- and those of a drain function: the next callout
abbrev pub draining : InService → List Act → Stage
draining v [] = Popping v.act
draining v (act ∷ acts) = Drained v (act ∷ acts)

abbrev pub action_in : Script → Role → Cursor → Stage → Action
action_in s role c Ready = begins_next s role c c.left
action_in s role c (Waiting n took) = asks_drain c (drained_of c.left) took
action_in s role c (Popping act) = Asks act (Queue (cpu_of s role) (pop_of role))
action_in s role c (Picking v) = Asks v.act (Callout v.i (Run (Pick v.n (cpu_of s role) v.at)))
action_in s role c (Locking v) = locks s c v (hold_of (spec_at s v.i).lock)
action_in s role c (Beginning v) = Asks v.act (Callout v.i (Run (Begin v.n (cpu_of s role))))
action_in s role c (Unlocking v acts) = Silent (record c { hold = None; stage = firing v None acts })
action_in s role c (Firing v acts) = asks_within s (cpu_of s role) c v acts
action_in s role c (Releasing v) = Silent (record c { hold = None; stage = Ending v })
action_in s role c (Ending v) = Asks v.act (Callout v.i (Run (End v.n (cpu_of s role))))
action_in s role c (Freeing v drain next) = Asks v.act (Queue (cpu_of s role) (free_of role))
action_in s role c (Drained v acts) = asks_within s (cpu_of s role) c v acts

-- a callout that is on its way comes first
abbrev pub action_with : Script → Role → Cursor → Option PendingInsert → Action
action_with s role c (Some p) = Asks p.act (Queue p.cpu (Insert p.i p.n p.due))
action_with s role c None = action_in s role c c.stage

abbrev pub action_for : Script → ℕ → Cursor → Action
action_for s a c = action_with s (role_of s a) c c.parcel

-- the number of Scans that the CPU's journal must have first: the j-th soft act begins after j + 1
abbrev pub scans_of : List Task → ℕ
scans_of (Soft j ∷ left) = suc j
scans_of left = 0

abbrev pub scans_at : Cursor → Stage → ℕ
scans_at c Ready = scans_of c.left
scans_at c stage = 0

abbrev pub scans_with : Cursor → Option PendingInsert → ℕ
scans_with c (Some p) = 0
scans_with c None = scans_at c c.stage

abbrev pub scans_first : Cursor → ℕ
scans_first c = scans_with c c.parcel
