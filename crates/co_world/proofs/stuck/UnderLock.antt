-- A service begins under the callout's lock alone.
use Rattle.std.proofs.Common.{◌≡◌, ℕ, Bool, true, false, cond, List, [], ◌∷◌, refl, subst, Option, Some, None, ◌+◌}
use Rattle.std.specs.Prelude.{⊤, is_some}
use Rattle.co_object.specs.declared.Op.{Op}
use Rattle.co_object.specs.declared.Op.TheVariants.{Call, Run}
use Rattle.co_object.specs.declared.RunOp.TheVariants.{Begin}
use Rattle.co_object.specs.declared.Reply.{Reply}
use Rattle.co_object.specs.declared.Reply.TheVariants.{Armed, Wait, Go, Ended}
use Rattle.co_object.specs.declared.QOp.{QOp}
use Rattle.co_object.specs.declared.QOp.TheVariants.{Insert, Remove, Scan, Pop, Free, PopDirect, FreeDirect}
use Rattle.co_object.specs.declared.QReply.{QReply}
use Rattle.co_object.specs.declared.QReply.TheVariants.{Got}
use Rattle.co_object.specs.declared.Place.{Place}
use Rattle.co_object.specs.declared.Place.TheVariants as place
use Rattle.co_object.specs.declared.AnyEntry.{AnyEntry}
use Rattle.co_object.specs.declared.AnyEntry.TheVariants.{Timer, Cpu}
use Rattle.co_lock.specs.declared.Held.{Held}
use Rattle.co_lock.specs.Service.{hold_of}
use Rattle.co_program.specs.declared.Script.{Script}
use Rattle.co_program.specs.declared.Act.{Act}
use Rattle.co_program.specs.Actors.{role_of, acts_at, cpu_of}
use Rattle.co_program.specs.declared.Task.{Task}
use Rattle.co_program.specs.declared.Task.TheVariants.{Does, Soft}
use Rattle.co_program.specs.declared.Role.{Role}
use Rattle.co_program.specs.Stages.{Stage, Ready, Waiting, Popping, Picking, Locking, Beginning, Unlocking, Firing, Releasing, Ending, Freeing, Drained}
use Rattle.co_program.specs.declared.InService.{InService}
use Rattle.co_program.specs.Cursor.{Cursor, start_of}
use Rattle.co_program.specs.declared.PendingInsert.{PendingInsert}
use Rattle.co_program.specs.Action.{Action, Nothing, Silent, Take, Asks, action_for, action_with, action_in, spec_at, firing, draining, locks, asks_covered, asks_within, takes, asks_drain, begins_next, over, drained_of}
use Rattle.co_program.specs.declared.Asked.TheVariants.{Callout, Itself}
use Rattle.co_program.specs.Advance.{advance, advance_callout, advance_queue, call_made, act_over, service_picked, service_begun, service_ended, pop_answered, popped, freed, tail_of, drain_acts}
use Rattle.co_object.specs.declared.PlainOp.{PlainOp}
use Rattle.co_object.specs.declared.CallOp.TheVariants.{Plain, DrainTry}
use Rattle.co_object.specs.declared.OwnKind.TheVariants.{NotHeld, HoldsLock, Holding, NotHolding}
use Rattle.co_lock.specs.Covers.{covers}
use Rattle.co_program.specs.declared.Act.TheVariants.{Now, Lock, ReadLock, Unlock, Drain, Tick}
use Rattle.co_program.specs.Calls.{plain_op}
use Rattle.co_world.specs.World.{open_world}
use Rattle.co_world.specs.Laws.{BeginsUnderLock, reached}
use Rattle.co_world.proofs.basics.Updates.{cond_kept}
use Rattle.co_world.proofs.follows.Cursors.{IsKept, run_kept, open_kept}

-- the actor holds the callout's lock where its stage says so
abbrev pub IsUnderLock : Script → Option Held → Stage → Type 0
IsUnderLock s hold (Beginning v) = (held : Held) × (hold ≡ Some held) × (hold_of (spec_at s v.i).lock ≡ Some held)
IsUnderLock s hold stage = ⊤

abbrev pub UnderLock : Script → ℕ → Cursor → Type 0
UnderLock s a c = IsUnderLock s c.hold c.stage

under_firing : (s : Script) (hold : Option Held) (v : InService) (h : Option Held) (acts : List Act) → IsUnderLock s hold (firing v h acts)
under_firing s hold v h (act ∷ acts) = tt
under_firing s hold v None [] = tt
under_firing s hold v (Some held) [] = tt

under_draining : (s : Script) (hold : Option Held) (v : InService) (acts : List Act) → IsUnderLock s hold (draining v acts)
under_draining s hold v [] = tt
under_draining s hold v (act ∷ acts) = tt

under_over : (s : Script) (a : ℕ) (c : Cursor) (stage : Stage) → UnderLock s a (act_over c stage)
under_over s a c (Firing v acts) = under_firing s c.hold v c.hold (tail_of acts)
under_over s a c (Drained v acts) = under_draining s c.hold v (tail_of acts)
under_over s a c stage = tt

under_called : (s : Script) (a : ℕ) (c : Cursor) (i : ℕ) (listed : Bool) (op : Op) (reply : Reply) → UnderLock s a (call_made c i listed op reply)
under_called s a c i listed op (Wait n took off) = tt
under_called s a c i true op (Armed code n cpu off) = under_over s a c c.stage
under_called s a c i listed op reply = under_over s a c c.stage

under_picked : (s : Script) (a : ℕ) (c : Cursor) (v : InService) (reply : Reply) → UnderLock s a (service_picked s c v reply)
under_picked s a c v (Go func arg) = under_firing s c.hold v c.hold (acts_at s.funcs func)
under_picked s a c v reply = tt

under_returning : (s : Script) (hold : Option Held) (v : InService) (acts : List Act) (returns : Bool) → IsUnderLock s hold (cond returns (Unlocking v acts) (firing v hold acts))
under_returning s hold v acts true = tt
under_returning s hold v acts false = under_firing s hold v hold acts

under_begun : (s : Script) (a : ℕ) (c : Cursor) (v : InService) (reply : Reply) → UnderLock s a (service_begun s c v reply)
under_begun s a c v (Go func arg) = under_returning s c.hold v (acts_at s.funcs func) (spec_at s v.i).returns_unlocked
under_begun s a c v reply = tt

under_ended : (s : Script) (a : ℕ) (c : Cursor) (v : InService) (reply : Reply) → UnderLock s a c → UnderLock s a (service_ended c v reply)
under_ended s a c v (Ended drain next woke) h = tt
under_ended s a c v reply h = h

under_callout : (s : Script) (a : ℕ) (c : Cursor) (i : ℕ) (listed : Bool) (op : Op) (reply : Reply) (stage : Stage) → UnderLock s a c → UnderLock s a (advance_callout s c i listed op reply stage)
under_callout s a c i listed op reply (Picking v) h = under_picked s a c v reply
under_callout s a c i listed op reply (Beginning v) h = under_begun s a c v reply
under_callout s a c i listed op reply (Ending v) h = under_ended s a c v reply h
under_callout s a c i listed op reply stage h = under_called s a c i listed op reply

under_got : (s : Script) (a : ℕ) (c : Cursor) (act : ℕ) (reply : QReply) → UnderLock s a (pop_answered c act reply)
under_got s a c act (Got i n at) = tt
under_got s a c act reply = tt

under_popped : (s : Script) (a : ℕ) (c : Cursor) (reply : QReply) (stage : Stage) → UnderLock s a (popped c reply stage)
under_popped s a c reply (Popping act) = under_got s a c act reply
under_popped s a c reply stage = under_got s a (record c { act = c.act + 1 }) c.act reply

under_freed : (s : Script) (a : ℕ) (c : Cursor) (stage : Stage) → UnderLock s a c → UnderLock s a (freed s c stage)
under_freed s a c (Freeing v drain next) h = under_draining s c.hold v (drain_acts s drain)
under_freed s a c stage h = h

under_queue : (s : Script) (a : ℕ) (c : Cursor) (cpu : ℕ) (op : QOp) (reply : QReply) → UnderLock s a c → UnderLock s a (advance_queue s c cpu op reply)
under_queue s a c cpu (Insert i n t) reply h = h
under_queue s a c cpu (Remove i) reply h = h
under_queue s a c cpu (Scan now) reply h = tt
under_queue s a c cpu Pop reply h = under_popped s a c reply c.stage
under_queue s a c cpu PopDirect reply h = under_popped s a c reply c.stage
under_queue s a c cpu Free reply h = under_freed s a c c.stage h
under_queue s a c cpu FreeDirect reply h = under_freed s a c c.stage h

under_advance : (s : Script) (a : ℕ) (c : Cursor) (listed : Bool) (place : Place) (entry : AnyEntry) → UnderLock s a c → UnderLock s a (advance s c listed place entry)
under_advance s a c listed (place.Timer i) (Timer e) h = under_callout s a (record c { removed = None }) i listed e.op e.reply c.stage h
under_advance s a c listed (place.Cpu cpu) (Cpu e) h = under_queue s a c cpu e.op e.reply h
under_advance s a c listed place entry h = under_over s a c c.stage

-- ---- the steps without a note

abbrev pub UnderAction : Script → ℕ → Action → Type 0
UnderAction s a Nothing = ⊤
UnderAction s a (Silent to) = UnderLock s a to
UnderAction s a (Take held to) = UnderLock s a to
UnderAction s a (Asks act asked) = ⊤

under_choice : (s : Script) (a : ℕ) (b : Bool) (x y : Action) → UnderAction s a x → UnderAction s a y → UnderAction s a (cond b x y)
under_choice s a = cond_kept (UnderAction s a)

under_covered : (s : Script) (a : ℕ) (hold : Option Held) (act : ℕ) (call : Option (ℕ × PlainOp)) → UnderAction s a (asks_covered s hold act call)
under_covered s a hold act None = tt
under_covered s a hold act (Some (i, op)) = under_choice s a (covers hold (spec_at s i) (Plain op)) (Asks act (Callout i (Call (Plain op)))) (Asks act (Itself NotHeld)) tt tt

under_within : (s : Script) (a cpu : ℕ) (c : Cursor) (v : InService) (acts : List Act) → UnderAction s a (asks_within s cpu c v acts)
under_within s a cpu c v [] = tt
under_within s a cpu c v (act ∷ acts) = under_covered s a c.hold c.act (plain_op act s.hz (record { time = v.at; here = cpu; me = v.i }))

under_takes : (s : Script) (a : ℕ) (c : Cursor) (left : List Task) (held : Held) → UnderAction s a (takes c left held)
under_takes s a c left held = under_choice s a (is_some c.hold) (Asks c.act (Itself Holding)) (Take held (over c left (Some held))) tt tt

under_drain : (s : Script) (a : ℕ) (c : Cursor) (i : ℕ) (took : Bool) → UnderAction s a (asks_drain c i took)
under_drain s a c i took = under_choice s a (is_some c.hold) (Asks c.act (Itself HoldsLock)) (Asks c.act (Callout i (Call (DrainTry took)))) tt tt

under_begins : (s : Script) (a : ℕ) (role : Role) (c : Cursor) (left : List Task) → UnderAction s a (begins_next s role c left)
under_begins s a role c [] = under_choice s a (is_some c.hold) (Silent (record c { left = []; hold = None; stage = Ready })) Nothing tt tt
under_begins s a role c (Does (Now time) ∷ left) = tt
under_begins s a role c (Does (Lock id) ∷ left) = under_takes s a c left (record { id = id; exclusive = true })
under_begins s a role c (Does (ReadLock id) ∷ left) = under_takes s a c left (record { id = id; exclusive = false })
under_begins s a role c (Does Unlock ∷ left) = under_choice s a (is_some c.hold) (Silent (over c left None)) (Asks c.act (Itself NotHolding)) tt tt
under_begins s a role c (Does (Drain i) ∷ left) = under_drain s a c i false
under_begins s a role c (Does (Tick time) ∷ left) = tt
under_begins s a role c (Does act ∷ left) = under_covered s a c.hold c.act (plain_op act s.hz (record { time = c.now; here = cpu_of s role; me = 0 }))
under_begins s a role c (Soft j ∷ left) = tt

under_locks : (s : Script) (a : ℕ) (c : Cursor) (v : InService) (hold : Option Held) → hold_of (spec_at s v.i).lock ≡ hold → UnderAction s a (locks s c v hold)
under_locks s a c v None is = tt
under_locks s a c v (Some held) is = (held, refl, is)

under_stage : (s : Script) (a : ℕ) (role : Role) (c : Cursor) (stage : Stage) → UnderAction s a (action_in s role c stage)
under_stage s a role c Ready = under_begins s a role c c.left
under_stage s a role c (Waiting n took) = under_drain s a c (drained_of c.left) took
under_stage s a role c (Popping act) = tt
under_stage s a role c (Picking v) = tt
under_stage s a role c (Locking v) = under_locks s a c v (hold_of (spec_at s v.i).lock) refl
under_stage s a role c (Beginning v) = tt
under_stage s a role c (Unlocking v acts) = under_firing s None v None acts
under_stage s a role c (Firing v acts) = under_within s a (cpu_of s role) c v acts
under_stage s a role c (Releasing v) = tt
under_stage s a role c (Ending v) = tt
under_stage s a role c (Freeing v drain next) = tt
under_stage s a role c (Drained v acts) = under_within s a (cpu_of s role) c v acts

under_parcel : (s : Script) (a : ℕ) (role : Role) (c : Cursor) (parcel : Option PendingInsert) → UnderAction s a (action_with s role c parcel)
under_parcel s a role c None = under_stage s a role c c.stage
under_parcel s a role c (Some p) = tt

under_due : (s : Script) (a : ℕ) (c : Cursor) → UnderAction s a (action_for s a c)
under_due s a c = under_parcel s a (role_of s a) c c.parcel

pub under_kept : (s : Script) → IsKept s (UnderLock s)
under_kept s = record {
  silent = λ a c to h is. subst (UnderAction s a) is (under_due s a c);
  take = λ a c to held h is. subst (UnderAction s a) is (under_due s a c);
  note = under_advance s;
}

-- ---- only a service that has its lock begins

-- what is due is a Begin of a callout whose lock is held
abbrev pub BeginsHeld : Script → Option Held → Action → Type 0
BeginsHeld s hold (Asks act (Callout i (Run (Begin n cpu)))) = (held : Held) × (hold ≡ Some held) × (hold_of (spec_at s i).lock ≡ Some held)
BeginsHeld s hold due = ⊤

begins_choice : (s : Script) (hold : Option Held) (b : Bool) (x y : Action) → BeginsHeld s hold x → BeginsHeld s hold y → BeginsHeld s hold (cond b x y)
begins_choice s hold = cond_kept (BeginsHeld s hold)

begins_covered : (s : Script) (h hold : Option Held) (act : ℕ) (call : Option (ℕ × PlainOp)) → BeginsHeld s h (asks_covered s hold act call)
begins_covered s h hold act None = tt
begins_covered s h hold act (Some (i, op)) = begins_choice s h (covers hold (spec_at s i) (Plain op)) (Asks act (Callout i (Call (Plain op)))) (Asks act (Itself NotHeld)) tt tt

begins_within : (s : Script) (h : Option Held) (cpu : ℕ) (c : Cursor) (v : InService) (acts : List Act) → BeginsHeld s h (asks_within s cpu c v acts)
begins_within s h cpu c v [] = tt
begins_within s h cpu c v (act ∷ acts) = begins_covered s h c.hold c.act (plain_op act s.hz (record { time = v.at; here = cpu; me = v.i }))

begins_takes : (s : Script) (h : Option Held) (c : Cursor) (left : List Task) (held : Held) → BeginsHeld s h (takes c left held)
begins_takes s h c left held = begins_choice s h (is_some c.hold) (Asks c.act (Itself Holding)) (Take held (over c left (Some held))) tt tt

begins_drain : (s : Script) (h : Option Held) (c : Cursor) (i : ℕ) (took : Bool) → BeginsHeld s h (asks_drain c i took)
begins_drain s h c i took = begins_choice s h (is_some c.hold) (Asks c.act (Itself HoldsLock)) (Asks c.act (Callout i (Call (DrainTry took)))) tt tt

begins_act : (s : Script) (h : Option Held) (role : Role) (c : Cursor) (left : List Task) → BeginsHeld s h (begins_next s role c left)
begins_act s h role c [] = begins_choice s h (is_some c.hold) (Silent (record c { left = []; hold = None; stage = Ready })) Nothing tt tt
begins_act s h role c (Does (Now time) ∷ left) = tt
begins_act s h role c (Does (Lock id) ∷ left) = begins_takes s h c left (record { id = id; exclusive = true })
begins_act s h role c (Does (ReadLock id) ∷ left) = begins_takes s h c left (record { id = id; exclusive = false })
begins_act s h role c (Does Unlock ∷ left) = begins_choice s h (is_some c.hold) (Silent (over c left None)) (Asks c.act (Itself NotHolding)) tt tt
begins_act s h role c (Does (Drain i) ∷ left) = begins_drain s h c i false
begins_act s h role c (Does (Tick time) ∷ left) = tt
begins_act s h role c (Does act ∷ left) = begins_covered s h c.hold c.act (plain_op act s.hz (record { time = c.now; here = cpu_of s role; me = 0 }))
begins_act s h role c (Soft j ∷ left) = tt

begins_locks : (s : Script) (h : Option Held) (c : Cursor) (v : InService) (hold : Option Held) → BeginsHeld s h (locks s c v hold)
begins_locks s h c v None = tt
begins_locks s h c v (Some held) = tt

begins_stage : (s : Script) (role : Role) (c : Cursor) (stage : Stage) → IsUnderLock s c.hold stage → BeginsHeld s c.hold (action_in s role c stage)
begins_stage s role c Ready h = begins_act s c.hold role c c.left
begins_stage s role c (Waiting n took) h = begins_drain s c.hold c (drained_of c.left) took
begins_stage s role c (Popping act) h = tt
begins_stage s role c (Picking v) h = tt
begins_stage s role c (Locking v) h = begins_locks s c.hold c v (hold_of (spec_at s v.i).lock)
begins_stage s role c (Beginning v) h = h
begins_stage s role c (Unlocking v acts) h = tt
begins_stage s role c (Firing v acts) h = begins_within s c.hold (cpu_of s role) c v acts
begins_stage s role c (Releasing v) h = tt
begins_stage s role c (Ending v) h = tt
begins_stage s role c (Freeing v drain next) h = tt
begins_stage s role c (Drained v acts) h = begins_within s c.hold (cpu_of s role) c v acts

begins_parcel : (s : Script) (role : Role) (c : Cursor) (parcel : Option PendingInsert) → IsUnderLock s c.hold c.stage → BeginsHeld s c.hold (action_with s role c parcel)
begins_parcel s role c None h = begins_stage s role c c.stage h
begins_parcel s role c (Some p) h = tt

start_actor : (s : Script) (a : ℕ) → UnderLock s a (start_of s a)
start_actor s a = tt

-- in every world that a schedule reaches, a service begins under the callout's lock alone
pub begins_under_lock : (s : Script) (schedule : List ℕ) → BeginsUnderLock s (reached s schedule)
begins_under_lock s schedule a act i n cpu is =
    subst (BeginsHeld s ((reached s schedule).actors a).cursor.hold) is
    (begins_parcel s (role_of s a) ((reached s schedule).actors a).cursor ((reached s schedule).actors a).cursor.parcel
    (run_kept s (UnderLock s) (start_actor s) (under_kept s) schedule (open_world s) (open_kept s (UnderLock s) (start_actor s) (under_kept s)) a))
