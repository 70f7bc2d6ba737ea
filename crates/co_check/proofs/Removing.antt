-- No program asks a queue for a Remove by itself, and nothing else is answered Missing.
use Rattle.std.proofs.Common.{◌≡◌, ℕ, Bool, true, false, cond, List, [], ◌∷◌}
use Rattle.std.specs.Prelude.{Option, Some, None, is_some}
use Rattle.co_object.specs.declared.PlainOp.{PlainOp}
use Rattle.co_object.specs.declared.Op.TheVariants.{Call}
use Rattle.co_object.specs.declared.CallOp.TheVariants.{Plain}
use Rattle.co_object.specs.declared.QOp.{QOp}
use Rattle.co_object.specs.declared.QOp.TheVariants.{Insert, Remove, Scan, Pop, Free, PopDirect, FreeDirect}
use Rattle.co_object.specs.declared.QReply.{QReply}
use Rattle.co_object.specs.declared.QReply.TheVariants.{Missing}
use Rattle.co_object.specs.declared.OwnKind.TheVariants.{NotHeld, HoldsLock, Holding, NotHolding}
use Rattle.co_object.specs.Queue.{Queue as TimerQueue}
use Rattle.co_object.proofs.QueueChanges.{QChange, inserts, removes, misses, scans, pops, finds_none, frees, pops_direct, finds_no_direct, frees_direct}
use Rattle.co_lock.specs.declared.Held.{Held}
use Rattle.co_lock.specs.Covers.{covers}
use Rattle.co_lock.specs.Service.{hold_of}
use Rattle.co_program.specs.declared.act.Act.{Act}
use Rattle.co_program.specs.declared.act.Act.TheVariants as does
use Rattle.co_program.specs.declared.act.Scene.{Scene}
use Rattle.co_program.specs.declared.action.Asked.TheVariants.{Callout, Queue, Itself}
use Rattle.co_program.specs.declared.cursor.PendingInsert.{PendingInsert}
use Rattle.co_program.specs.declared.cursor.InService.{InService}
use Rattle.co_program.specs.declared.program.Task.{Task}
use Rattle.co_program.specs.declared.program.Task.TheVariants.{Does, Soft}
use Rattle.co_program.specs.declared.role.Role.{Role}
use Rattle.co_program.specs.declared.role.Role.TheVariants.{Client, Cpu, Interrupt}
use Rattle.co_program.specs.declared.script.Script.{Script}
use Rattle.co_program.specs.Action.{Action, Nothing, Silent, Take, Asks, action_for, action_with, action_in, begins_next, takes, asks_covered, asks_call, asks_within, asks_drain, drained_of, locks, over, pop_of, free_of, spec_at}
use Rattle.co_program.specs.Actors.{role_of, cpu_of}
use Rattle.co_program.specs.Calls.{plain_op}
use Rattle.co_program.specs.Cursor.{Cursor}
use Rattle.co_program.specs.Stages.{Stage, Ready, Waiting, Popping, Picking, Locking, Beginning, Unlocking, Firing, Releasing, Ending, Freeing, Drained}

abbrev pub IsNoRemove : QOp → Type 0
IsNoRemove (Remove i) = ⊥
IsNoRemove (Insert i n t) = Unit {0}
IsNoRemove (Scan now) = Unit {0}
IsNoRemove Pop = Unit {0}
IsNoRemove Free = Unit {0}
IsNoRemove PopDirect = Unit {0}
IsNoRemove FreeDirect = Unit {0}

abbrev pub AsksNoRemove : Action → Type 0
AsksNoRemove Nothing = Unit {0}
AsksNoRemove (Silent to) = Unit {0}
AsksNoRemove (Take held to) = Unit {0}
AsksNoRemove (Asks act (Callout i op)) = Unit {0}
AsksNoRemove (Asks act (Queue cpu op)) = IsNoRemove op
AsksNoRemove (Asks act (Itself kind)) = Unit {0}

either : (b : Bool) (x y : Action) → AsksNoRemove x → AsksNoRemove y → AsksNoRemove (cond b x y)
either true x y h k = h
either false x y h k = k

covered : (s : Script) (hold : Option Held) (act : ℕ) (call : Option (ℕ × PlainOp)) → AsksNoRemove (asks_covered s hold act call)
covered s hold act None = tt
covered s hold act (Some (i, op)) = either (covers hold (spec_at s i) (Plain op)) (Asks act (Callout i (Call (Plain op)))) (Asks act (Itself NotHeld)) tt tt

called : (s : Script) (c : Cursor) (act : Act) (at : Scene) → AsksNoRemove (asks_call s c act at)
called s c act at = covered s c.hold c.act (plain_op act s.hz at)

within : (s : Script) (cpu : ℕ) (c : Cursor) (v : InService) (acts : List Act) → AsksNoRemove (asks_within s cpu c v acts)
within s cpu c v [] = tt
within s cpu c v (act ∷ acts) = called s c act (record { time = v.at; here = cpu; me = v.i })

popping : (r : Role) → IsNoRemove (pop_of r)
popping (Client c) = tt
popping (Cpu x) = tt
popping (Interrupt x) = tt

frees_slot : (r : Role) → IsNoRemove (free_of r)
frees_slot (Client c) = tt
frees_slot (Cpu x) = tt
frees_slot (Interrupt x) = tt

taken : (c : Cursor) (left : List Task) (held : Held) → AsksNoRemove (takes c left held)
taken c left held = either (is_some c.hold) (Asks c.act (Itself Holding)) (Take held (over c left (Some held))) tt tt

drains : (c : Cursor) (i : ℕ) (took : Bool) → AsksNoRemove (asks_drain c i took)
drains c i took = either (is_some c.hold) (Asks c.act (Itself HoldsLock)) _ tt tt

locked : (s : Script) (c : Cursor) (v : InService) (o : Option Held) → AsksNoRemove (locks s c v o)
locked s c v None = tt
locked s c v (Some held) = tt

began : (s : Script) (r : Role) (c : Cursor) (left : List Task) → AsksNoRemove (begins_next s r c left)
began s r c [] = either (is_some c.hold) (Silent (record c { left = []; hold = None; stage = Ready })) Nothing tt tt
began s r c (Soft j ∷ left) = popping r
began s r c (Does (does.Now time) ∷ left) = tt
began s r c (Does (does.Lock id) ∷ left) = taken c left (record { id = id; exclusive = true })
began s r c (Does (does.ReadLock id) ∷ left) = taken c left (record { id = id; exclusive = false })
began s r c (Does does.Unlock ∷ left) = either (is_some c.hold) (Silent (over c left None)) (Asks c.act (Itself NotHolding)) tt tt
began s r c (Does (does.Drain i) ∷ left) = drains c i false
began s r c (Does (does.Tick time) ∷ left) = tt
began s r c (Does (does.Reset who func when arg cpu prec) ∷ left) = called s c (does.Reset who func when arg cpu prec) (record { time = c.now; here = cpu_of s r; me = 0 })
began s r c (Does (does.Ticks who ticks func arg cpu) ∷ left) = called s c (does.Ticks who ticks func arg cpu) (record { time = c.now; here = cpu_of s r; me = 0 })
began s r c (Does (does.Schedule who when cpu prec) ∷ left) = called s c (does.Schedule who when cpu prec) (record { time = c.now; here = cpu_of s r; me = 0 })
began s r c (Does (does.Stop who) ∷ left) = called s c (does.Stop who) (record { time = c.now; here = cpu_of s r; me = 0 })
began s r c (Does (does.AsyncDrain who func) ∷ left) = called s c (does.AsyncDrain who func) (record { time = c.now; here = cpu_of s r; me = 0 })
began s r c (Does (does.Active who) ∷ left) = called s c (does.Active who) (record { time = c.now; here = cpu_of s r; me = 0 })
began s r c (Does (does.Pending who) ∷ left) = called s c (does.Pending who) (record { time = c.now; here = cpu_of s r; me = 0 })
began s r c (Does (does.Deactivate who) ∷ left) = called s c (does.Deactivate who) (record { time = c.now; here = cpu_of s r; me = 0 })
began s r c (Does (does.Init who) ∷ left) = called s c (does.Init who) (record { time = c.now; here = cpu_of s r; me = 0 })
began s r c (Does (does.Retire who) ∷ left) = called s c (does.Retire who) (record { time = c.now; here = cpu_of s r; me = 0 })

staged : (s : Script) (r : Role) (c : Cursor) (x : Stage) → AsksNoRemove (action_in s r c x)
staged s r c Ready = began s r c c.left
staged s r c (Waiting n took) = drains c (drained_of c.left) took
staged s r c (Popping act) = popping r
staged s r c (Picking v) = tt
staged s r c (Locking v) = locked s c v (hold_of (spec_at s v.i).lock)
staged s r c (Beginning v) = tt
staged s r c (Unlocking v acts) = tt
staged s r c (Firing v acts) = within s (cpu_of s r) c v acts
staged s r c (Releasing v) = tt
staged s r c (Ending v) = tt
staged s r c (Freeing v drain next) = frees_slot r
staged s r c (Drained v acts) = within s (cpu_of s r) c v acts

sent : (s : Script) (r : Role) (c : Cursor) (p : Option PendingInsert) → AsksNoRemove (action_with s r c p)
sent s r c None = staged s r c c.stage
sent s r c (Some p) = tt

pub never_removes : (s : Script) (a : ℕ) (c : Cursor) → AsksNoRemove (action_for s a c)
never_removes s a c = sent s (role_of s a) c c.parcel

-- only a Remove is answered Missing
pub not_missing : (m : ℕ) (direct : List Bool) (q : TimerQueue) (op : QOp) (r : QReply) (t : TimerQueue) → QChange m direct q op r t → IsNoRemove op → r ≡ Missing → ⊥
not_missing m direct q op r t (inserts j k u free) other is = cc
not_missing m direct q op r t (removes j held) other is = cc
not_missing m direct q op r t (misses j) other is = other
not_missing m direct q op r t (scans at count) other is = cc
not_missing m direct q op r t (pops d ds first) other is = cc
not_missing m direct q op r t finds_none other is = cc
not_missing m direct q op r t frees other is = cc
not_missing m direct q op r t (pops_direct d ds first) other is = cc
not_missing m direct q op r t finds_no_direct other is = cc
not_missing m direct q op r t frees_direct other is = cc
