-- What may be due at each stage: the definition read backwards, for proofs about it.
use Rattle.std.proofs.Common.{◌≡◌, ℕ, Bool, true, false, List, [], ◌∷◌, refl, Option, Some, None}
use Rattle.std.specs.Prelude.{is_some}
use Rattle.co_object.specs.declared.PlainOp.{PlainOp}
use Rattle.co_object.specs.declared.Op.TheVariants.{Call, Run}
use Rattle.co_object.specs.declared.CallOp.TheVariants.{Plain, DrainTry}
use Rattle.co_object.specs.declared.RunOp.TheVariants.{Pick, Begin, End}
use Rattle.co_object.specs.declared.QOp.TheVariants.{Insert, Scan}
use Rattle.co_object.specs.declared.OwnKind.{OwnKind}
use Rattle.co_object.specs.declared.OwnKind.TheVariants.{NotHeld, HoldsLock, Holding, NotHolding}
use Rattle.co_object.specs.declared.Next.{Next}
use Rattle.co_lock.specs.declared.Held.{Held}
use Rattle.co_lock.specs.Covers.{covers}
use Rattle.co_lock.specs.Service.{hold_of}
use Rattle.co_program.specs.declared.Script.{Script}
use Rattle.co_program.specs.declared.Act.{Act}
use Rattle.co_program.specs.declared.Act.TheVariants.{Now, Lock, ReadLock, Unlock, Drain, Tick}
use Rattle.co_program.specs.Calls.{plain_op}
use Rattle.co_program.specs.Actors.{cpu_of}
use Rattle.co_program.specs.declared.Task.{Task}
use Rattle.co_program.specs.declared.Task.TheVariants.{Does, Soft}
use Rattle.co_program.specs.declared.Role.{Role}
use Rattle.co_program.specs.Stages.{Stage, Ready, Waiting, Popping, Picking, Locking, Beginning, Unlocking, Firing, Releasing, Ending, Freeing, Drained}
use Rattle.co_program.specs.declared.InService.{InService}
use Rattle.co_program.specs.Cursor.{Cursor}
use Rattle.co_program.specs.declared.PendingInsert.{PendingInsert}
use Rattle.co_program.specs.Action.{Action, Nothing, Silent, Take, Asks, spec_at, asks_covered, asks_within, over, takes, begins_next, drained_of, locks, firing, action_in, action_with, pop_of, free_of}
use Rattle.co_program.specs.declared.Asked.TheVariants.{Callout, Queue, Itself}
use Rattle.co_world.proofs.basics.Updates.{at_choice}

-- a task that is a client's alone
abbrev pub is_clients : Task → Bool
is_clients (Does (Tick time)) = false
is_clients (Does act) = true
is_clients (Soft j) = false

-- at this stage this may be due
pub data IsAction (s : Script) (role : Role) (c : Cursor) : Stage → Action → Type 0 where
  stays : (stage : Stage) → IsAction s role c stage Nothing
  -- between two acts
  drops : c.left ≡ [] → is_some c.hold ≡ true → IsAction s role c Ready (Silent (record c { left = []; hold = None; stage = Ready }))
  passes : (task : Task) (left : List Task) (now : ℕ) (hold : Option Held) → c.left ≡ task ∷ left → is_clients task ≡ true → IsAction s role c Ready (Silent (record (over c left hold) { now = now }))
  grabs : (task : Task) (left : List Task) (held : Held) → c.left ≡ task ∷ left → is_clients task ≡ true → c.hold ≡ None → IsAction s role c Ready (Take held (over c left (Some held)))
  tells : (task : Task) (left : List Task) (kind : OwnKind) → c.left ≡ task ∷ left → is_clients task ≡ true → IsAction s role c Ready (Asks c.act (Itself kind))
  asks : (task : Task) (left : List Task) (i : ℕ) (op : PlainOp) → c.left ≡ task ∷ left → is_clients task ≡ true → IsAction s role c Ready (Asks c.act (Callout i (Call (Plain op))))
  drains : (i : ℕ) (left : List Task) → c.left ≡ Does (Drain i) ∷ left → c.hold ≡ None → IsAction s role c Ready (Asks c.act (Callout i (Call (DrainTry false))))
  scans : (time : ℕ) (left : List Task) → c.left ≡ Does (Tick time) ∷ left → IsAction s role c Ready (Asks c.act (Queue (cpu_of s role) (Scan time)))
  starts : (j : ℕ) (left : List Task) → c.left ≡ Soft j ∷ left → IsAction s role c Ready (Asks c.act (Queue (cpu_of s role) (pop_of role)))
  -- in a drain
  waits : (n : ℕ) (took : Bool) → c.hold ≡ None → IsAction s role c (Waiting n took) (Asks c.act (Callout (drained_of c.left) (Call (DrainTry took))))
  waits_told : (n : ℕ) (took : Bool) (kind : OwnKind) → is_some c.hold ≡ true → IsAction s role c (Waiting n took) (Asks c.act (Itself kind))
  -- in a round
  pops : (act : ℕ) → IsAction s role c (Popping act) (Asks act (Queue (cpu_of s role) (pop_of role)))
  picks : (v : InService) → IsAction s role c (Picking v) (Asks v.act (Callout v.i (Run (Pick v.n (cpu_of s role) v.at))))
  enters : (v : InService) (held : Held) → hold_of (spec_at s v.i).lock ≡ Some held → IsAction s role c (Locking v) (Take held (record c { hold = Some held; stage = Beginning v }))
  opens : (v : InService) → IsAction s role c (Beginning v) (Asks v.act (Callout v.i (Run (Begin v.n (cpu_of s role)))))
  unlocks : (v : InService) (acts : List Act) → IsAction s role c (Unlocking v acts) (Silent (record c { hold = None; stage = firing v None acts }))
  fires : (v : InService) (act : Act) (acts : List Act) (i : ℕ) (op : PlainOp) → IsAction s role c (Firing v (act ∷ acts)) (Asks c.act (Callout i (Call (Plain op))))
  fires_told : (v : InService) (act : Act) (acts : List Act) (kind : OwnKind) → IsAction s role c (Firing v (act ∷ acts)) (Asks c.act (Itself kind))
  releases : (v : InService) → IsAction s role c (Releasing v) (Silent (record c { hold = None; stage = Ending v }))
  ends : (v : InService) → IsAction s role c (Ending v) (Asks v.act (Callout v.i (Run (End v.n (cpu_of s role)))))
  frees : (v : InService) (drain : Option ℕ) (next : Option Next) → IsAction s role c (Freeing v drain next) (Asks v.act (Queue (cpu_of s role) (free_of role)))
  serves : (v : InService) (act : Act) (acts : List Act) (i : ℕ) (op : PlainOp) → IsAction s role c (Drained v (act ∷ acts)) (Asks c.act (Callout i (Call (Plain op))))
  serves_told : (v : InService) (act : Act) (acts : List Act) (kind : OwnKind) → IsAction s role c (Drained v (act ∷ acts)) (Asks c.act (Itself kind))

covered : (P : Action → Type 0) (s : Script) (hold : Option Held) (act : ℕ) (call : Option (ℕ × PlainOp)) → P Nothing → P (Asks act (Itself NotHeld)) → ((i : ℕ) (op : PlainOp) → P (Asks act (Callout i (Call (Plain op))))) → P (asks_covered s hold act call)
covered P s hold act None none told asked = none
covered P s hold act (Some (i, op)) none told asked =
    at_choice P (covers hold (spec_at s i) (Plain op)) (Asks act (Callout i (Call (Plain op)))) (Asks act (Itself NotHeld)) (λ e. asked i op) (λ e. told)

none_of : (o : Option Held) → is_some o ≡ false → o ≡ None
none_of None h = refl
none_of (Some x) h = cc

module _ (s : Script) (role : Role) (c : Cursor) where
  due_takes : (task : Task) (left : List Task) (held : Held) → c.left ≡ task ∷ left → is_clients task ≡ true → IsAction s role c Ready (takes c left held)
  due_takes task left held is own =
      at_choice (IsAction s role c Ready) (is_some c.hold) (Asks c.act (Itself Holding)) (Take held (over c left (Some held))) (λ e. tells task left Holding is own) (λ e. grabs task left held is own (none_of c.hold e))

  due_act : (task : Task) (left : List Task) (call : Option (ℕ × PlainOp)) → c.left ≡ task ∷ left → is_clients task ≡ true → IsAction s role c Ready (asks_covered s c.hold c.act call)
  due_act task left call is own = covered (IsAction s role c Ready) s c.hold c.act call (stays Ready) (tells task left NotHeld is own) (λ i op. asks task left i op is own)

  due_begins : (left : List Task) → c.left ≡ left → IsAction s role c Ready (begins_next s role c left)
  due_begins [] is = at_choice (IsAction s role c Ready) (is_some c.hold) (Silent (record c { left = []; hold = None; stage = Ready })) Nothing (λ e. drops is e) (λ e. stays Ready)
  due_begins (Does (Now time) ∷ left) is = passes (Does (Now time)) left time c.hold is refl
  due_begins (Does (Lock id) ∷ left) is = due_takes (Does (Lock id)) left (record { id = id; exclusive = true }) is refl
  due_begins (Does (ReadLock id) ∷ left) is = due_takes (Does (ReadLock id)) left (record { id = id; exclusive = false }) is refl
  due_begins (Does Unlock ∷ left) is =
      at_choice (IsAction s role c Ready) (is_some c.hold) (Silent (over c left None)) (Asks c.act (Itself NotHolding)) (λ e. passes (Does Unlock) left c.now None is refl) (λ e. tells (Does Unlock) left NotHolding is refl)
  due_begins (Does (Drain i) ∷ left) is =
      at_choice (IsAction s role c Ready) (is_some c.hold) (Asks c.act (Itself HoldsLock)) (Asks c.act (Callout i (Call (DrainTry false)))) (λ e. tells (Does (Drain i)) left HoldsLock is refl) (λ e. drains i left is (none_of c.hold e))
  due_begins (Does (Tick time) ∷ left) is = scans time left is
  due_begins (Does act ∷ left) is = due_act (Does act) left (plain_op act s.hz (record { time = c.now; here = cpu_of s role; me = 0 })) is refl
  due_begins (Soft j ∷ left) is = starts j left is

  due_within : (stage : Stage) (v : InService) (acts : List Act) → ((act : Act) (left : List Act) → acts ≡ act ∷ left → (kind : OwnKind) → IsAction s role c stage (Asks c.act (Itself kind))) →
      ((act : Act) (left : List Act) → acts ≡ act ∷ left → (i : ℕ) (op : PlainOp) → IsAction s role c stage (Asks c.act (Callout i (Call (Plain op))))) → IsAction s role c stage (asks_within s (cpu_of s role) c v acts)
  due_within stage v [] told asked = stays stage
  due_within stage v (act ∷ acts) told asked =
      covered (IsAction s role c stage) s c.hold c.act (plain_op act s.hz (record { time = v.at; here = cpu_of s role; me = v.i })) (stays stage) (told act acts refl NotHeld) (asked act acts refl)

  due_locks : (v : InService) (hold : Option Held) → hold_of (spec_at s v.i).lock ≡ hold → IsAction s role c (Locking v) (locks s c v hold)
  due_locks v None is = stays (Locking v)
  due_locks v (Some held) is = enters v held is

  pub due_stage : (stage : Stage) → IsAction s role c stage (action_in s role c stage)
  due_stage Ready = due_begins c.left refl
  due_stage (Waiting n took) =
      at_choice (IsAction s role c (Waiting n took)) (is_some c.hold) (Asks c.act (Itself HoldsLock)) (Asks c.act (Callout (drained_of c.left) (Call (DrainTry took)))) (λ e. waits_told n took HoldsLock e) (λ e. waits n took (none_of c.hold e))
  due_stage (Popping act) = pops act
  due_stage (Picking v) = picks v
  due_stage (Locking v) = due_locks v (hold_of (spec_at s v.i).lock) refl
  due_stage (Beginning v) = opens v
  due_stage (Unlocking v acts) = unlocks v acts
  due_stage (Firing v []) = stays (Firing v [])
  due_stage (Firing v (act ∷ acts)) = due_within (Firing v (act ∷ acts)) v (act ∷ acts) (λ x left is kind. fires_told v act acts kind) (λ x left is i op. fires v act acts i op)
  due_stage (Releasing v) = releases v
  due_stage (Ending v) = ends v
  due_stage (Freeing v drain next) = frees v drain next
  due_stage (Drained v []) = stays (Drained v [])
  due_stage (Drained v (act ∷ acts)) = due_within (Drained v (act ∷ acts)) v (act ∷ acts) (λ x left is kind. serves_told v act acts kind) (λ x left is i op. serves v act acts i op)

-- the same with a callout that is on its way
pub data IsActionWith (s : Script) (role : Role) (c : Cursor) : Option PendingInsert → Action → Type 0 where
  inserts : (p : PendingInsert) → IsActionWith s role c (Some p) (Asks p.act (Queue p.cpu (Insert p.i p.n p.due)))
  goes_by : (due : Action) → IsAction s role c c.stage due → IsActionWith s role c None due

pub due_parcel : (s : Script) (role : Role) (c : Cursor) (parcel : Option PendingInsert) → IsActionWith s role c parcel (action_with s role c parcel)
due_parcel s role c None = goes_by (action_in s role c c.stage) (due_stage s role c c.stage)
due_parcel s role c (Some p) = inserts p
