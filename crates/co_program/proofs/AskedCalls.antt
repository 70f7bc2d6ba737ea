-- A call is asked in the act that is the next to be over, under a hold that covers it, and nothing is on its way then.
use Rattle.std.proofs.Common.{◌≡◌, ℕ, Bool, true, false, List, [], ◌∷◌, refl, ap, subst}
use Rattle.std.specs.Prelude.{is_some, ⊤, Option, Some, None}
use Rattle.co_object.specs.declared.op.Op.TheVariants.{Call}
use Rattle.co_object.specs.declared.op.CallOp.{CallOp}
use Rattle.co_object.specs.declared.op.CallOp.TheVariants.{Plain, DrainTry}
use Rattle.co_object.specs.declared.op.PlainOp.{PlainOp}
use Rattle.co_object.specs.declared.OwnKind.TheVariants.{NotHeld, Holding, NotHolding}
use Rattle.co_object.proofs.Changes.{either_way}
use Rattle.co_lock.specs.declared.Held.{Held}
use Rattle.co_lock.specs.Covers.{covers}
use Rattle.co_lock.specs.Service.{hold_of}
use Rattle.co_program.specs.declared.script.Script.{Script}
use Rattle.co_program.specs.declared.act.Act.{Act}
use Rattle.co_program.specs.declared.act.Act.TheVariants.{Now, Lock, ReadLock, Unlock, Drain, Tick}
use Rattle.co_program.specs.declared.role.Role.{Role}
use Rattle.co_program.specs.declared.program.Task.{Task}
use Rattle.co_program.specs.declared.program.Task.TheVariants.{Does, Soft}
use Rattle.co_program.specs.declared.cursor.InService.{InService}
use Rattle.co_program.specs.declared.cursor.PendingInsert.{PendingInsert}
use Rattle.co_program.specs.declared.action.Asked.TheVariants.{Callout, Itself}
use Rattle.co_program.specs.Actors.{role_of, cpu_of}
use Rattle.co_program.specs.Calls.{plain_op}
use Rattle.co_program.specs.Cursor.{Cursor}
use Rattle.co_program.specs.Stages.{Stage, Ready, Waiting, Popping, Picking, Locking, Beginning, Unlocking, Firing, Releasing, Ending, Freeing, Drained}
use Rattle.co_program.specs.Action.{Action, Nothing, Silent, Take, Asks, action_for, action_with, action_in, spec_at, over, asks_covered, asks_within, asks_drain, begins_next, takes, locks, drained_of}

abbrev pub IsAsked : Script → Cursor → Action → Type 0
IsAsked s c (Asks act (Callout i (Call op))) = (act ≡ c.act) × (covers c.hold (spec_at s i) op ≡ true)
IsAsked s c action = ⊤

module _ (s : Script) (role : Role) (c : Cursor) where
  asked_covered : (call : Option (ℕ × PlainOp)) → IsAsked s c (asks_covered s c.hold c.act call)
  asked_covered None = tt
  asked_covered (Some (i, op)) = either_way (IsAsked s c) (covers c.hold (spec_at s i) (Plain op)) (Asks c.act (Callout i (Call (Plain op)))) (Asks c.act (Itself NotHeld)) (λ h. (refl, h)) (λ _. tt)

  asked_within : (v : InService) (acts : List Act) → IsAsked s c (asks_within s (cpu_of s role) c v acts)
  asked_within v [] = tt
  asked_within v (act ∷ acts) = asked_covered (plain_op act s.hz (record { time = v.at; here = cpu_of s role; me = v.i }))

  -- a drain's caller holds nothing
  asked_drain : (i : ℕ) (took : Bool) → IsAsked s c (asks_drain c i took)
  asked_drain i took = at_hold c.hold refl where
    at_hold : (h : Option Held) → c.hold ≡ h → IsAsked s c (asks_drain c i took)
    at_hold None is = rw is (refl, refl)
    at_hold (Some held) is = rw is tt

  asked_takes : (left : List Task) (held : Held) → IsAsked s c (takes c left held)
  asked_takes left held = either_way (IsAsked s c) (is_some c.hold) (Asks c.act (Itself Holding)) (Take held (over c left (Some held))) (λ _. tt) (λ _. tt)

  asked_begins : (left : List Task) → IsAsked s c (begins_next s role c left)
  asked_begins [] = either_way (IsAsked s c) (is_some c.hold) (Silent (record c { left = []; hold = None; stage = Ready })) Nothing (λ _. tt) (λ _. tt)
  asked_begins (Does (Now time) ∷ left) = tt
  asked_begins (Does (Lock id) ∷ left) = asked_takes left (record { id = id; exclusive = true })
  asked_begins (Does (ReadLock id) ∷ left) = asked_takes left (record { id = id; exclusive = false })
  asked_begins (Does Unlock ∷ left) = either_way (IsAsked s c) (is_some c.hold) (Silent (over c left None)) (Asks c.act (Itself NotHolding)) (λ _. tt) (λ _. tt)
  asked_begins (Does (Drain i) ∷ left) = asked_drain i false
  asked_begins (Does (Tick time) ∷ left) = tt
  asked_begins (Does act ∷ left) = asked_covered (plain_op act s.hz (record { time = c.now; here = cpu_of s role; me = 0 }))
  asked_begins (Soft j ∷ left) = tt

  asked_locks : (v : InService) (hold : Option Held) → IsAsked s c (locks s c v hold)
  asked_locks v None = tt
  asked_locks v (Some held) = tt

  asked_stage : (stage : Stage) → IsAsked s c (action_in s role c stage)
  asked_stage Ready = asked_begins c.left
  asked_stage (Waiting n took) = asked_drain (drained_of c.left) took
  asked_stage (Popping act) = tt
  asked_stage (Picking v) = tt
  asked_stage (Locking v) = asked_locks v (hold_of (spec_at s v.i).lock)
  asked_stage (Beginning v) = tt
  asked_stage (Unlocking v acts) = tt
  asked_stage (Firing v acts) = asked_within v acts
  asked_stage (Releasing v) = tt
  asked_stage (Ending v) = tt
  asked_stage (Freeing v drain next) = tt
  asked_stage (Drained v acts) = asked_within v acts

  asked_with : (parcel : Option PendingInsert) → IsAsked s c (action_with s role c parcel)
  asked_with None = asked_stage c.stage
  asked_with (Some p) = tt

pub asked_call : (s : Script) (a : ℕ) (c : Cursor) (act i : ℕ) (op : CallOp) → action_for s a c ≡ Asks act (Callout i (Call op)) → (act ≡ c.act) × (covers c.hold (spec_at s i) op ≡ true)
asked_call s a c act i op is = subst (IsAsked s c) is (asked_with s (role_of s a) c c.parcel)

-- ---- a drain is the act under way

abbrev pub IsDrainAsked : Cursor → Action → Type 0
IsDrainAsked c (Asks act (Callout i (Call (DrainTry took)))) = (c.hold ≡ None) × (drained_of c.left ≡ i)
IsDrainAsked c action = ⊤

module _ (s : Script) (role : Role) (c : Cursor) where
  drain_covered : (call : Option (ℕ × PlainOp)) → IsDrainAsked c (asks_covered s c.hold c.act call)
  drain_covered None = tt
  drain_covered (Some (i, op)) = either_way (IsDrainAsked c) (covers c.hold (spec_at s i) (Plain op)) (Asks c.act (Callout i (Call (Plain op)))) (Asks c.act (Itself NotHeld)) (λ _. tt) (λ _. tt)

  drain_within : (v : InService) (acts : List Act) → IsDrainAsked c (asks_within s (cpu_of s role) c v acts)
  drain_within v [] = tt
  drain_within v (act ∷ acts) = drain_covered (plain_op act s.hz (record { time = v.at; here = cpu_of s role; me = v.i }))

  drain_drain : (i : ℕ) (took : Bool) → drained_of c.left ≡ i → IsDrainAsked c (asks_drain c i took)
  drain_drain i took its = at_hold c.hold refl where
    at_hold : (h : Option Held) → c.hold ≡ h → IsDrainAsked c (asks_drain c i took)
    at_hold None is = rw is (refl, its)
    at_hold (Some held) is = rw is tt

  drain_takes : (left : List Task) (held : Held) → IsDrainAsked c (takes c left held)
  drain_takes left held = either_way (IsDrainAsked c) (is_some c.hold) (Asks c.act (Itself Holding)) (Take held (over c left (Some held))) (λ _. tt) (λ _. tt)

  drain_begins : (left : List Task) → c.left ≡ left → IsDrainAsked c (begins_next s role c left)
  drain_begins [] is = either_way (IsDrainAsked c) (is_some c.hold) (Silent (record c { left = []; hold = None; stage = Ready })) Nothing (λ _. tt) (λ _. tt)
  drain_begins (Does (Now time) ∷ left) is = tt
  drain_begins (Does (Lock id) ∷ left) is = drain_takes left (record { id = id; exclusive = true })
  drain_begins (Does (ReadLock id) ∷ left) is = drain_takes left (record { id = id; exclusive = false })
  drain_begins (Does Unlock ∷ left) is = either_way (IsDrainAsked c) (is_some c.hold) (Silent (over c left None)) (Asks c.act (Itself NotHolding)) (λ _. tt) (λ _. tt)
  drain_begins (Does (Drain i) ∷ left) is = drain_drain i false (ap drained_of is)
  drain_begins (Does (Tick time) ∷ left) is = tt
  drain_begins (Does act ∷ left) is = drain_covered (plain_op act s.hz (record { time = c.now; here = cpu_of s role; me = 0 }))
  drain_begins (Soft j ∷ left) is = tt

  drain_locks : (v : InService) (hold : Option Held) → IsDrainAsked c (locks s c v hold)
  drain_locks v None = tt
  drain_locks v (Some held) = tt

  drain_stage : (stage : Stage) → IsDrainAsked c (action_in s role c stage)
  drain_stage Ready = drain_begins c.left refl
  drain_stage (Waiting n took) = drain_drain (drained_of c.left) took refl
  drain_stage (Popping act) = tt
  drain_stage (Picking v) = tt
  drain_stage (Locking v) = drain_locks v (hold_of (spec_at s v.i).lock)
  drain_stage (Beginning v) = tt
  drain_stage (Unlocking v acts) = tt
  drain_stage (Firing v acts) = drain_within v acts
  drain_stage (Releasing v) = tt
  drain_stage (Ending v) = tt
  drain_stage (Freeing v drain next) = tt
  drain_stage (Drained v acts) = drain_within v acts

  drain_with : (parcel : Option PendingInsert) → IsDrainAsked c (action_with s role c parcel)
  drain_with None = drain_stage c.stage
  drain_with (Some p) = tt

pub asked_drain_of : (s : Script) (a : ℕ) (c : Cursor) (act i : ℕ) (took : Bool) → action_for s a c ≡ Asks act (Callout i (Call (DrainTry took))) → (c.hold ≡ None) × (drained_of c.left ≡ i)
asked_drain_of s a c act i took is = subst (IsDrainAsked c) is (drain_with s (role_of s a) c c.parcel)
