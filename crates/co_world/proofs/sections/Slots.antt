-- What a stage has in service and which callout it is about: what each step keeps of both.
use Rattle.std.proofs.Common.{◌≡◌, ℕ, Bool, true, false, List, [], ◌∷◌, refl, sym, ap, ◌∙◌, subst, Option, Some, None}
use Rattle.co_object.specs.declared.Op.TheVariants.{Call}
use Rattle.co_object.specs.declared.CallOp.{CallOp}
use Rattle.co_object.specs.declared.CallOp.TheVariants.{DrainTry}
use Rattle.co_object.specs.declared.Op.{Op}
use Rattle.co_object.specs.declared.OwnKind.{OwnKind}
use Rattle.co_object.specs.declared.Reply.{Reply}
use Rattle.co_object.specs.declared.Reply.TheVariants.{Armed, Wait}
use Rattle.co_object.specs.declared.Spec.{Spec}
use Rattle.co_object.specs.declared.State.{State}
use Rattle.co_object.specs.Stand.{off}
use Rattle.co_lock.specs.declared.held.Held.{Held}
use Rattle.co_program.specs.declared.act.Act.{Act}
use Rattle.co_program.specs.declared.role.Role.{Role}
use Rattle.co_program.specs.declared.cursor.InService.{InService}
use Rattle.co_program.specs.declared.action.Asked.TheVariants.{Callout, Itself}
use Rattle.co_program.specs.declared.script.Script.{Script}
use Rattle.co_program.specs.Stages.{Stage, Ready, Waiting, Popping, Picking, Locking, Beginning, Unlocking, Firing, Releasing, Ending, Freeing, Drained}
use Rattle.co_program.specs.Cursor.{Cursor}
use Rattle.co_program.specs.Action.{Silent, Take, Asks, firing, draining}
use Rattle.co_program.specs.Advance.{act_over, call_made, tail_of}
use Rattle.co_world.specs.Step.{is_within_service}
use Rattle.co_world.specs.Placed.{in_slot, stage_callout, due_in_service}
use Rattle.co_world.proofs.basics.Actions.{IsAction, drops, passes, grabs, tells, asks, drains, waits, waits_told, enters, unlocks, fires, fires_told, releases, serves, serves_told}
use Rattle.co_world.proofs.kept.Operations.{Did}
use Rattle.co_world.proofs.kept.Operations as deed
use Rattle.co_world.proofs.kept.Stages.{plain_called, is_acting}

-- what a stage keeps of the one before
pub record StageKept (from to : Stage) : Type 0 where
  pub slot : in_slot to ≡ in_slot from
  pub callout : (i : ℕ) → stage_callout to ≡ Some i → stage_callout from ≡ Some i

pub kept_same : (stage : Stage) → StageKept stage stage
kept_same stage = record { slot = refl; callout = λ i is. is }

-- a stage with nothing in service, about no callout
rests : (from to : Stage) → in_slot from ≡ None → in_slot to ≡ None → stage_callout to ≡ None → StageKept from to
rests from to a b c = record { slot = b ∙ sym a; callout = λ i is. (let clash : None ≡ Some i = sym c ∙ is in cc) }

-- a service that goes on
module _ (v : InService) where
  abbrev IsOf : Stage → Type 0
  IsOf stage = (in_slot stage ≡ Some (due_in_service v)) × (stage_callout stage ≡ Some v.i)

  pub goes_on_with : (from to : Stage) → IsOf from → IsOf to → StageKept from to
  goes_on_with from to a b = record { slot = b.0 ∙ sym a.0; callout = λ i is. a.1 ∙ sym b.1 ∙ is }

  pub firing_of : (hold : Option Held) (acts : List Act) → IsOf (firing v hold acts)
  firing_of hold (act ∷ acts) = (refl, refl)
  firing_of None [] = (refl, refl)
  firing_of (Some held) [] = (refl, refl)

pub draining_of : (v : InService) (acts : List Act) → (in_slot (draining v acts) ≡ None) × ((i : ℕ) → stage_callout (draining v acts) ≡ Some i → i ≡ v.i)
draining_of v [] = (refl, λ i is. (let e : None ≡ Some i = is in cc))
draining_of v (act ∷ acts) = (refl, λ i is. (let e : Some v.i ≡ Some i = is in let f : v.i ≡ i = cc in sym f))

module _ (s : Script) (role : Role) (c : Cursor) where
  pub silent_kept : (stage : Stage) (to : Cursor) → IsAction s role c stage (Silent to) → StageKept stage to.stage × (to.parcel ≡ c.parcel)
  silent_kept stage to (drops is some) = (kept_same Ready, refl)
  silent_kept stage to (passes task left now hold is own) = (kept_same Ready, refl)
  silent_kept stage to (unlocks v acts) = (goes_on_with v (Unlocking v acts) (firing v None acts) (refl, refl) (firing_of v None acts), refl)
  silent_kept stage to (releases v) = (goes_on_with v (Releasing v) (Ending v) (refl, refl) (refl, refl), refl)

  pub take_kept : (stage : Stage) (held : Held) (to : Cursor) → IsAction s role c stage (Take held to) → StageKept stage to.stage × (to.parcel ≡ c.parcel)
  take_kept stage held to (grabs task left h is own free) = (kept_same Ready, refl)
  take_kept stage held to (enters v h is) = (goes_on_with v (Locking v) (Beginning v) (refl, refl) (refl, refl), refl)

-- an act that is over
pub over_kept : (c : Cursor) (stage : Stage) → is_acting stage ≡ true → StageKept stage (act_over c stage).stage
over_kept c Ready h = kept_same Ready
over_kept c (Waiting n took) h = rests (Waiting n took) Ready refl refl refl
over_kept c (Firing v acts) h = goes_on_with v (Firing v acts) (firing v c.hold (tail_of acts)) (refl, refl) (firing_of v c.hold (tail_of acts))
over_kept c (Drained v acts) h = record { slot = (draining_of v (tail_of acts)).0; callout = λ i is. ap Some (sym ((draining_of v (tail_of acts)).1 i is)) }
over_kept c (Popping act) h = cc
over_kept c (Picking v) h = cc
over_kept c (Locking v) h = cc
over_kept c (Beginning v) h = cc
over_kept c (Unlocking v acts) h = cc
over_kept c (Releasing v) h = cc
over_kept c (Ending v) h = cc
over_kept c (Freeing v drain next) h = cc

-- no section is half made after it
pub over_within : (c : Cursor) (stage : Stage) → is_acting stage ≡ true → is_within_service (act_over c stage).stage ≡ false
over_within c Ready h = refl
over_within c (Waiting n took) h = refl
over_within c (Firing v acts) h = go c.hold (tail_of acts) where
  go : (hold : Option Held) (acts : List Act) → is_within_service (firing v hold acts) ≡ false
  go hold (act ∷ acts) = refl
  go None [] = refl
  go (Some held) [] = refl
over_within c (Drained v acts) h = go (tail_of acts) where
  go : (acts : List Act) → is_within_service (draining v acts) ≡ false
  go [] = refl
  go (act ∷ acts) = refl
over_within c (Popping act) h = cc
over_within c (Picking v) h = cc
over_within c (Locking v) h = cc
over_within c (Beginning v) h = cc
over_within c (Unlocking v acts) h = cc
over_within c (Releasing v) h = cc
over_within c (Ending v) h = cc
over_within c (Freeing v drain next) h = cc

pub over_parcel : (c : Cursor) (stage : Stage) → (act_over c stage).parcel ≡ c.parcel
over_parcel c (Firing v acts) = refl
over_parcel c (Drained v acts) = refl
over_parcel c Ready = refl
over_parcel c (Waiting n took) = refl
over_parcel c (Popping act) = refl
over_parcel c (Picking v) = refl
over_parcel c (Locking v) = refl
over_parcel c (Beginning v) = refl
over_parcel c (Unlocking v acts) = refl
over_parcel c (Releasing v) = refl
over_parcel c (Ending v) = refl
over_parcel c (Freeing v drain next) = refl

-- the stage in which a note of the actor's own is made, and a call
pub own_acting : (s : Script) (role : Role) (c : Cursor) (stage : Stage) (act : ℕ) (kind : OwnKind) → IsAction s role c stage (Asks act (Itself kind)) → is_acting stage ≡ true
own_acting s role c stage act kind (tells task left k is own) = refl
own_acting s role c stage act kind (waits_told n took k some) = refl
own_acting s role c stage act kind (fires_told v x acts k) = refl
own_acting s role c stage act kind (serves_told v x acts k) = refl

pub own_kept : (s : Script) (role : Role) (c d : Cursor) (stage : Stage) (act : ℕ) (kind : OwnKind) → IsAction s role c stage (Asks act (Itself kind)) → StageKept stage (act_over d stage).stage
own_kept s role c d stage act kind view = over_kept d stage (own_acting s role c stage act kind view)

pub call_acting : (s : Script) (role : Role) (c : Cursor) (stage : Stage) (act i : ℕ) (op : CallOp) → IsAction s role c stage (Asks act (Callout i (Call op))) → is_acting stage ≡ true
call_acting s role c stage act i op (asks task left j p is own) = refl
call_acting s role c stage act i op (drains j left is free) = refl
call_acting s role c stage act i op (waits n took free) = refl
call_acting s role c stage act i op (fires v x acts j p) = refl
call_acting s role c stage act i op (serves v x acts j p) = refl

-- a drain is made between two acts or while it waits
rests_in : (s : Script) (role : Role) (c : Cursor) (stage : Stage) (act i : ℕ) (took : Bool) → IsAction s role c stage (Asks act (Callout i (Call (DrainTry took)))) → in_slot stage ≡ None
rests_in s role c stage act i took (drains j left is free) = refl
rests_in s role c stage act i took (waits n t free) = refl

armed_stage : (c : Cursor) (i : ℕ) (listed : Bool) (op : Op) (code : _) (n cpu : ℕ) (gone : Option ℕ) → (call_made c i listed op (Armed code n cpu gone)).stage ≡ (act_over c c.stage).stage
armed_stage c i true op code n cpu gone = refl
armed_stage c i false op code n cpu gone = refl

wait_stage : (c : Cursor) (i : ℕ) (listed : Bool) (op : Op) (n : ℕ) (took : Bool) (gone : Option ℕ) → (call_made c i listed op (Wait n took gone)).stage ≡ Waiting n took
wait_stage c i true op n took gone = refl
wait_stage c i false op n took gone = refl

module _ (s : Script) (role : Role) (c d : Cursor) (act i : ℕ) where
  abbrev View : CallOp → Type 0
  View op = IsAction s role c d.stage (Asks act (Callout i (Call op)))

  over : (op : CallOp) → View op → StageKept d.stage (act_over d d.stage).stage
  over op view = over_kept d d.stage (call_acting s role c d.stage act i op view)

  pub call_kept : (op : CallOp) (listed : Bool) (spec : Spec) (state t : State) (reply : Reply) → View op → Did spec state (Call op) reply t → StageKept d.stage (call_made d i listed (Call op) reply).stage
  call_kept op listed spec state t reply view (deed.keeps o r u armed run plain none) = subst (λ (x : Cursor). StageKept d.stage x.stage) (sym (plain_called d i listed (Call op) reply plain)) (over op view)
  call_kept op listed spec state t reply view (deed.clears o r u armed run plain gone) = subst (λ (x : Cursor). StageKept d.stage x.stage) (sym (plain_called d i listed (Call op) reply plain)) (over op view)
  call_kept op listed spec state t reply view (deed.waits took took' n u armed run served) =
      subst (StageKept d.stage) (sym (wait_stage d i listed (Call op) n took' (off state))) (rests d.stage (Waiting n took') (rests_in s role c d.stage act i took view) refl refl)
  call_kept op listed spec state t reply view (deed.arms p code arming u armed due run) = subst (StageKept d.stage) (sym (armed_stage d i listed (Call op) code arming.n arming.cpu (off state))) (over op view)

  -- no section is half made after a call's entry
  pub call_within : (op : CallOp) (listed : Bool) (spec : Spec) (state t : State) (reply : Reply) → View op → Did spec state (Call op) reply t → is_within_service (call_made d i listed (Call op) reply).stage ≡ false
  call_within op listed spec state t reply view (deed.keeps o r u armed run plain none) = ap (λ (x : Cursor). is_within_service x.stage) (plain_called d i listed (Call op) reply plain) ∙ over_within d d.stage (call_acting s role c d.stage act i op view)
  call_within op listed spec state t reply view (deed.clears o r u armed run plain gone) = ap (λ (x : Cursor). is_within_service x.stage) (plain_called d i listed (Call op) reply plain) ∙ over_within d d.stage (call_acting s role c d.stage act i op view)
  call_within op listed spec state t reply view (deed.waits took took' n u armed run served) = ap is_within_service (wait_stage d i listed (Call op) n took' (off state))
  call_within op listed spec state t reply view (deed.arms p code arming u armed due run) =
      ap is_within_service (armed_stage d i listed (Call op) code arming.n arming.cpu (off state)) ∙ over_within d d.stage (call_acting s role c d.stage act i op view)
