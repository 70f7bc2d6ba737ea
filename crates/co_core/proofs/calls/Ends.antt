-- How a call ends: the callout stays, enters the queue where it stands, or leaves for another CPU.
use Rattle.std.proofs.Common.{◌≡◌, ℕ, ◌⊎◌, inl, inr, Bool, true, false, cond, not, refl, sym, ap, ◌∙◌, Option, Some, None, eqb-true, eq-eqb}
use Rattle.std.specs.Prelude.{◌==◌, ◌&&◌, is_some}
use Rattle.co_object.specs.declared.Arming.{Arming}
use Rattle.co_object.specs.declared.Run.{Run}
use Rattle.co_object.specs.declared.Run.TheVariants.{Idle, Picked, Cancelled, Running}
use Rattle.co_object.specs.declared.State.{State}
use Rattle.co_object.specs.declared.Spec.{Spec}
use Rattle.co_object.specs.declared.Op.TheVariants.{Call}
use Rattle.co_object.specs.declared.CallOp.{CallOp}
use Rattle.co_object.specs.declared.Reply.{Reply}
use Rattle.co_object.specs.declared.Reply.TheVariants.{NotArmed, Armed, Stopped, Done, Drained, Wait, Hold, Go, Ended, NoHandler, Worn, Busy, Yes, No, Live, Retired, InUse, Skip}
use Rattle.co_object.specs.Entries.{is_armed}
use Rattle.co_object.specs.Group.{off_of}
use Rattle.co_object.specs.Stand.{is_idle, is_free_at, off, stand_of, listed_cpu, Listed, Deferred}
use Rattle.co_program.specs.declared.cursor.PendingInsert.{PendingInsert}
use Rattle.co_program.specs.Cursor.{Cursor}
use Rattle.co_program.specs.Advance.{call_made, due_of_call}
use Rattle.co_wheel.specs.Call.{is_away}
use Rattle.co_world.proofs.kept.ByCalls.{off_same, off_none}
use Rattle.co_world.proofs.kept.Listed.{off_listed}
use Rattle.co_world.proofs.kept.Operations.{Did, is_plain}
use Rattle.co_world.proofs.kept.Operations as deed
use Rattle.co_world.proofs.basics.Changes.{decide}
use Rattle.co_world.proofs.kept.Stages.{plain_called}
use Rattle.co_world.proofs.sections.Slots.{over_parcel}

-- ---- runs

-- free at two CPUs is idle
free_both : (r : Run) (x y : ℕ) → is_free_at r x ≡ true → is_free_at r y ≡ true → (y ≡ x → ⊥) → is_idle r ≡ true
free_both Idle x y a b apart = refl
free_both (Picked arming) x y a b apart = absurd (apart (sym (eqb-true arming.cpu y b) ∙ eqb-true arming.cpu x a))
free_both (Cancelled n cpu) x y a b apart = absurd (apart (sym (eqb-true cpu y b) ∙ eqb-true cpu x a))
free_both (Running n cpu) x y a b apart = absurd (apart (sym (eqb-true cpu y b) ∙ eqb-true cpu x a))

busy_if_not_free : (r : Run) (x : ℕ) → is_free_at r x ≡ false → is_idle r ≡ false
busy_if_not_free Idle x h = cc
busy_if_not_free (Picked arming) x h = refl
busy_if_not_free (Cancelled n cpu) x h = refl
busy_if_not_free (Running n cpu) x h = refl

-- ---- replies that arm nothing

plain_away : (cpu : ℕ) (r : Reply) (t : State) → is_plain r ≡ true → is_away cpu r t ≡ false
plain_away cpu (Armed code n to gone) t h = cc
plain_away cpu (Wait n took gone) t h = refl
plain_away cpu (NotArmed code) t h = refl
plain_away cpu NoHandler t h = refl
plain_away cpu Worn t h = refl
plain_away cpu (Stopped code gone) t h = refl
plain_away cpu (Drained code gone) t h = refl
plain_away cpu Busy t h = refl
plain_away cpu Yes t h = refl
plain_away cpu No t h = refl
plain_away cpu Done t h = refl
plain_away cpu (Go func arg) t h = refl
plain_away cpu Hold t h = refl
plain_away cpu Skip t h = refl
plain_away cpu (Ended drain next woke) t h = refl
plain_away cpu Live t h = refl
plain_away cpu Retired t h = refl
plain_away cpu (InUse armed serviced) t h = refl

plain_armed : (r : Reply) → is_plain r ≡ true → is_armed r ≡ false
plain_armed (Armed code n to gone) h = cc
plain_armed (Wait n took gone) h = refl
plain_armed (NotArmed code) h = refl
plain_armed NoHandler h = refl
plain_armed Worn h = refl
plain_armed (Stopped code gone) h = refl
plain_armed (Drained code gone) h = refl
plain_armed Busy h = refl
plain_armed Yes h = refl
plain_armed No h = refl
plain_armed Done h = refl
plain_armed (Go func arg) h = refl
plain_armed Hold h = refl
plain_armed Skip h = refl
plain_armed (Ended drain next woke) h = refl
plain_armed Live h = refl
plain_armed Retired h = refl
plain_armed (InUse armed serviced) h = refl

-- ---- what a call takes out of a queue, and whether a service goes on

pub took_out : (spec : Spec) (st t : State) (op : CallOp) (r : Reply) → Did spec st (Call op) r t → (off_of r ≡ None) ⊎ (off_of r ≡ off st)
took_out spec st t op r (deed.keeps o x u armed run plain none) = inl none
took_out spec st t op r (deed.clears o x u armed run plain gone) = inr gone
took_out spec st t op r (deed.waits took took' n u armed run served) = inr refl
took_out spec st t op r (deed.arms p code arming u armed due run) = inr refl

pub runs_on_free : (spec : Spec) (st t : State) (op : CallOp) (r : Reply) (cpu : ℕ) → Did spec st (Call op) r t → is_free_at st.run cpu ≡ true → is_free_at t.run cpu ≡ true
runs_on_free spec st t op r cpu (deed.keeps o x u armed run plain none) free = sym (run.free cpu) ∙ free
runs_on_free spec st t op r cpu (deed.clears o x u armed run plain gone) free = sym (run.free cpu) ∙ free
runs_on_free spec st t op r cpu (deed.waits took took' n u armed run served) free = sym (run.free cpu) ∙ free
runs_on_free spec st t op r cpu (deed.arms p code arming u armed due run) free = sym (run.free cpu) ∙ free

-- ---- the end

-- the Insert of this arming is on its way
abbrev pub parcel_for : Cursor → ℕ → CallOp → Arming → PendingInsert
parcel_for c i op arming = record { act = c.act; i = i; n = arming.n; due = due_of_call (Call op); cpu = arming.cpu }

-- after the call's entry, in this state and with this reply, at CPU cpu
pub data Ends (c : Cursor) (i cpu : ℕ) (op : CallOp) (t : State) (r : Reply) : Type 0 where
  -- nothing is on its way, and what is listed is so here
  stays : (call_made c i (is_some (off t)) (Call op) r).parcel ≡ None → is_away cpu r t ≡ false → (is_armed r ≡ false) ⊎ (off t ≡ None) → ((y : ℕ) → off t ≡ Some y → cpu ≡ y) → Ends c i cpu op t r
  -- the arming enters the queue here
  lands : (arming : Arming) → t.armed ≡ Some arming → arming.cpu ≡ cpu → arming.due ≡ due_of_call (Call op) → off t ≡ Some cpu → is_armed r ≡ true → is_away cpu r t ≡ false →
      (call_made c i (is_some (off t)) (Call op) r).parcel ≡ Some (parcel_for c i op arming) → Ends c i cpu op t r
  -- it is of another CPU, and the callout is in no service
  leaves : (arming : Arming) → t.armed ≡ Some arming → (arming.cpu ≡ cpu → ⊥) → arming.due ≡ due_of_call (Call op) → off t ≡ Some arming.cpu → is_idle t.run ≡ true → is_armed r ≡ true → is_away cpu r t ≡ true →
      (call_made c i (is_some (off t)) (Call op) r).parcel ≡ Some (parcel_for c i op arming) → Ends c i cpu op t r

module _ (c : Cursor) (i cpu : ℕ) (spec : Spec) (st : State) (empty : c.parcel ≡ None) (free : is_free_at st.run cpu ≡ true) (listed : (y : ℕ) → off st ≡ Some y → cpu ≡ y) where
  plain_parcel : (op : CallOp) (l : Bool) (r : Reply) → is_plain r ≡ true → (call_made c i l (Call op) r).parcel ≡ None
  plain_parcel op l r plain = ap (λ (d : Cursor). d.parcel) (plain_called c i l (Call op) r plain) ∙ over_parcel c c.stage ∙ empty

  waits_parcel : (op : CallOp) (l : Bool) (n : ℕ) (took : Bool) (gone : Option ℕ) → (call_made c i l (Call op) (Wait n took gone)).parcel ≡ None
  waits_parcel op true n took gone = empty
  waits_parcel op false n took gone = empty

  none_listed : (t : State) → off t ≡ None → (y : ℕ) → off t ≡ Some y → cpu ≡ y
  none_listed t none y is = let clash : None ≡ Some y = sym none ∙ is in cc

  armed_end : (op : CallOp) (code : _) (arming : Arming) (t : State) (gone : Option ℕ) → t.armed ≡ Some arming → arming.due ≡ due_of_call (Call op) → is_free_at t.run cpu ≡ true → Ends c i cpu op t (Armed code arming.n arming.cpu gone)
  armed_end op code arming t gone armed due here = go (is_free_at t.run arming.cpu) refl where
    r : Reply
    r = Armed code arming.n arming.cpu gone

    deferred : is_free_at t.run arming.cpu ≡ false → off t ≡ None
    deferred not = ap (λ (o : Option Arming). listed_cpu (stand_of o t.run)) armed ∙ ap (λ (b : Bool). listed_cpu (cond b (Listed arming.cpu) (Deferred arming.cpu))) not

    on_its_way : (l : Bool) → l ≡ true → (call_made c i l (Call op) r).parcel ≡ Some (parcel_for c i op arming)
    on_its_way true h = refl
    on_its_way false h = cc

    not_on_its_way : (l : Bool) → l ≡ false → (call_made c i l (Call op) r).parcel ≡ None
    not_on_its_way true h = cc
    not_on_its_way false h = over_parcel c c.stage ∙ empty

    and_false : (b : Bool) → (b && false) ≡ false
    and_false true = refl
    and_false false = refl

    placed : (arming.cpu ≡ cpu) ⊎ (arming.cpu ≡ cpu → ⊥) → is_free_at t.run arming.cpu ≡ true → Ends c i cpu op t r
    placed (inl same) yes' =
        let at : off t ≡ Some arming.cpu = off_listed t arming armed yes' in
        lands arming armed same due (at ∙ ap Some same) refl (ap (λ (b : Bool). is_idle t.run && not b) (eq-eqb arming.cpu cpu same) ∙ and_false (is_idle t.run)) (on_its_way (is_some (off t)) (ap is_some at))
    placed (inr apart) yes' =
        let at : off t ≡ Some arming.cpu = off_listed t arming armed yes' in
        let idle : is_idle t.run ≡ true = free_both t.run cpu arming.cpu here yes' apart in
        leaves arming armed apart due at idle refl (ap (λ (b : Bool). b && not (arming.cpu == cpu)) idle ∙ differs (arming.cpu == cpu) refl) (on_its_way (is_some (off t)) (ap is_some at)) where
          differs : (b : Bool) → (arming.cpu == cpu) ≡ b → not b ≡ true
          differs true is = absurd (apart (eqb-true arming.cpu cpu is))
          differs false is = refl

    go : (b : Bool) → is_free_at t.run arming.cpu ≡ b → Ends c i cpu op t r
    go true yes' = placed (decide arming.cpu cpu) yes'
    go false no' =
        let none : off t ≡ None = deferred no' in
        stays (not_on_its_way (is_some (off t)) (ap is_some none)) (ap (λ (b : Bool). b && not (arming.cpu == cpu)) (busy_if_not_free t.run arming.cpu no')) (inr none) (none_listed t none)

  pub ends : (op : CallOp) (t : State) (r : Reply) → Did spec st (Call op) r t → Ends c i cpu op t r
  ends op t r (deed.keeps o x u armed run plain none) =
      stays (plain_parcel op (is_some (off t)) r plain) (plain_away cpu r t plain) (inl (plain_armed r plain)) (λ y is. listed y (sym (off_same st t armed run) ∙ is))
  ends op t r (deed.clears o x u armed run plain gone) =
      stays (plain_parcel op (is_some (off t)) r plain) (plain_away cpu r t plain) (inl (plain_armed r plain)) (none_listed t (off_none t armed))
  ends op t r (deed.waits took took' n u armed run served) = stays (waits_parcel op (is_some (off t)) n took' (off st)) refl (inl refl) (none_listed t (off_none t armed))
  ends op t r (deed.arms p code arming u armed due run) = armed_end op code arming t (off st) armed due (sym (run.free cpu) ∙ free)
