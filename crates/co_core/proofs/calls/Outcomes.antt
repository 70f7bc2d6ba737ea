-- A call that ends with its entry: the arming stays where it is, or leaves for another CPU.
use Rattle.std.proofs.Common.{◌≡◌, ℕ, ◌<◌, ◌⊎◌, inl, inr, Bool, true, false, cond, not, set, refl, sym, ap, ◌∙◌, subst, Option, Some, None, eqb-true}
use Rattle.std.specs.Prelude.{◌==◌, ◌&&◌, ◌||◌, is_some}
use Rattle.co_object.specs.declared.Arming.{Arming}
use Rattle.co_object.specs.declared.State.{State}
use Rattle.co_object.specs.declared.Op.TheVariants.{Call}
use Rattle.co_object.specs.declared.CallOp.{CallOp}
use Rattle.co_object.specs.declared.Reply.{Reply}
use Rattle.co_object.specs.declared.QOp.TheVariants.{Insert}
use Rattle.co_object.specs.declared.QReply.TheVariants.{At}
use Rattle.co_object.specs.Callout.{call}
use Rattle.co_object.specs.Entries.{is_armed}
use Rattle.co_object.specs.Group.{off_of}
use Rattle.co_object.specs.Queue.{Queue as TimerQueue}
use Rattle.co_object.specs.Stand.{is_idle, off}
use Rattle.co_program.specs.declared.cursor.PendingInsert.{PendingInsert}
use Rattle.co_program.specs.declared.action.Asked.TheVariants.{Callout}
use Rattle.co_program.specs.declared.script.Script.{Script}
use Rattle.co_program.specs.Cursor.{Cursor}
use Rattle.co_program.specs.Action.{Asks, spec_at}
use Rattle.co_program.specs.Advance.{call_made, due_of_call}
use Rattle.co_wheel.specs.Call.{is_away}
use Rattle.co_wheel.specs.Callouts.{callout, with_callout, is_listed_of, is_at}
use Rattle.co_wheel.specs.Cpu.{Cpu as WheelOf}
use Rattle.co_wheel.specs.Parcel.{Parcel, parcel, parcel_to}
use Rattle.co_wheel.specs.Turns.{Shows, Takes, insertion}
use Rattle.co_world.specs.World.{World}
use Rattle.co_world.specs.Blocked.{moves}
use Rattle.co_world.specs.Step.{are_direct, removed_from, callout_answers, queue_answers, is_in_section, lands_here, step}
use Rattle.co_core.specs.Stored.{Stored, IsCalled, wheel_at}
use Rattle.co_world.specs.Placed.{IsPlaced}
use Rattle.co_core.specs.Acting.{IsDue}
use Rattle.co_core.specs.Stands.{IsBag, IsPacked, ShowsStored}
use Rattle.co_core.proofs.calls.Ends.{runs_on_free, parcel_for}
use Rattle.co_world.proofs.kept.Invariant.{states_of, cursors_of}
use Rattle.co_world.proofs.sections.Movers.{moves_it}
use Rattle.co_core.proofs.stored.Places.{IsRight}
use Rattle.co_core.proofs.stored.Sections.{with_state, after_of}
use Rattle.co_world.proofs.sections.Ways.{goes_no_further}
use Rattle.co_core.proofs.tables.Options.{some_is}
use Rattle.co_core.proofs.calls.Calling.{Calling, did, free, fit}
use Rattle.co_core.proofs.calls.Entered.{removed, goes2, kept, within, answer, finish, lists_at, stepped_so}

module _ {s : Script} {x : Stored} {w : World} {a act i cpu : ℕ} {op : CallOp} (calling : Calling s x w a act i cpu op) where
  abbrev st : State
  st = states_of w i

  abbrev t' : State
  t' = (call st op).0

  abbrev r' : Reply
  r' = (call st op).1

  abbrev l' : Bool
  l' = is_some (off t')

  abbrev c0 : Cursor
  c0 = record (cursors_of w a) { removed = None }

  abbrev d2 : Cursor
  d2 = call_made c0 i l' (Call op) r'

  abbrev before : WheelOf
  before = wheel_at x cpu

  module _ {gone listed : Bool} {at : Option ℕ} {out : Option Parcel} {after : WheelOf} (wheeled : IsCalled before i op r' gone listed at out after) where
    abbrev x' : Stored
    x' = record x { wheels = set x.wheels cpu after; bags = set x.bags a out }

    abbrev w1 : World
    w1 = removed_from s w a act i (off_of r')

    abbrev w2 : World
    w2 = callout_answers s w1 a act i (Call op) (Some (t', r'))

    -- the section ends with the entry, or one Insert follows
    pub data Tail : Type 0 where
      ends_there : at ≡ None → step s w a ≡ w2 → Tail
      one_more : (time : ℕ) (q2 : TimerQueue) (p : PendingInsert) → at ≡ Some time → (cursors_of w2 a).parcel ≡ Some p → p.cpu < s.cpus →
          step s w a ≡ queue_answers s w2 a p.act p.cpu (Insert p.i p.n p.due) (Some (q2, At time)) → Tail

    pub record IsDone : Type 0 where
      pub stored_so : ShowsStored s x' (step s w a)
      pub placed_so : IsPlaced s (step s w a)
      pub tail : Tail
      pub listing : is_armed r' ≡ true → listed ≡ l'

    pub right_with : (parcel : Option PendingInsert) → ((y : ℕ) → moves i parcel ≡ false → off t' ≡ Some y → cpu ≡ y) → ((p : PendingInsert) → parcel ≡ Some p → is_idle t'.run ≡ true) → ((p : PendingInsert) → parcel ≡ Some p → p.cpu < s.cpus) → IsRight s i cpu t' parcel
    right_with parcel listing idle bound = record {
      runs = runs_on_free (spec_at s i) st t' op r' cpu (did calling) (free calling);
      listed = listing;
      idle = idle;
      bound = bound;
      home = (fit calling).home;
      target = (fit calling).target;
    }

    none_of : {X : Type 0} (o : Option X) → is_some o ≡ false → o ≡ None
    none_of None h = refl
    none_of (Some y) h = cc

    quiet_end : (parcel : Option PendingInsert) → d2.parcel ≡ parcel → lands_here w2 parcel ≡ false → IsDue s w a (Asks act (Callout i (Call op))) → step s w a ≡ w2
    quiet_end parcel is no_landing due' =
        stepped_so calling wheeled due' ∙ goes_no_further s w2 a (subst (λ (d : Cursor). is_in_section w2 d ≡ false) (sym (goes2 calling wheeled).cursors.here) (ap (λ (b : Bool). b || lands_here w2 d2.parcel) (within calling wheeled) ∙ ap (lands_here w2) is ∙ no_landing))

    -- the arming stays where it is, or waits for the end of a service
    pub stays_done : d2.parcel ≡ None → is_away cpu r' t' ≡ false → (is_armed r' ≡ false) ⊎ (off t' ≡ None) → ((y : ℕ) → off t' ≡ Some y → cpu ≡ y) → IsDue s w a (Asks act (Callout i (Call op))) → IsDone
    stays_done none away unlisted listing due' =
        record {
          stored_so = subst (ShowsStored s x') (sym is) both.0;
          placed_so = subst (IsPlaced s) (sym is) both.1;
          tail = ends_there no_time is;
          listing = λ armed. (let e : listed ≡ false = wheeled.is_listed ∙ ap (λ (o : Option ℕ). is_some o || is_some out) no_time ∙ ap is_some no_out in e ∙ sym (no_listing unlisted armed));
        } where
          here : after.callouts ≡ with_callout before.callouts i (Some (with_state s i t'))
          here = (answer calling wheeled).callouts_are ∙ ap (λ (b : Bool). with_callout before.callouts i (cond b None (Some (with_state s i t')))) away

          no_out : out ≡ None
          no_out = (answer calling wheeled).out_is ∙ ap (λ (b : Bool). cond b (parcel i (with_state s i t')) None) away

          no_listing : (is_armed r' ≡ false) ⊎ (off t' ≡ None) → is_armed r' ≡ true → l' ≡ false
          no_listing (inl not) armed = let clash : true ≡ false = sym armed ∙ not in cc
          no_listing (inr none) armed = ap is_some none

          not_there : (is_armed r' ≡ false) ⊎ (off t' ≡ None) → (is_armed r' && is_listed_of cpu (Some (with_state s i t'))) ≡ false
          not_there (inl not) = ap (λ (b : Bool). b && is_listed_of cpu (Some (with_state s i t'))) not
          not_there (inr none) = ap (λ (o : Option ℕ). is_armed r' && is_at o cpu) none ∙ and_false (is_armed r') where
            and_false : (b : Bool) → (b && false) ≡ false
            and_false true = refl
            and_false false = refl

          no_time : at ≡ None
          no_time = none_of at (lists_at calling wheeled (Some (with_state s i t')) here ∙ not_there unlisted)

          is : step s w a ≡ w2
          is = quiet_end None none refl due'

          shows : Shows after (removed calling wheeled).0
          shows = subst (λ (o : Option ℕ). Takes s.buckets (are_direct s) (insertion i (callout after.callouts i) o) (removed calling wheeled).0 (Shows after)) no_time (removed calling wheeled).2.rest

          both : ShowsStored s x' w2 × IsPlaced s w2
          both = finish calling wheeled w2 (removed calling wheeled).0 d2 (goes2 calling wheeled) (removed calling wheeled).2.slots (kept calling wheeled) (here ∙ ap (λ (o : Option PendingInsert). with_callout before.callouts i (after_of s i t' o)) (sym none)) shows
              (λ p e. (let clash : None ≡ Some p = sym none ∙ e in cc)) (subst (λ (o : Option PendingInsert). IsBag s w2 o out) (sym none) no_out)
              (right_with d2.parcel (λ y m e. listing y e) (λ p e. (let clash : None ≡ Some p = sym none ∙ e in cc)) (λ p e. (let clash : None ≡ Some p = sym none ∙ e in cc)))

    unequal : (m n : ℕ) → (m ≡ n → ⊥) → (m == n) ≡ false
    unequal m n apart = go (m == n) refl where
      go : (b : Bool) → (m == n) ≡ b → b ≡ false
      go true is = absurd (apart (eqb-true m n is))
      go false is = refl

    -- the callout leaves for the CPU at which it is armed
    pub leaves_done : (arming : Arming) → t'.armed ≡ Some arming → (arming.cpu ≡ cpu → ⊥) → arming.due ≡ due_of_call (Call op) → off t' ≡ Some arming.cpu → is_idle t'.run ≡ true → is_away cpu r' t' ≡ true → d2.parcel ≡ Some (parcel_for c0 i op arming) →
        IsDue s w a (Asks act (Callout i (Call op))) → IsDone
    leaves_done arming armed apart due_is at_cpu idle away carried due' =
        record {
          stored_so = subst (ShowsStored s x') (sym is) both.0;
          placed_so = subst (IsPlaced s) (sym is) both.1;
          tail = ends_there no_time is;
          listing = λ yes'. (let e : listed ≡ true = wheeled.is_listed ∙ ap (λ (o : Option ℕ). is_some o || is_some out) no_time ∙ ap is_some out_some in e ∙ sym (ap is_some at_cpu));
        } where
          p : PendingInsert
          p = parcel_for c0 i op arming

          here : after.callouts ≡ with_callout before.callouts i None
          here = (answer calling wheeled).callouts_are ∙ ap (λ (b : Bool). with_callout before.callouts i (cond b None (Some (with_state s i t')))) away

          out_some : out ≡ Some (record { i = i; callout = with_state s i t'; arming = arming })
          out_some = (answer calling wheeled).out_is ∙ ap (λ (b : Bool). cond b (parcel i (with_state s i t')) None) away ∙ ap (parcel_to i (with_state s i t')) armed

          no_time : at ≡ None
          no_time = none_of at (lists_at calling wheeled None here ∙ and_false (is_armed r')) where
            and_false : (b : Bool) → (b && false) ≡ false
            and_false true = refl
            and_false false = refl

          no_landing : lands_here w2 (Some p) ≡ false
          no_landing = ap (λ (y : ℕ). y == arming.cpu) (goes2 calling wheeled).stands.here ∙ unequal cpu arming.cpu (λ e. apart (sym e))

          is : step s w a ≡ w2
          is = quiet_end (Some p) carried no_landing due'

          shows : Shows after (removed calling wheeled).0
          shows = subst (λ (o : Option ℕ). Takes s.buckets (are_direct s) (insertion i (callout after.callouts i) o) (removed calling wheeled).0 (Shows after)) no_time (removed calling wheeled).2.rest

          travels : State → Option Parcel
          travels z = Some (record { i = i; callout = with_state s i z; arming = arming })

          packed : IsPacked s w2 p out
          packed = record {
            arming = arming;
            packed = out_some ∙ ap travels (sym (goes2 calling wheeled).states.here);
            armed = ap (λ (z : State). z.armed) (goes2 calling wheeled).states.here ∙ armed;
            number = refl;
            due = due_is;
            cpu = refl;
          }

          of_parcel : (q : PendingInsert) → d2.parcel ≡ Some q → p ≡ q
          of_parcel q e = some_is p q (sym carried ∙ e)

          both : ShowsStored s x' w2 × IsPlaced s w2
          both = finish calling wheeled w2 (removed calling wheeled).0 d2 (goes2 calling wheeled) (removed calling wheeled).2.slots (kept calling wheeled)
              (here ∙ ap (λ (b : Bool). with_callout before.callouts i (cond b None (Some (with_state s i t')))) (sym (moves_it i d2.parcel p carried refl))) shows
              (λ q e. ap (λ (y : PendingInsert). y.i) (sym (of_parcel q e))) (subst (λ (o : Option PendingInsert). IsBag s w2 o out) (sym carried) packed)
              (right_with d2.parcel (λ y m e. (let clash : true ≡ false = sym (moves_it i d2.parcel p carried refl) ∙ m in cc)) (λ q e. idle) (λ q e. subst (λ (y : PendingInsert). y.cpu < s.cpus) (of_parcel q e) ((fit calling).target arming armed)))
