-- A call is entered: what the wheel and the plain world have after the Remove and the call.
use Rattle.std.proofs.Common.{◌≡◌, ℕ, ◌<◌, Bool, true, false, cond, not, List, ◌++◌, length, set, refl, sym, ap, ◌∙◌, subst, arith, Option, Some, None, eqb-true}
use Rattle.std.specs.Prelude.{◌==◌, ◌&&◌, is_some}
use Rattle.co_object.specs.declared.alone.Alone.{Alone}
use Rattle.co_object.specs.declared.State.{State}
use Rattle.co_object.specs.declared.Op.TheVariants.{Call}
use Rattle.co_object.specs.declared.CallOp.{CallOp}
use Rattle.co_object.specs.declared.Reply.{Reply}
use Rattle.co_object.specs.declared.QOp.TheVariants.{Remove}
use Rattle.co_object.specs.declared.QReply.TheVariants.{Off}
use Rattle.co_object.specs.declared.Entry.{Entry}
use Rattle.co_object.specs.declared.AnyEntry.TheVariants as entry
use Rattle.co_object.specs.declared.Place.TheVariants as place
use Rattle.co_object.specs.Callout.{call}
use Rattle.co_object.specs.Entries.{is_armed}
use Rattle.co_object.specs.Group.{off_of}
use Rattle.co_object.specs.Queue.{Queue as TimerQueue}
use Rattle.co_object.specs.Stand.{off}
use Rattle.co_program.specs.declared.role.Role.{Role}
use Rattle.co_program.specs.declared.action.Asked.TheVariants.{Callout}
use Rattle.co_program.specs.declared.script.Script.{Script}
use Rattle.co_program.specs.Actors.{actor_count, role_of, cpu_of}
use Rattle.co_program.specs.Stages.{Stage}
use Rattle.co_program.specs.Stages as stages
use Rattle.co_program.specs.Cursor.{Cursor}
use Rattle.co_program.specs.Action.{Asks, spec_at}
use Rattle.co_program.specs.Advance.{call_made, advance_callout, advance}
use Rattle.co_wheel.specs.Call.{is_away}
use Rattle.co_wheel.specs.Callouts.{Callouts, callout, with_callout, is_listed_of}
use Rattle.co_wheel.specs.Cpu.{Cpu as WheelOf}
use Rattle.co_wheel.specs.Parcel.{Parcel}
use Rattle.co_wheel.specs.Turns.{Shows, Takes, Turn, removal, insertion}
use Rattle.co_world.specs.World.{World}
use Rattle.co_world.specs.Blocked.{is_moving, moves}
use Rattle.co_world.specs.Step.{are_direct, removed_from, asked_whole, callout_answers, queue_answers, goes_on_in_section, is_within_service, step}
use Rattle.co_core.specs.Stored.{Stored, IsCalled, wheel_at}
use Rattle.co_world.specs.Placed.{IsPlaced, server_slot}
use Rattle.co_core.specs.Acting.{IsDue}
use Rattle.co_core.specs.Stands.{IsBag, ShowsStored, alone_in, at_home}
use Rattle.std.proofs.lemmas.List.{set-get_or, get_or-set_same}
use Rattle.co_world.proofs.kept.Invariant.{states_of, queues_of, cursors_of}
use Rattle.co_world.proofs.sections.Movers.{IsOnly, moving_none, parcels_of}
use Rattle.co_world.proofs.sections.Slots.{StageKept}
use Rattle.co_core.proofs.stored.Places.{IsRight, placed_after}
use Rattle.co_world.proofs.kept.Stages.{is_acting}
use Rattle.co_world.proofs.sections.Slots.{call_kept, call_acting, call_within}
use Rattle.co_core.proofs.stored.Sections.{after_of, stored_after}
use Rattle.co_core.proofs.tables.Values.{read, long}
use Rattle.co_world.proofs.sections.Ways.{Goes, goes_on_from, goes_callout, step_free, stands_of}
use Rattle.co_core.proofs.calls.Wheels.{IsAnswer, answer_by}
use Rattle.co_core.proofs.stored.Slots.{all_slots}
use Rattle.co_core.proofs.stored.Worlds.{goes_as}
use Rattle.co_core.proofs.calls.Removes.{IsRemoved, removed_by}
use Rattle.co_core.proofs.calls.Calling.{Calling, on, wheel, there, view, did, gone_here}

-- a call's entry in the stages in which calls are made
acting_called : (s : Script) (e : Cursor) (i : ℕ) (l : Bool) (op : CallOp) (r : Reply) (stage : Stage) → is_acting stage ≡ true → advance_callout s e i l (Call op) r stage ≡ call_made e i l (Call op) r
acting_called s e i l op r stages.Ready h = refl
acting_called s e i l op r (stages.Waiting n took) h = refl
acting_called s e i l op r (stages.Firing v acts) h = refl
acting_called s e i l op r (stages.Drained v acts) h = refl
acting_called s e i l op r (stages.Popping act) h = cc
acting_called s e i l op r (stages.Picking v) h = cc
acting_called s e i l op r (stages.Locking v) h = cc
acting_called s e i l op r (stages.Beginning v) h = cc
acting_called s e i l op r (stages.Unlocking v acts) h = cc
acting_called s e i l op r (stages.Releasing v) h = cc
acting_called s e i l op r (stages.Ending v) h = cc
acting_called s e i l op r (stages.Freeing v drain next) h = cc

module _ {s : Script} {x : Stored} {w : World} {a act i cpu : ℕ} {op : CallOp} (calling : Calling s x w a act i cpu op) where
  abbrev st : State
  st = states_of w i

  abbrev t' : State
  t' = (call st op).0

  abbrev r' : Reply
  r' = (call st op).1

  abbrev l' : Bool
  l' = is_some (off t')

  abbrev c0 : Cursor
  c0 = record (cursors_of w a) { removed = None }

  abbrev d2 : Cursor
  d2 = call_made c0 i l' (Call op) r'

  abbrev q0 : TimerQueue
  q0 = queues_of w cpu

  abbrev before : WheelOf
  before = wheel_at x cpu

  module _ {gone listed : Bool} {at : Option ℕ} {out : Option Parcel} {after : WheelOf} (wheeled : IsCalled before i op r' gone listed at out after) where
    abbrev x' : Stored
    x' = record x { wheels = set x.wheels cpu after; bags = set x.bags a out }

    abbrev inserted : List Turn
    inserted = insertion i (callout after.callouts i) at

    takes : Takes s.buckets (are_direct s) (removal i (off_of r') ++ inserted) q0 (Shows after)
    takes =
        subst (λ (m : ℕ). Takes m (are_direct s) (removal i (off_of r') ++ inserted) q0 (Shows after)) (wheel calling).buckets
        (subst (λ (direct : List Bool). Takes before.timers.buckets direct (removal i (off_of r') ++ inserted) q0 (Shows after)) (wheel calling).direct (wheeled.queue.outcome q0 (wheel calling).shows))

    pub removed : (q1 : TimerQueue) × (c1 : Cursor) × IsRemoved s w a act i cpu calling.stand (off_of r') inserted (Shows after) q1 c1
    removed = removed_by s w a act i cpu calling.stand (off_of r') inserted (Shows after) (gone_here calling) takes

    abbrev w1 : World
    w1 = removed_from s w a act i (off_of r')

    -- where something is taken out, the world after the Remove
    pub removed_world : (y : ℕ) → off_of r' ≡ Some y → (q : TimerQueue) × (removed_from s w a act i (off_of r') ≡ queue_answers s w a act cpu (Remove i) (Some (q, Off)))
    removed_world y is = (removed.0, removed.2.world y is)

    abbrev w2 : World
    w2 = callout_answers s w1 a act i (Call op) (Some (t', r'))

    whole : asked_whole s w a act (Callout i (Call op)) ≡ w2
    whole = ap (λ (z : State). callout_answers s w1 a act i (Call op) (Some (call z op))) removed.2.goes.states.here

    abbrev made : Entry
    made = record { actor = a; act = act; op = Call op; reply = r' }

    place2 : advance s (cursors_of w1 a) l' (place.Timer i) (entry.Timer made) ≡ d2
    place2 =
        ap (λ (d : Cursor). advance_callout s (record d { removed = None }) i l' (Call op) r' d.stage) removed.2.goes.cursors.here
        ∙ ap (λ (e : Cursor). advance_callout s e i l' (Call op) r' e.stage) removed.2.same
        ∙ acting_called s c0 i l' op r' c0.stage (call_acting s (role_of s a) c0 c0.stage act i op (view calling).1)

    pub goes2 : Goes w w2 i cpu a t' cpu removed.0 d2
    goes2 =
        goes_on_from w w1 w2 i cpu a st t' cpu cpu removed.0 removed.0 removed.1 d2 removed.2.goes
        (goes_as w1 w2 i cpu a t' (stands_of w1 i) cpu (queues_of w1 cpu) removed.0 (advance s (cursors_of w1 a) l' (place.Timer i) (entry.Timer made)) d2 removed.2.goes.stands.here removed.2.goes.queues.here place2
        (goes_callout s w1 i cpu a act (Call op) (t', r')))

    pub kept : StageKept c0.stage d2.stage
    kept = call_kept s (role_of s a) c0 c0 act i op l' (spec_at s i) st t' r' (view calling).1 (did calling)

    pub within : is_within_service d2.stage ≡ false
    within = call_within s (role_of s a) c0 c0 act i op l' (spec_at s i) st t' r' (view calling).1 (did calling)

    pub answer : IsAnswer before i op (alone_in s w i) (there calling) (is_away cpu r' t') after.callouts r' out
    answer = answer_by before i op (alone_in s w i) (there calling) (is_away cpu r' t') after.callouts r' out (ap (λ (y : ℕ). is_away y r' t') (wheel calling).number) wheeled.callouts

    -- the wheel and the world after the section
    pub finish : (w' : World) (q' : TimerQueue) (pl : Cursor) → Goes w w' i cpu a t' cpu q' pl → ((ro : Role) → server_slot ro q' ≡ server_slot ro q0) → StageKept c0.stage pl.stage →
        after.callouts ≡ with_callout before.callouts i (after_of s i t' pl.parcel) → Shows after q' → IsOnly i pl.parcel → IsBag s w' pl.parcel out → IsRight s i cpu t' pl.parcel → ShowsStored s x' w' × IsPlaced s w'
    finish w' q' pl goes quiet kept' callouts shows only bag right = (
      subst (λ (l : List ℕ). ShowsStored s (record x { wheels = set x.wheels cpu after; stands = l; bags = set x.bags a out }) w') stands_same
          (stored_after s x w w' i cpu a t' q' pl after out calling.stored calling.may (on calling) goes nothing only others elsewhere (ap (λ (c : Callouts). c.cpu) callouts) (ap (λ (c : Callouts). c.here) callouts) wheeled.queue.buckets wheeled.queue.direct shows bag),
      placed_after s w w' i cpu a t' q' pl calling.placed calling.may (on calling) calling.known goes nothing only others right
          (slots (role_of s a) (cpu_of s (role_of s a)) ∙ calling.placed.serves a calling.may ∙ sym kept'.slot) (λ j is. calling.placed.known a j calling.may (kept'.callout j is)) (λ b other below. slots (role_of s b) (cpu_of s (role_of s b))),
    ) where
      stands_same : set x.stands i cpu ≡ x.stands
      stands_same = ap (set x.stands i) (sym (read x.stands (length s.timers) (stands_of w) i 0 calling.stored.each_stand calling.known ∙ calling.stand)) ∙ set-get_or x.stands i 0

      nothing : IsOnly i (parcels_of w a)
      nothing p is = let clash : None ≡ Some p = sym (view calling).0 ∙ is in cc

      others : (b : ℕ) → (b ≡ a → ⊥) → b < actor_count s → moves i (parcels_of w b) ≡ false
      others b other below = moving_none s w i b below calling.still

      elsewhere : (y : ℕ) → (y ≡ cpu → ⊥) → at_home s w y i ≡ None
      elsewhere y other = go (stands_of w i == y) refl where
        go : (b : Bool) → (stands_of w i == y) ≡ b → cond (b && not (is_moving s w i)) (Some (alone_in s w i)) None ≡ None
        go true is = absurd (other (sym (eqb-true (stands_of w i) y is) ∙ calling.stand))
        go false is = refl

      slots : (ro : Role) (y : ℕ) → server_slot ro (queues_of w' y) ≡ server_slot ro (queues_of w y)
      slots = all_slots w w' i cpu a t' cpu q' pl goes quiet

    -- the callout at the wheel after the call
    pub left_at : (h : Option Alone) → after.callouts ≡ with_callout before.callouts i h → callout after.callouts i ≡ h
    left_at h is =
        let inside : i < length before.callouts.here = (let l = long before.callouts.here (length s.timers) (at_home s w cpu) (wheel calling).here in omega arith) in
        ap (λ (c : Callouts). callout c i) is ∙ get_or-set_same before.callouts.here i h None inside

    cpu_after : (h : Option Alone) → after.callouts ≡ with_callout before.callouts i h → after.callouts.cpu ≡ cpu
    cpu_after h is = ap (λ (c : Callouts). c.cpu) is ∙ (wheel calling).number

    -- whether the arming is listed there
    pub lists_at : (h : Option Alone) → after.callouts ≡ with_callout before.callouts i h → is_some at ≡ (is_armed r' && is_listed_of cpu h)
    lists_at h is =
        wheeled.inserted ∙ ap (λ (o : Option Alone). is_armed r' && is_listed_of after.callouts.cpu o) (left_at h is) ∙ ap (λ (y : ℕ). is_armed r' && is_listed_of y h) (cpu_after h is)

    pub stepped_so : IsDue s w a (Asks act (Callout i (Call op))) → step s w a ≡ goes_on_in_section s w2 a
    stepped_so is = step_free s w a (Asks act (Callout i (Call op))) is.due is.free ∙ ap (λ (z : World). goes_on_in_section s z a) whole
