-- The section of a call: what the wheel, the ledger and the plain world have after it.
use Rattle.std.proofs.Common.{◌≡◌, ℕ, ◌<◌, Bool, true, false, cond, List, [], ◌∷◌, set, refl, sym, ap, ◌∙◌, subst, Option, Some, None, eq-eqb}
use Rattle.std.specs.Prelude.{◌==◌, ◌&&◌, ◌||◌, is_some}
use Rattle.co_object.specs.declared.Arming.{Arming}
use Rattle.co_object.specs.declared.alone.Alone.{Alone}
use Rattle.co_object.specs.declared.State.{State}
use Rattle.co_object.specs.declared.Op.TheVariants.{Call}
use Rattle.co_object.specs.declared.CallOp.{CallOp}
use Rattle.co_object.specs.declared.Reply.{Reply}
use Rattle.co_object.specs.declared.QOp.TheVariants.{Insert}
use Rattle.co_object.specs.declared.QReply.TheVariants.{At}
use Rattle.co_object.specs.Callout.{call}
use Rattle.co_object.specs.Entries.{is_armed}
use Rattle.co_object.specs.Group.{off_of}
use Rattle.co_object.specs.Journal as journal
use Rattle.co_object.specs.Queue.{Queue as TimerQueue}
use Rattle.co_object.specs.Stand.{off}
use Rattle.co_program.specs.declared.cursor.PendingInsert.{PendingInsert}
use Rattle.co_program.specs.declared.action.Asked.TheVariants.{Callout, Queue}
use Rattle.co_program.specs.declared.script.Script.{Script}
use Rattle.co_program.specs.Actors.{role_of}
use Rattle.co_program.specs.Cursor.{Cursor}
use Rattle.co_program.specs.Action.{Asks, action_for, action_with}
use Rattle.co_program.specs.Advance.{call_made, due_of_call}
use Rattle.co_wheel.specs.Call.{is_away}
use Rattle.co_wheel.specs.Callouts.{callout, with_callout, is_listed_of, is_at}
use Rattle.co_wheel.specs.Cpu.{Cpu as WheelOf}
use Rattle.co_wheel.specs.Parcel.{Parcel, parcel}
use Rattle.co_wheel.specs.Turns.{Shows, Takes, Turn, insertion, insertion_of}
use Rattle.co_world.specs.World.{World}
use Rattle.co_world.specs.Step.{are_direct, removed_from, callout_answers, queue_answers, is_in_section, is_within_service, lands_here, step}
use Rattle.co_core.specs.Stored.{Stored, IsCalled, wheel_at}
use Rattle.co_world.specs.Placed.{IsPlaced}
use Rattle.co_core.specs.Acting.{IsDue}
use Rattle.co_core.specs.Stands.{ShowsStored}
use Rattle.co_core.proofs.calls.Ends.{Ends, stays, lands, leaves, parcel_for}
use Rattle.co_world.proofs.kept.Invariant.{states_of, queues_of, cursors_of}
use Rattle.co_core.proofs.stored.Sections.{with_state}
use Rattle.co_world.proofs.sections.Ways.{Goes, goes_on_from, goes_insert, goes_further}
use Rattle.co_core.proofs.tables.Options.{some_is}
use Rattle.co_core.proofs.stored.Slots.{quiet_slots, answered_so}
use Rattle.co_core.proofs.stored.Worlds.{goes_as}
use Rattle.co_core.proofs.calls.Calling.{Calling, on, end}
use Rattle.co_core.proofs.calls.Entered.{removed, goes2, kept, answer, finish, left_at, lists_at, stepped_so}
use Rattle.co_core.proofs.calls.Outcomes.{IsDone, right_with, stays_done, leaves_done, one_more}

module _ {s : Script} {x : Stored} {w : World} {a act i cpu : ℕ} {op : CallOp} (calling : Calling s x w a act i cpu op) where
  abbrev st : State
  st = states_of w i

  abbrev t' : State
  t' = (call st op).0

  abbrev r' : Reply
  r' = (call st op).1

  abbrev l' : Bool
  l' = is_some (off t')

  abbrev c0 : Cursor
  c0 = record (cursors_of w a) { removed = None }

  abbrev d2 : Cursor
  d2 = call_made c0 i l' (Call op) r'

  abbrev before : WheelOf
  before = wheel_at x cpu

  module _ {gone listed : Bool} {at : Option ℕ} {out : Option Parcel} {after : WheelOf} (wheeled : IsCalled before i op r' gone listed at out after) where
    abbrev x' : Stored
    x' = record x { wheels = set x.wheels cpu after; bags = set x.bags a out }

    abbrev inserted : List Turn
    inserted = insertion i (callout after.callouts i) at

    abbrev w1 : World
    w1 = removed_from s w a act i (off_of r')

    abbrev w2 : World
    w2 = callout_answers s w1 a act i (Call op) (Some (t', r'))

    -- the arming enters the queue where the callout stands
    module _ (arming : Arming) (armed : t'.armed ≡ Some arming) (same_cpu : arming.cpu ≡ cpu) (due_is : arming.due ≡ due_of_call (Call op)) (at_cpu : off t' ≡ Some cpu) (accepted : is_armed r' ≡ true) (away : is_away cpu r' t' ≡ false)
        (carried : d2.parcel ≡ Some (parcel_for c0 i op arming)) (due' : IsDue s w a (Asks act (Callout i (Call op)))) where
      abbrev p : PendingInsert
      p = parcel_for c0 i op arming

      here : after.callouts ≡ with_callout before.callouts i (Some (with_state s i t'))
      here = (answer calling wheeled).callouts_are ∙ ap (λ (b : Bool). with_callout before.callouts i (cond b None (Some (with_state s i t')))) away

      no_out : out ≡ None
      no_out = (answer calling wheeled).out_is ∙ ap (λ (b : Bool). cond b (parcel i (with_state s i t')) None) away

      lists : (is_armed r' && is_listed_of cpu (Some (with_state s i t'))) ≡ true
      lists = ap (λ (b : Bool). b && is_listed_of cpu (Some (with_state s i t'))) accepted ∙ ap (λ (o : Option ℕ). is_at o cpu) at_cpu ∙ eq-eqb cpu cpu refl

      landing : lands_here w2 (Some p) ≡ true
      landing = ap (λ (y : ℕ). y == arming.cpu) (goes2 calling wheeled).stands.here ∙ eq-eqb cpu arming.cpu (sym same_cpu)

      or_true : (b : Bool) → (b || true) ≡ true
      or_true true = refl
      or_true false = refl

      in_section : is_in_section w2 (cursors_of w2 a) ≡ true
      in_section = ap (is_in_section w2) (goes2 calling wheeled).cursors.here ∙ ap (λ (o : Option PendingInsert). is_within_service d2.stage || lands_here w2 o) carried ∙ ap (λ (b : Bool). is_within_service d2.stage || b) landing ∙ or_true (is_within_service d2.stage)

      next : action_for s a (cursors_of w2 a) ≡ Asks p.act (Queue p.cpu (Insert p.i p.n p.due))
      next = ap (action_for s a) (goes2 calling wheeled).cursors.here ∙ ap (action_with s (role_of s a) d2) carried

      module _ (time : ℕ) (timed : at ≡ Some time) where
        turned : inserted ≡ (Insert i arming.n arming.due, At time) ∷ []
        turned =
            ap (insertion i (callout after.callouts i)) timed ∙ ap (λ (o : Option Alone). insertion i o (Some time)) (left_at calling wheeled (Some (with_state s i t')) here)
            ∙ ap (λ (o : Option Arming). insertion_of i o time) armed

        rest : Takes s.buckets (are_direct s) ((Insert i arming.n arming.due, At time) ∷ []) (removed calling wheeled).0 (Shows after)
        rest = subst (λ (turns : List Turn). Takes s.buckets (are_direct s) turns (removed calling wheeled).0 (Shows after)) turned (removed calling wheeled).2.rest

        abbrev q2 : TimerQueue
        q2 = journal.queue_of (journal.step s.buckets (are_direct s) (removed calling wheeled).0 (Insert i arming.n arming.due)) (removed calling wheeled).0

        answers : journal.step s.buckets (are_direct s) (removed calling wheeled).0 (Insert i arming.n arming.due) ≡ Some (q2, At time)
        answers = answered_so (journal.step s.buckets (are_direct s) (removed calling wheeled).0 (Insert i arming.n arming.due)) (removed calling wheeled).0 (At time) rest.0

        abbrev w3 : World
        w3 = queue_answers s w2 a p.act p.cpu (Insert p.i p.n p.due) (Some (q2, At time))

        asked : journal.step s.buckets (are_direct s) (queues_of w2 p.cpu) (Insert p.i p.n p.due) ≡ Some (q2, At time)
        asked =
            ap (λ (y : ℕ). journal.step s.buckets (are_direct s) (queues_of w2 y) (Insert p.i p.n p.due)) same_cpu
            ∙ ap (λ (q : TimerQueue). journal.step s.buckets (are_direct s) q (Insert p.i p.n p.due)) (goes2 calling wheeled).queues.here
            ∙ ap (λ (y : ℕ). journal.step s.buckets (are_direct s) (removed calling wheeled).0 (Insert i arming.n y)) (sym due_is) ∙ answers

        is : step s w a ≡ w3
        is =
            stepped_so calling wheeled due' ∙ goes_further s w2 a p.act (Queue p.cpu (Insert p.i p.n p.due)) in_section next
            ∙ ap (queue_answers s w2 a p.act p.cpu (Insert p.i p.n p.due)) asked

        abbrev d3 : Cursor
        d3 = record d2 { parcel = None }

        goes3 : Goes w w3 i cpu a t' cpu q2 d3
        goes3 =
            subst (λ (z : State). Goes w w3 i cpu a z cpu q2 d3) (goes2 calling wheeled).states.here
            (goes_on_from w w2 w3 i cpu a t' (states_of w2 i) cpu cpu (removed calling wheeled).0 q2 d2 d3 (goes2 calling wheeled)
            (goes_as w2 w3 i cpu a (states_of w2 i) cpu cpu q2 q2 (record (cursors_of w2 a) { parcel = None }) d3 refl refl (ap (λ (d : Cursor). emptied d) (goes2 calling wheeled).cursors.here)
            (subst (λ (k : ℕ). Goes w2 w3 i k a (states_of w2 i) k q2 (record (cursors_of w2 a) { parcel = None })) same_cpu (goes_insert s w2 i p.cpu a p.act p.n p.due (q2, At time))))) where
              emptied : Cursor → Cursor
              emptied d = record d { parcel = None }

        both : ShowsStored s x' w3 × IsPlaced s w3
        both = finish calling wheeled w3 q2 d3 goes3 (λ ro. quiet_slots s.buckets (are_direct s) (removed calling wheeled).0 (Insert i arming.n arming.due) (q2, At time) answers (λ e. cc) (λ e. cc) (λ e. cc) (λ e. cc) ro ∙ (removed calling wheeled).2.slots ro)
            (record { slot = (kept calling wheeled).slot; callout = (kept calling wheeled).callout }) here rest.1 (λ q e. cc) no_out
            (right_with calling wheeled None (λ y m e. some_is cpu y (sym at_cpu ∙ e)) (λ q e. cc) (λ q e. cc))

        done : (IsDone calling wheeled)
        done = record {
          stored_so = subst (ShowsStored s x') (sym is) both.0;
          placed_so = subst (IsPlaced s) (sym is) both.1;
          tail = one_more time q2 p timed (ap (λ (d : Cursor). d.parcel) (goes2 calling wheeled).cursors.here ∙ carried) (subst (λ (y : ℕ). y < s.cpus) (sym same_cpu) (on calling)) is;
          listing = λ yes'. (let e : listed ≡ true = wheeled.is_listed ∙ ap (λ (o : Option ℕ). is_some o || is_some out) timed in e ∙ sym (ap is_some at_cpu));
        }

      lands_by : (o : Option ℕ) → is_some at ≡ true → at ≡ o → IsDone calling wheeled
      lands_by None some none = let clash : false ≡ true = sym (ap is_some none) ∙ some in cc
      lands_by (Some time) some timed = done time timed

      lands_done : (IsDone calling wheeled)
      lands_done = lands_by at (lists_at calling wheeled (Some (with_state s i t')) here ∙ lists) refl

    pub call_done : IsDue s w a (Asks act (Callout i (Call op))) → IsDone calling wheeled
    call_done due' = go (end calling) where
      go : Ends c0 i cpu op t' r' → IsDone calling wheeled
      go (stays none away unlisted listing) = stays_done calling wheeled none away unlisted listing due'
      go (lands arming armed same_cpu due_is at_cpu accepted away carried) = lands_done arming armed same_cpu due_is at_cpu accepted away carried due'
      go (leaves arming armed apart due_is at_cpu idle accepted away carried) = leaves_done calling wheeled arming armed apart due_is at_cpu idle away carried due'
