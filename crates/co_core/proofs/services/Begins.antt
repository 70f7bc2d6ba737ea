-- The lock of a service is held: its function runs, or it was cancelled meanwhile. What the wheel, the ledger and the plain world have after it.
use Rattle.std.proofs.Common.{◌≡◌, ℕ, ◌<◌, Bool, true, false, cond, List, [], ◌∷◌, length, set, refl, sym, ap, ◌∙◌, subst, Option, Some, None}
use Rattle.std.specs.Prelude.{◌==◌, ◌&&◌, ◌||◌, is_some}
use Rattle.co_object.specs.declared.alone.Alone.{Alone}
use Rattle.co_object.specs.declared.Spec.{Spec}
use Rattle.co_object.specs.declared.State.{State}
use Rattle.co_object.specs.declared.Reply.{Reply}
use Rattle.co_object.specs.declared.Reply.TheVariants.{Go, Skip}
use Rattle.co_object.specs.declared.Run.{Run}
use Rattle.co_object.specs.declared.Run.TheVariants as run
use Rattle.co_object.specs.declared.Op.TheVariants.{Run as Serve}
use Rattle.co_object.specs.declared.RunOp.TheVariants.{Begin}
use Rattle.co_object.specs.declared.Entry.{Entry}
use Rattle.co_object.specs.declared.AnyEntry.TheVariants as entry
use Rattle.co_object.specs.declared.Place.TheVariants as place
use Rattle.co_object.specs.Callout.{step as callout_step}
use Rattle.co_object.specs.Entries.{is_armed}
use Rattle.co_object.specs.Queue.{Queue as TimerQueue}
use Rattle.co_object.specs.Serve.{begin, begin_run, go as go_run}
use Rattle.co_object.specs.Stand.{is_free_at, off}
use Rattle.co_lock.specs.declared.held.Held.{Held}
use Rattle.co_program.specs.declared.act.Act.{Act}
use Rattle.co_program.specs.declared.role.Role.{Role}
use Rattle.co_program.specs.declared.role.Role.TheVariants.{Cpu}
use Rattle.co_program.specs.declared.cursor.PendingInsert.{PendingInsert}
use Rattle.co_program.specs.declared.cursor.InService.{InService}
use Rattle.co_program.specs.declared.action.Asked.TheVariants.{Callout}
use Rattle.co_program.specs.declared.script.Script.{Script}
use Rattle.co_program.specs.Actors.{role_of, cpu_of, acts_at}
use Rattle.co_program.specs.Stages.{Beginning, Unlocking}
use Rattle.co_program.specs.Cursor.{Cursor}
use Rattle.co_program.specs.Action.{Asks, spec_at, firing}
use Rattle.co_program.specs.Advance.{advance, advance_callout, service_begun}
use Rattle.co_program.specs.Scripts.{IsScript}
use Rattle.co_queue.specs.StandsFor.{StandsFor as IsTimersOf}
use Rattle.co_queue.specs.Timers.{Timers}
use Rattle.co_wheel.specs.Callouts.{Callouts, callout, with_callout}
use Rattle.co_wheel.specs.Cpu.{Cpu as WheelOf}
use Rattle.co_wheel.specs.Service.{begin_here, begin_served, begin_it, begin_outcome, moved_on}
use Rattle.co_wheel.specs.Turns.{Shows}
use Rattle.co_world.specs.World.{World}
use Rattle.co_world.specs.Step.{goes_on_in_section, callout_answers, is_in_section, is_within_service, lands_here, step}
use Rattle.co_core.specs.Stored.{Stored, IsBegun, wheel_at, with_wheel}
use Rattle.co_core.specs.Written.{Written}
use Rattle.co_world.specs.Placed.{IsPlaced, server_slot, in_slot, stage_callout, due_in_service}
use Rattle.co_core.specs.Acting.{IsDue}
use Rattle.co_core.specs.Stands.{StandsFor, IsAtWheel, IsBag, ShowsStored, ShowsWritten, alone_in}
use Rattle.co_core.proofs.tables.Options.{some_is}
use Rattle.co_core.proofs.stored.Worlds.{goes_as}
use Rattle.co_core.proofs.stored.Slots.{all_slots}
use Rattle.co_world.proofs.kept.Operations.{Did, did}
use Rattle.co_world.proofs.kept.Operations as deed
use Rattle.co_world.proofs.kept.ByOwnSteps.{view_of}
use Rattle.co_world.proofs.kept.Invariant.{FitsRole, IsTaken, RunFits, states_of, queues_of, cursors_of}
use Rattle.co_world.proofs.sections.Movers.{IsOnly, parcels_of}
use Rattle.co_core.proofs.stored.Places.{IsRight, placed_after, reached_after}
use Rattle.co_world.proofs.measure.Possible.{begin_possible}
use Rattle.co_world.proofs.kept.ByServices.{off_kept}
use Rattle.co_world.proofs.kept.BySteps.{IsSteady}
use Rattle.co_world.proofs.sections.Slots.{firing_of}
use Rattle.co_world.proofs.kept.OneMover.{steady_of}
use Rattle.co_core.proofs.stored.Sections.{after_of, stored_after, wheel_alone}
use Rattle.co_core.proofs.services.Underway.{IsStage, IsBusyAt, begin_view, beginning_cpu, taken_busy, cpu_below, cpu_there, known, stand, still, there, others, elsewhere}
use Rattle.co_world.proofs.sections.Ways.{Goes, goes_callout, step_free, goes_no_further, stands_of}

-- ---- what a begin leaves

taken_free : (r : Run) (n k x : ℕ) → IsTaken r n k → is_free_at r x ≡ is_free_at (run.Running n k) x
taken_free run.Idle n k x h = absurd h
taken_free (run.Picked arming) n k x h = ap (λ (y : ℕ). y == x) h.1
taken_free (run.Cancelled m at) n k x h = ap (λ (y : ℕ). y == x) h.1
taken_free (run.Running m at) n k x h = absurd h

record IsStarted (st t : State) (reply : Reply) : Type 0 where
  armed : t.armed ≡ st.armed
  free : (x : ℕ) → is_free_at st.run x ≡ is_free_at t.run x
  unarmed : is_armed reply ≡ false

started : (spec : Spec) (st t : State) (n cpu : ℕ) (r : Reply) → Did spec st (Serve (Begin n cpu)) r t → IsStarted st t r
started spec st t n cpu r (deed.begins m x func arg u armed taken ran) = record { armed = armed; free = λ y. taken_free st.run n cpu y taken ∙ ap (λ (z : Run). is_free_at z y) (sym ran); unarmed = refl }
started spec st t n cpu r (deed.skips m x ran) = record { armed = refl; free = λ y. refl; unarmed = refl }

begin_home : (st : State) (r : Run) (n cpu : ℕ) (o : State × Reply) → begin_run st r n cpu ≡ Some o → o.0.home ≡ st.home
begin_home st r n cpu o e = go r e where
  same : (p : State × Reply) (b : Bool) → p.0.home ≡ st.home → cond b (Some p) None ≡ Some o → o.0.home ≡ st.home
  same p true at e = ap (λ (x : State × Reply). x.0.home) (sym (some_is p o e)) ∙ at
  same p false at e = cc

  go : (r : Run) → begin_run st r n cpu ≡ Some o → o.0.home ≡ st.home
  go run.Idle e = cc
  go (run.Picked a) e = same (go_run st a) (a.n == n && a.cpu == cpu) refl e
  go (run.Cancelled m at) e = same (st, Skip) (m == n && at == cpu) refl e
  go (run.Running m at) e = cc

-- the place after it
record IsPlaceAfter (v : InService) (c d : Cursor) : Type 0 where
  slot : in_slot d.stage ≡ Some (due_in_service v)
  about : stage_callout d.stage ≡ Some v.i
  parcel : d.parcel ≡ c.parcel
  within : is_within_service d.stage ≡ false

firing_within : (v : InService) (hold : Option Held) (acts : List Act) → is_within_service (firing v hold acts) ≡ false
firing_within v hold (act ∷ acts) = refl
firing_within v None [] = refl
firing_within v (Some held) [] = refl

begun_place : (s : Script) (c : Cursor) (v : InService) (r : Reply) → IsPlaceAfter v c (service_begun s c v r)
begun_place s c v (Go func arg) = go (spec_at s v.i).returns_unlocked where
  acts : List Act
  acts = acts_at s.funcs func

  go : (b : Bool) → IsPlaceAfter v c (record c { stage = cond b (Unlocking v acts) (firing v c.hold acts) })
  go true = record { slot = refl; about = refl; parcel = refl; within = refl }
  go false = let f = firing_of v c.hold acts in record { slot = f.0; about = f.1; parcel = refl; within = firing_within v c.hold acts }
begun_place s c v r = record { slot = refl; about = refl; parcel = refl; within = refl }

-- ---- the wheel's begin

record IsAnswer (before : Callouts) (alone : Alone) (i n : ℕ) (reply : Reply) (after : Callouts) : Type 0 where
  outcome : State × Reply
  begins : begin alone.state n before.cpu ≡ Some outcome
  callouts_are : after ≡ with_callout before i (Some (moved_on alone outcome.0))
  reply_is : reply ≡ outcome.1

answer_of : (before : Callouts) (alone : Alone) (i n : ℕ) (reply : Reply) (after : Callouts) → begin_outcome before (record { i = i; n = n }) alone (begin alone.state n before.cpu) ≡ Some (after, reply) → IsAnswer before alone i n reply after
answer_of before alone i n reply after is = go (begin alone.state n before.cpu) refl is where
  go : (o : Option (State × Reply)) → begin alone.state n before.cpu ≡ o → begin_outcome before (record { i = i; n = n }) alone o ≡ Some (after, reply) → IsAnswer before alone i n reply after
  go None begins e = cc
  go (Some o) begins e =
      let both = some_is (with_callout before i (Some (moved_on alone o.0)), o.1) (after, reply) e in
      record { outcome = o; begins = begins; callouts_are = ap (λ (p : Callouts × Reply). p.0) (sym both); reply_is = ap (λ (p : Callouts × Reply). p.1) (sym both) }

-- ---- the section

module _ (s : Script) (ok : IsScript s) (ledger : Written) (depot : Stored) (w : World) (stands : StandsFor s ledger depot w) (a act i n cpu : ℕ) (due : IsDue s w a (Asks act (Callout i (Serve (Begin n cpu))))) where
  abbrev c : Cursor
  c = cursors_of w a

  abbrev role' : Role
  role' = role_of s a

  abbrev before : WheelOf
  before = wheel_at depot cpu

  abbrev q0 : TimerQueue
  q0 = queues_of w cpu

  abbrev st : State
  st = states_of w i

  steady : IsSteady s w
  steady = steady_of s ok w stands.reached

  view : IsStage s role' c act i n cpu Beginning
  view = begin_view s role' c c.parcel act i n cpu (view_of s a c (Asks act (Callout i (Serve (Begin n cpu)))) due.due) refl

  abbrev v : InService
  v = record { act = act; i = i; n = n; at = view.at }

  at_stage : c.stage ≡ Beginning v
  at_stage = view.stage

  fits : FitsRole s role' c.left c.hold (Beginning v)
  fits = subst (FitsRole s role' c.left c.hold) at_stage (steady.good.holds.roles a)

  role_is : role' ≡ Cpu (cpu_of s role')
  role_is = beginning_cpu s ok role' c.hold v fits.hold fits.lane

  taken : IsTaken st.run n cpu
  taken = subst (IsTaken st.run n) (sym view.is_cpu) (subst (RunFits (states_of w) (cpu_of s role')) at_stage (steady.good.holds.serving.serves a))

  busy : IsBusyAt st.run cpu
  busy = taken_busy st.run n cpu taken

  about : stage_callout c.stage ≡ Some i
  about = ap stage_callout at_stage

  pub begin_below : cpu < s.cpus
  begin_below = cpu_below s ok ledger depot w stands a i cpu due.may view.is_cpu about busy

  pub begin_there : cpu < length depot.wheels
  begin_there = cpu_there s ok ledger depot w stands a i cpu due.may view.is_cpu about busy

  pub begin_known : i < length s.timers
  begin_known = known s ok ledger depot w stands a i cpu due.may view.is_cpu about busy

  here : callout before.callouts i ≡ Some (alone_in s w i)
  here = there s ok ledger depot w stands a i cpu due.may view.is_cpu about busy

  at_stand : stands_of w i ≡ cpu
  at_stand = stand s ok ledger depot w stands a i cpu due.may view.is_cpu about busy

  wheel : IsAtWheel s w cpu before
  wheel = stands.stored.each_wheel cpu begin_below

  serving : before.callouts.serving ≡ Some (due_in_service v)
  serving =
      sym wheel.shows.serving ∙ ap (λ (r : Role). server_slot r q0) (sym role_is) ∙ ap (λ (y : ℕ). server_slot role' (queues_of w y)) view.is_cpu
      ∙ stands.placed.serves a due.may ∙ ap in_slot at_stage

  served : begin_here before.callouts ≡ begin_outcome before.callouts (due_in_service v) (alone_in s w i) (begin st n before.callouts.cpu)
  served = ap (begin_served before.callouts) serving ∙ ap (begin_it before.callouts (due_in_service v)) here

  pub begins_here : is_some (begin_here before.callouts) ≡ true
  begins_here =
      ap is_some served ∙ ap (λ (y : ℕ). is_some (begin_outcome before.callouts (due_in_service v) (alone_in s w i) (begin st n y))) wheel.number
      ∙ go (begin st n cpu) (begin_possible st st.run n cpu taken) where
        go : (o : Option (State × Reply)) → is_some o ≡ true → is_some (begin_outcome before.callouts (due_in_service v) (alone_in s w i) o) ≡ true
        go None h = cc
        go (Some o) h = refl

  module _ (reply : Reply) (after : WheelOf) (begun_so : IsBegun before reply after) where
    answer : IsAnswer before.callouts (alone_in s w i) i n reply after.callouts
    answer = answer_of before.callouts (alone_in s w i) i n reply after.callouts (sym served ∙ sym begun_so.callouts)

    abbrev t : State
    t = answer.outcome.0

    begins : begin st n cpu ≡ Some answer.outcome
    begins = ap (begin st n) (sym wheel.number) ∙ answer.begins

    facts : IsStarted st t answer.outcome.1
    facts = started (spec_at s i) st t n cpu answer.outcome.1 (did (spec_at s i) st (Serve (Begin n cpu)) answer.outcome begins)

    pub begin_unarmed : is_armed reply ≡ false
    begin_unarmed = ap is_armed answer.reply_is ∙ facts.unarmed

    abbrev made : Entry
    made = record { actor = a; act = act; op = Serve (Begin n cpu); reply = reply }

    abbrev w' : World
    w' = callout_answers s w a act i (Serve (Begin n cpu)) (Some (t, reply))

    abbrev d : Cursor
    d = service_begun s (record c { removed = None }) v reply

    place_is : advance s c (is_some (off t)) (place.Timer i) (entry.Timer made) ≡ d
    place_is = ap (advance_callout s (record c { removed = None }) i (is_some (off t)) (Serve (Begin n cpu)) reply) at_stage

    goes : Goes w w' i cpu a t cpu q0 d
    goes = goes_as w w' i cpu a t (stands_of w i) cpu q0 q0 (advance s c (is_some (off t)) (place.Timer i) (entry.Timer made)) d at_stand refl place_is (goes_callout s w i cpu a act (Serve (Begin n cpu)) (t, reply))

    after_place : IsPlaceAfter v (record c { removed = None }) d
    after_place = begun_place s (record c { removed = None }) v reply

    no_parcel : d.parcel ≡ None
    no_parcel = after_place.parcel ∙ view.empty

    quiet : is_in_section w' (cursors_of w' a) ≡ false
    quiet = ap (is_in_section w') goes.cursors.here ∙ ap (λ (b : Bool). b || lands_here w' d.parcel) after_place.within ∙ ap (lands_here w') no_parcel

    outcome : callout_step (spec_at s i) st (Serve (Begin n cpu)) ≡ Some (t, reply)
    outcome = begins ∙ ap (λ (r : Reply). Some (t, r)) (sym answer.reply_is)

    is : step s w a ≡ w'
    is =
        step_free s w a (Asks act (Callout i (Serve (Begin n cpu)))) due.due due.free ∙ ap (λ (o : Option (State × Reply)). goes_on_in_section s (callout_answers s w a act i (Serve (Begin n cpu)) o) a) outcome
        ∙ goes_no_further s w' a quiet

    callouts_here : after.callouts.here ≡ set before.callouts.here i (after_of s i t d.parcel)
    callouts_here = ap (λ (x : Callouts). x.here) answer.callouts_are ∙ ap (λ (o : Option PendingInsert). set before.callouts.here i (after_of s i t o)) (sym no_parcel)

    shows : Shows after q0
    shows = record {
      timers = subst (λ (x : Timers). IsTimersOf x q0) (sym begun_so.queue) wheel.shows.timers;
      serving = wheel.shows.serving ∙ ap (λ (x : Callouts). x.serving) (sym answer.callouts_are);
      directing = wheel.shows.directing ∙ ap (λ (x : Callouts). x.directing) (sym answer.callouts_are);
    }

    nothing : IsOnly i (parcels_of w a)
    nothing p e = let clash : None ≡ Some p = sym view.empty ∙ e in cc

    nothing' : IsOnly i d.parcel
    nothing' p e = let clash : None ≡ Some p = sym no_parcel ∙ e in cc

    right : IsRight s i cpu t d.parcel
    right = record {
      runs = sym (facts.free cpu) ∙ subst (λ (y : ℕ). is_free_at st.run y ≡ true) at_stand (stands.placed.runs i);
      listed = λ y m e. sym at_stand ∙ stands.placed.listed i y (still s ok ledger depot w stands a i cpu due.may view.is_cpu about busy) (sym (off_kept st t facts.armed facts.free) ∙ e);
      idle = λ p e. absurd (let clash : None ≡ Some p = sym no_parcel ∙ e in cc);
      bound = λ p e. absurd (let clash : None ≡ Some p = sym no_parcel ∙ e in cc);
      home = subst (λ (y : ℕ). y < s.cpus) (sym (begin_home st st.run n cpu answer.outcome begins)) (stands.placed.cpus_known i begin_known).home;
      target = λ arming e. (stands.placed.cpus_known i begin_known).target arming (sym facts.armed ∙ e);
    }

    slots : (ro : Role) (y : ℕ) → server_slot ro (queues_of w' y) ≡ server_slot ro (queues_of w y)
    slots = all_slots w w' i cpu a t cpu q0 d goes (λ ro. refl)

    pub stands_begun : (ledger' : Written) → ((state : State) → ShowsWritten s ledger' (callout_answers s w a act i (Serve (Begin n cpu)) (Some (state, reply)))) → StandsFor s ledger' (with_wheel depot cpu after) (step s w a)
    stands_begun ledger' written = record {
      written = subst (ShowsWritten s ledger') (sym is) (written t);
      stored = subst (λ (x : Stored). ShowsStored s x (step s w a)) (wheel_alone s depot w stands.stored i cpu a begin_known due.may at_stand view.empty after)
          (subst (ShowsStored s (record depot { wheels = set depot.wheels cpu after; stands = set depot.stands i cpu; bags = set depot.bags a None })) (sym is)
          (stored_after s depot w w' i cpu a t q0 d after None stands.stored due.may begin_below goes nothing nothing' (others s ok ledger depot w stands a i cpu due.may view.is_cpu about busy)
          (elsewhere s ok ledger depot w stands a i cpu due.may view.is_cpu about busy) (ap (λ (x : Callouts). x.cpu) answer.callouts_are) callouts_here
          (ap (λ (x : Timers). x.buckets) begun_so.queue) (ap (λ (x : Timers). x.direct) begun_so.queue) shows
          (subst (λ (o : Option PendingInsert). IsBag s w' o None) (sym no_parcel) refl)));
      placed = subst (IsPlaced s) (sym is)
          (placed_after s w w' i cpu a t q0 d stands.placed due.may begin_below begin_known goes nothing nothing' (others s ok ledger depot w stands a i cpu due.may view.is_cpu about busy) right
          (slots role' (cpu_of s role') ∙ stands.placed.serves a due.may ∙ ap in_slot at_stage ∙ sym after_place.slot)
          (λ j e. subst (λ (y : ℕ). y < length s.timers) (some_is i j (sym after_place.about ∙ e)) begin_known) (λ b other below. slots (role_of s b) (cpu_of s (role_of s b))));
      reached = reached_after s w a due.may stands.reached;
    }
