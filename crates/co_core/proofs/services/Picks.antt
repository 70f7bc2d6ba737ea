-- The first callout that has come due goes into service, or none has: what the wheel, the ledger and the plain world have after it.
use Rattle.std.proofs.Common.{◌≡◌, ℕ, ◌<◌, ◌≤◌, ◌⊎◌, inl, inr, Bool, true, false, cond, not, List, [], ◌∷◌, length, set, refl, sym, ap, ◌∙◌, subst, arith, Option, Some, None, eqb-true, eq-eqb}
use Rattle.std.specs.Prelude.{◌==◌, ◌&&◌, is_some}
use Rattle.std.proofs.lemmas.Bool.{cases_lt}
use Rattle.std.proofs.lemmas.List.{get_or_past}
use Rattle.co_object.specs.declared.Arming.{Arming}
use Rattle.co_object.specs.declared.alone.Alone.{Alone}
use Rattle.co_object.specs.declared.Spec.{Spec}
use Rattle.co_object.specs.declared.State.{State}
use Rattle.co_object.specs.declared.Reply.{Reply}
use Rattle.co_object.specs.declared.Reply.TheVariants.{Go, Hold}
use Rattle.co_object.specs.declared.Run.TheVariants as run
use Rattle.co_object.specs.declared.Op.TheVariants.{Run as Serve}
use Rattle.co_object.specs.declared.RunOp.TheVariants.{Pick}
use Rattle.co_object.specs.declared.QOp.{QOp}
use Rattle.co_object.specs.declared.QReply.{QReply}
use Rattle.co_object.specs.declared.QReply.TheVariants.{Got, Empty}
use Rattle.co_object.specs.declared.Entry.{Entry}
use Rattle.co_object.specs.declared.AnyEntry.TheVariants as entry
use Rattle.co_object.specs.declared.Place.TheVariants as place
use Rattle.co_object.specs.Callout.{step as callout_step}
use Rattle.co_object.specs.Entries.{is_armed}
use Rattle.co_object.specs.Journal as journal
use Rattle.co_object.specs.Queue.{Queue as TimerQueue, Due}
use Rattle.co_object.specs.Serve.{pick, pick_armed, taken, is_due, has_lock}
use Rattle.co_object.specs.Stand.{is_idle, is_free_at, off}
use Rattle.co_object.proofs.QueueChanges.{QChange}
use Rattle.co_program.specs.declared.role.Role.{Role}
use Rattle.co_program.specs.declared.role.Role.TheVariants as role
use Rattle.co_program.specs.declared.cursor.PendingInsert.{PendingInsert}
use Rattle.co_program.specs.declared.cursor.InService.{InService}
use Rattle.co_program.specs.declared.action.Asked.TheVariants.{Callout, Queue}
use Rattle.co_program.specs.declared.script.Script.{Script}
use Rattle.co_program.specs.Actors.{actor_count, role_of, cpu_of, acts_at}
use Rattle.co_program.specs.Stages.{Ready, Picking}
use Rattle.co_program.specs.Cursor.{Cursor}
use Rattle.co_program.specs.Action.{Asks, action_for, action_with, spec_at, pop_of}
use Rattle.co_program.specs.Advance.{advance, advance_queue, popped, service_picked, tail_of}
use Rattle.co_program.specs.Scripts.{IsScript}
use Rattle.co_wheel.specs.declared.outs.NextOut.TheVariants.{Empty as Nothing, Took}
use Rattle.co_wheel.specs.Callouts.{Callouts, callout, with_callout, with_service, in_service}
use Rattle.co_wheel.specs.Cpu.{Cpu as WheelOf}
use Rattle.co_wheel.specs.Service.{pick_at, pick_it, pick_outcome, moved_on}
use Rattle.co_wheel.specs.Turns.{Shows, Takes, pop_of as lane_pop}
use Rattle.co_world.specs.World.{World}
use Rattle.co_world.specs.Blocked.{is_moving, moves}
use Rattle.co_world.specs.Step.{are_direct, world_answers, goes_on_in_section, queue_answers, callout_answers, is_in_section, step}
use Rattle.co_core.specs.Stored.{Stored, IsNext, wheel_at, with_wheel}
use Rattle.co_core.specs.Written.{Written}
use Rattle.co_world.specs.Placed.{IsPlaced, server_slot, in_slot, stage_callout, due_in_service}
use Rattle.co_core.specs.Acting.{IsDue}
use Rattle.co_core.specs.Stands.{StandsFor, IsAtWheel, IsBag, ShowsStored, ShowsWritten, alone_in, at_home}
use Rattle.co_core.proofs.tables.Options.{some_is}
use Rattle.co_core.proofs.stored.Slots.{answered_so}
use Rattle.co_core.proofs.stored.Worlds.{goes_as}
use Rattle.co_world.proofs.kept.ByCalls.{off_none}
use Rattle.co_world.proofs.kept.Operations.{Did, did}
use Rattle.co_world.proofs.kept.Operations as deed
use Rattle.co_world.proofs.kept.ByOwnSteps.{view_of}
use Rattle.co_world.proofs.kept.Invariant.{states_of, queues_of, cursors_of}
use Rattle.co_world.proofs.basics.Changes.{decide}
use Rattle.co_world.proofs.sections.Movers.{IsOnly, moving_none, parcels_of}
use Rattle.co_world.proofs.names.Calls.{role_cpu}
use Rattle.co_world.proofs.kept.Passages.{changed}
use Rattle.co_core.proofs.stored.Places.{IsRight, placed_after, reached_after}
use Rattle.co_core.proofs.services.Queues.{stands_turned}
use Rattle.co_world.proofs.basics.Roles.{same_role}
use Rattle.co_world.proofs.kept.Servers.{IsServer}
use Rattle.co_world.proofs.sections.Servers.{IsPopping, IsPop, pop_view, pop_slot, pop_none, other_slot}
use Rattle.co_world.proofs.sections.Slots.{firing_of}
use Rattle.co_world.proofs.kept.OneMover.{steady_of}
use Rattle.co_core.proofs.stored.Sections.{after_of, stored_after, wheel_alone}
use Rattle.co_core.proofs.tables.Values.{read, long}
use Rattle.co_world.proofs.sections.Ways.{Goes, goes_on_from, goes_callout, goes_queue, moves_none, step_free, goes_further, stands_of}

-- ---- the lanes

lane_is_pop : (direct : Bool) → IsPop (lane_pop direct)
lane_is_pop true = inr refl
lane_is_pop false = inl refl

lane_moves_none : (direct : Bool) → moves_none (lane_pop direct) ≡ true
lane_moves_none true = refl
lane_moves_none false = refl

-- the lane of a server is its slot
pub lane_slot : (direct : Bool) (r : Role) (wheel : WheelOf) (q : TimerQueue) → IsServer r → lane_pop direct ≡ pop_of r → Shows wheel q → in_service direct wheel.callouts ≡ server_slot r q
lane_slot direct (role.Client k) wheel q server is shows = absurd server
lane_slot true (role.Cpu y) wheel q server is shows = cc
lane_slot false (role.Cpu y) wheel q server is shows = sym shows.serving
lane_slot true (role.Interrupt y) wheel q server is shows = sym shows.directing
lane_slot false (role.Interrupt y) wheel q server is shows = cc

-- ---- what a pick leaves

pub picked_facts : (spec : Spec) (st t : State) (n cpu at : ℕ) (r : Reply) → Did spec st (Serve (Pick n cpu at)) r t → (t.armed ≡ None) × (is_free_at t.run cpu ≡ true) × (is_armed r ≡ false)
picked_facts spec st t n cpu at r (deed.holds m x u arming v idle number same lock armed ran) = (armed, ap (λ (y : _). is_free_at y cpu) ran ∙ eq-eqb arming.cpu cpu same, refl)
picked_facts spec st t n cpu at r (deed.goes m x u func arg v idle lock armed ran) = (armed, ap (λ (y : _). is_free_at y cpu) ran ∙ eq-eqb cpu cpu refl, refl)

pick_home : (spec : Spec) (st : State) (n cpu at : ℕ) (o : State × Reply) → pick spec st n cpu at ≡ Some o → o.0.home ≡ st.home
pick_home spec st n cpu at o is = go st.armed is where
  taken_as : Bool → Arming → State × Reply
  taken_as b a = cond b (record st { armed = None; run = run.Picked a }, Hold) (record st { armed = None; run = run.Running a.n a.cpu }, Go a.func a.arg)

  taken_home : (b : Bool) (a : Arming) → (taken_as b a).0.home ≡ st.home
  taken_home true a = refl
  taken_home false a = refl

  by : (b : Bool) (a : Arming) → cond b (Some (taken spec st a)) None ≡ Some o → o.0.home ≡ st.home
  by true a e = ap (λ (p : State × Reply). p.0.home) (sym (some_is (taken spec st a) o e)) ∙ taken_home (has_lock spec.lock) a
  by false a e = cc

  go : (x : Option Arming) → pick_armed spec st x n cpu at ≡ Some o → o.0.home ≡ st.home
  go None e = cc
  go (Some a) e = by (is_due a n cpu at && is_idle st.run) a e

-- the place after a pick
picked_place : (s : Script) (e : Cursor) (v : InService) (r : Reply) → (in_slot (service_picked s e v r).stage ≡ Some (due_in_service v)) × (stage_callout (service_picked s e v r).stage ≡ Some v.i) × ((service_picked s e v r).parcel ≡ e.parcel)
picked_place s e v (Go func arg) = let f = firing_of v e.hold (acts_at s.funcs func) in (f.0, f.1, refl)
picked_place s e v r = (refl, refl, refl)

-- ---- the wheel's pick

record IsTaken (direct : Bool) (before : Callouts) (i n at : ℕ) (reply : Reply) (after : Callouts) : Type 0 where
  alone : Alone
  there : callout before i ≡ Some alone
  outcome : State × Reply
  picks : pick alone.spec alone.state n before.cpu at ≡ Some outcome
  callouts_are : after ≡ with_service direct (with_callout before i (Some (moved_on alone outcome.0))) (Some (record { i = i; n = n }))
  reply_is : reply ≡ outcome.1

taken_by : (direct : Bool) (before : Callouts) (i n at : ℕ) (reply : Reply) (after : Callouts) → pick_at direct before (record { i = i; n = n }) at ≡ Some (after, reply) → IsTaken direct before i n at reply after
taken_by direct before i n at reply after is = go (callout before i) refl is where
  d : Due
  d = record { i = i; n = n }

  by : (a : Alone) → callout before i ≡ Some a → (o : Option (State × Reply)) → pick a.spec a.state n before.cpu at ≡ o → pick_outcome direct before d a o ≡ Some (after, reply) → IsTaken direct before i n at reply after
  by a at_a None picks e = cc
  by a at_a (Some o) picks e =
      let both = some_is (with_service direct (with_callout before i (Some (moved_on a o.0))) (Some d), o.1) (after, reply) e in
      record { alone = a; there = at_a; outcome = o; picks = picks; callouts_are = ap (λ (p : Callouts × Reply). p.0) (sym both); reply_is = ap (λ (p : Callouts × Reply). p.1) (sym both) }

  go : (x : Option Alone) → callout before i ≡ x → pick_it direct before d at x ≡ Some (after, reply) → IsTaken direct before i n at reply after
  go None at_none e = cc
  go (Some a) at_a e = by a at_a (pick a.spec a.state n before.cpu at) refl e

pub service_here : (direct : Bool) (c : Callouts) (d : Option Due) → (with_service direct c d).here ≡ c.here
service_here true c d = refl
service_here false c d = refl

pub service_cpu : (direct : Bool) (c : Callouts) (d : Option Due) → (with_service direct c d).cpu ≡ c.cpu
service_cpu true c d = refl
service_cpu false c d = refl

-- ---- the section

module _ (s : Script) (ok : IsScript s) (ledger : Written) (depot : Stored) (w : World) (stands : StandsFor s ledger depot w) (a act cpu : ℕ) (direct : Bool) (due : IsDue s w a (Asks act (Queue cpu (lane_pop direct)))) where
  abbrev c : Cursor
  c = cursors_of w a

  abbrev role' : Role
  role' = role_of s a

  abbrev op : QOp
  op = lane_pop direct

  abbrev before : WheelOf
  before = wheel_at depot cpu

  abbrev q0 : TimerQueue
  q0 = queues_of w cpu

  popping : IsPopping s role' c act cpu op
  popping = pop_view s role' c c.parcel act cpu op (view_of s a c (Asks act (Queue cpu op)) due.due) (lane_is_pop direct) refl ((steady_of s ok w stands.reached).good.holds.roles a)

  pub pop_below : cpu < s.cpus
  pop_below = subst (λ (y : ℕ). y < s.cpus) (sym popping.is_cpu) (role_cpu s ok a due.may)

  pub pop_there : cpu < length depot.wheels
  pop_there = let l = stands.stored.wheels_long in let b = pop_below in omega (arith, l, b)

  wheel : IsAtWheel s w cpu before
  wheel = stands.stored.each_wheel cpu pop_below

  own_slot : server_slot role' q0 ≡ None
  own_slot = ap (λ (y : ℕ). server_slot role' (queues_of w y)) popping.is_cpu ∙ stands.placed.serves a due.may ∙ popping.slot

  pub lane_free : in_service direct before.callouts ≡ None
  lane_free = lane_slot direct role' before q0 popping.server popping.is_pop wheel.shows ∙ own_slot

  advances : (reply : QReply) → advance_queue s c cpu op reply ≡ popped c reply c.stage
  advances reply = ap (λ (o : QOp). advance_queue s c cpu o reply) popping.is_pop ∙ go role' popping.server where
    go : (r : Role) → IsServer r → advance_queue s c cpu (pop_of r) reply ≡ popped c reply c.stage
    go (role.Client k) h = absurd h
    go (role.Cpu y) h = refl
    go (role.Interrupt y) h = refl

  -- ---- nothing has come due

  pub stands_none : (after : WheelOf) → IsNext direct before Nothing after → (ledger' : Written) → ((queue : TimerQueue) → ShowsWritten s ledger' (queue_answers s w a act cpu op (Some (queue, Empty)))) → StandsFor s ledger' (with_wheel depot cpu after) (step s w a)
  stands_none after next ledger' written =
      let d : Cursor = record c { act = popping.number; left = tail_of c.left; stage = Ready } in
      stands_turned s ok ledger depot w stands a act cpu op Empty due pop_below (lane_moves_none direct) popping.empty after next.callouts next.queue d (advances Empty ∙ popping.ends_act) popping.empty refl ledger' written
      (λ q is ro. ap (server_slot ro) (pop_none s.buckets (are_direct s) role' q0 op Empty q popping.server popping.is_pop (changed s.buckets (are_direct s) q0 op (q, Empty) is) refl)) popping.slot (λ j e. cc)

  -- ---- a callout has

  module _ (i n at : ℕ) (reply : Reply) (after : WheelOf) (next : IsNext direct before (Took i n at reply) after) where
    answer : IsTaken direct before.callouts i n at reply after.callouts
    answer = taken_by direct before.callouts i n at reply after.callouts next.callouts

    pub pick_known : i < length s.timers
    pick_known = go (cases_lt i (length s.timers)) where
      go : (i < length s.timers) ⊎ (length s.timers ≤ i) → i < length s.timers
      go (inl h) = h
      go (inr h) =
          let l = long before.callouts.here (length s.timers) (at_home s w cpu) wheel.here in
          let past : callout before.callouts i ≡ None = get_or_past before.callouts.here i None (omega (arith, l, h)) in
          let clash : None ≡ Some answer.alone = sym past ∙ answer.there in cc

    home : at_home s w cpu i ≡ Some answer.alone
    home = sym (read before.callouts.here (length s.timers) (at_home s w cpu) i None wheel.here pick_known) ∙ answer.there

    at_cpu : ((stands_of w i == cpu) ≡ true) × (is_moving s w i ≡ false) × (alone_in s w i ≡ answer.alone)
    at_cpu = go (stands_of w i == cpu) (is_moving s w i) refl refl home where
      go : (x y : Bool) → (stands_of w i == cpu) ≡ x → is_moving s w i ≡ y → cond (x && not y) (Some (alone_in s w i)) None ≡ Some answer.alone → ((stands_of w i == cpu) ≡ true) × (is_moving s w i ≡ false) × (alone_in s w i ≡ answer.alone)
      go true true e f h = cc
      go true false e f h = (e, f, some_is (alone_in s w i) answer.alone h)
      go false y e f h = cc

    stand : stands_of w i ≡ cpu
    stand = eqb-true (stands_of w i) cpu at_cpu.0

    abbrev st : State
    st = states_of w i

    abbrev t : State
    t = answer.outcome.0

    picks : pick (spec_at s i) st n cpu at ≡ Some answer.outcome
    picks = ap (λ (x : Alone). pick x.spec x.state n cpu at) at_cpu.2 ∙ ap (λ (y : ℕ). pick answer.alone.spec answer.alone.state n y at) (sym wheel.number) ∙ answer.picks

    deeds : Did (spec_at s i) st (Serve (Pick n cpu at)) answer.outcome.1 t
    deeds = did (spec_at s i) st (Serve (Pick n cpu at)) answer.outcome picks

    facts : (t.armed ≡ None) × (is_free_at t.run cpu ≡ true) × (is_armed answer.outcome.1 ≡ false)
    facts = picked_facts (spec_at s i) st t n cpu at answer.outcome.1 deeds

    pub unarmed : is_armed reply ≡ false
    unarmed = ap is_armed answer.reply_is ∙ facts.2

    -- ---- the Pop

    takes : Takes s.buckets (are_direct s) ((op, Got i n at) ∷ []) q0 (Shows after)
    takes =
        subst (λ (m : ℕ). Takes m (are_direct s) ((op, Got i n at) ∷ []) q0 (Shows after)) wheel.buckets
        (subst (λ (lanes : List Bool). Takes before.timers.buckets lanes ((op, Got i n at) ∷ []) q0 (Shows after)) wheel.direct (next.queue.outcome q0 wheel.shows))

    abbrev q1 : TimerQueue
    q1 = journal.queue_of (journal.step s.buckets (are_direct s) q0 op) q0

    answers : journal.step s.buckets (are_direct s) q0 op ≡ Some (q1, Got i n at)
    answers = answered_so (journal.step s.buckets (are_direct s) q0 op) q0 (Got i n at) takes.0

    abbrev w1 : World
    w1 = queue_answers s w a act cpu op (Some (q1, Got i n at))

    abbrev v : InService
    v = record { act = act; i = i; n = n; at = at }

    abbrev c1 : Cursor
    c1 = record c { act = popping.number; stage = Picking v }

    goes1 : Goes w w1 i cpu a st cpu q1 c1
    goes1 =
        goes_as w w1 i cpu a st (stands_of w i) cpu q1 q1 (advance_queue s c cpu op (Got i n at)) c1 stand refl (advances (Got i n at) ∙ popping.picks_next i n at)
        (goes_queue s w i cpu a act op (q1, Got i n at) (lane_moves_none direct))

    -- ---- the Pick

    abbrev w2 : World
    w2 = callout_answers s w1 a act i (Serve (Pick n cpu at)) (Some (t, reply))

    abbrev made : Entry
    made = record { actor = a; act = act; op = Serve (Pick n cpu at); reply = reply }

    in_section : is_in_section w1 (cursors_of w1 a) ≡ true
    in_section = ap (is_in_section w1) goes1.cursors.here

    asks_pick : action_for s a (cursors_of w1 a) ≡ Asks act (Callout i (Serve (Pick n (cpu_of s role') at)))
    asks_pick = ap (action_for s a) goes1.cursors.here ∙ ap (action_with s role' c1) popping.empty

    outcome : callout_step (spec_at s i) (states_of w1 i) (Serve (Pick n cpu at)) ≡ Some (t, reply)
    outcome =
        ap (λ (x : State). pick (spec_at s i) x n cpu at) goes1.states.here ∙ picks ∙ ap (λ (r : Reply). Some (t, r)) (sym answer.reply_is)

    is : step s w a ≡ w2
    is =
        step_free s w a (Asks act (Queue cpu op)) due.due due.free ∙ ap (λ (o : Option (TimerQueue × QReply)). goes_on_in_section s (queue_answers s w a act cpu op o) a) answers
        ∙ goes_further s w1 a act (Callout i (Serve (Pick n (cpu_of s role') at))) in_section asks_pick
        ∙ ap (λ (y : ℕ). world_answers s w1 a act (Callout i (Serve (Pick n y at)))) (sym popping.is_cpu) ∙ ap (callout_answers s w1 a act i (Serve (Pick n cpu at))) outcome

    abbrev d2 : Cursor
    d2 = service_picked s (record c1 { removed = None }) v reply

    place2 : advance s (cursors_of w1 a) (is_some (off t)) (place.Timer i) (entry.Timer made) ≡ d2
    place2 = ap (λ (d : Cursor). advance s d (is_some (off t)) (place.Timer i) (entry.Timer made)) goes1.cursors.here

    goes2 : Goes w w2 i cpu a t cpu q1 d2
    goes2 =
        goes_on_from w w1 w2 i cpu a st t cpu cpu q1 q1 c1 d2 goes1
        (goes_as w1 w2 i cpu a t (stands_of w1 i) cpu (queues_of w1 cpu) q1 (advance s (cursors_of w1 a) (is_some (off t)) (place.Timer i) (entry.Timer made)) d2 goes1.stands.here goes1.queues.here place2
        (goes_callout s w1 i cpu a act (Serve (Pick n cpu at)) (t, reply)))

    after_place : (in_slot d2.stage ≡ Some (due_in_service v)) × (stage_callout d2.stage ≡ Some i) × (d2.parcel ≡ c.parcel)
    after_place = picked_place s (record c1 { removed = None }) v reply

    no_parcel : d2.parcel ≡ None
    no_parcel = after_place.2 ∙ popping.empty

    -- ---- after both

    callouts_here : after.callouts.here ≡ set before.callouts.here i (after_of s i t d2.parcel)
    callouts_here =
        ap (λ (x : Callouts). x.here) answer.callouts_are ∙ service_here direct (with_callout before.callouts i (Some (moved_on answer.alone t))) (Some (record { i = i; n = n }))
        ∙ ap (λ (x : Alone). set before.callouts.here i (Some (moved_on x t))) (sym at_cpu.2) ∙ ap (λ (o : Option PendingInsert). set before.callouts.here i (after_of s i t o)) (sym no_parcel)

    callouts_cpu : after.callouts.cpu ≡ before.callouts.cpu
    callouts_cpu = ap (λ (x : Callouts). x.cpu) answer.callouts_are ∙ service_cpu direct (with_callout before.callouts i (Some (moved_on answer.alone t))) (Some (record { i = i; n = n }))

    nothing : IsOnly i (parcels_of w a)
    nothing p e = let clash : None ≡ Some p = sym popping.empty ∙ e in cc

    nothing' : IsOnly i d2.parcel
    nothing' p e = let clash : None ≡ Some p = sym no_parcel ∙ e in cc

    others : (b : ℕ) → (b ≡ a → ⊥) → b < actor_count s → moves i (parcels_of w b) ≡ false
    others b other below = moving_none s w i b below at_cpu.1

    elsewhere : (y : ℕ) → (y ≡ cpu → ⊥) → at_home s w y i ≡ None
    elsewhere y other = go (stands_of w i == y) refl where
      go : (x : Bool) → (stands_of w i == y) ≡ x → cond (x && not (is_moving s w i)) (Some (alone_in s w i)) None ≡ None
      go true e = absurd (other (sym (eqb-true (stands_of w i) y e) ∙ stand))
      go false e = refl

    same_depot : ◌≡◌ {A = Stored} (record depot { wheels = set depot.wheels cpu after; stands = set depot.stands i cpu; bags = set depot.bags a None }) (with_wheel depot cpu after)
    same_depot = wheel_alone s depot w stands.stored i cpu a pick_known due.may stand popping.empty after

    right : IsRight s i cpu t d2.parcel
    right = record {
      runs = facts.1;
      listed = λ y m e. (let clash : None ≡ Some y = sym (off_none t facts.0) ∙ e in cc);
      idle = λ p e. absurd (let clash : None ≡ Some p = sym no_parcel ∙ e in cc);
      bound = λ p e. absurd (let clash : None ≡ Some p = sym no_parcel ∙ e in cc);
      home = subst (λ (y : ℕ). y < s.cpus) (sym (pick_home (spec_at s i) st n cpu at answer.outcome picks)) (stands.placed.cpus_known i pick_known).home;
      target = λ arming e. absurd (let clash : None ≡ Some arming = sym facts.0 ∙ e in cc);
    }

    change : QChange s.buckets (are_direct s) q0 op (Got i n at) q1
    change = changed s.buckets (are_direct s) q0 op (q1, Got i n at) answers

    slot_now : server_slot role' (queues_of w2 (cpu_of s role')) ≡ in_slot d2.stage
    slot_now =
        ap (λ (y : ℕ). server_slot role' (queues_of w2 y)) (sym popping.is_cpu) ∙ ap (server_slot role') goes2.queues.here
        ∙ pop_slot s.buckets (are_direct s) role' q0 op (Got i n at) q1 i n at popping.server popping.is_pop change refl ∙ sym after_place.0

    slots : (b : ℕ) → (b ≡ a → ⊥) → b < actor_count s → server_slot (role_of s b) (queues_of w2 (cpu_of s (role_of s b))) ≡ server_slot (role_of s b) (queues_of w (cpu_of s (role_of s b)))
    slots b other below = go (decide (cpu_of s (role_of s b)) cpu) where
      go : (cpu_of s (role_of s b) ≡ cpu) ⊎ (cpu_of s (role_of s b) ≡ cpu → ⊥) → server_slot (role_of s b) (queues_of w2 (cpu_of s (role_of s b))) ≡ server_slot (role_of s b) (queues_of w (cpu_of s (role_of s b)))
      go (inl same) =
          subst (λ (y : ℕ). server_slot (role_of s b) (queues_of w2 y) ≡ server_slot (role_of s b) (queues_of w y)) (sym same)
          (ap (server_slot (role_of s b)) goes2.queues.here
          ∙ other_slot s.buckets (are_direct s) s role' (role_of s b) q0 op (Got i n at) q1 popping.server (inl popping.is_pop) change (λ e. other (same_role s b a e)) (same ∙ popping.is_cpu))
      go (inr apart) = ap (server_slot (role_of s b)) (goes2.queues.else (cpu_of s (role_of s b)) apart)

    pub stands_picked : (ledger' : Written) → ((queue : TimerQueue) (state : State) → ShowsWritten s ledger' (callout_answers s (queue_answers s w a act cpu op (Some (queue, Got i n at))) a act i (Serve (Pick n cpu at)) (Some (state, reply)))) →
        StandsFor s ledger' (with_wheel depot cpu after) (step s w a)
    stands_picked ledger' written = record {
      written = subst (ShowsWritten s ledger') (sym is) (written q1 t);
      stored = subst (λ (x : Stored). ShowsStored s x (step s w a)) same_depot (subst (ShowsStored s (record depot { wheels = set depot.wheels cpu after; stands = set depot.stands i cpu; bags = set depot.bags a None })) (sym is)
          (stored_after s depot w w2 i cpu a t q1 d2 after None stands.stored due.may pop_below goes2 nothing nothing' others elsewhere callouts_cpu callouts_here next.queue.buckets next.queue.direct takes.1
          (subst (λ (o : Option PendingInsert). IsBag s w2 o None) (sym no_parcel) refl)));
      placed = subst (IsPlaced s) (sym is)
          (placed_after s w w2 i cpu a t q1 d2 stands.placed due.may pop_below pick_known goes2 nothing nothing' others right slot_now
          (λ j e. subst (λ (y : ℕ). y < length s.timers) (some_is i j (sym after_place.1 ∙ e)) pick_known) slots);
      reached = reached_after s w a due.may stands.reached;
    }
