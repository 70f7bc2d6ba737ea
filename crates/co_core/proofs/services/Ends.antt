-- A service is over: its callout stays or leaves for another CPU, and its server is free. What the wheel, the ledger and the plain world have after it.
use Rattle.std.proofs.Common.{◌≡◌, ℕ, ◌<◌, ◌⊎◌, inl, inr, Bool, true, false, cond, List, [], ◌∷◌, length, set, refl, sym, ap, ◌∙◌, subst, Option, Some, None, eq-eqb}
use Rattle.std.specs.Prelude.{is_some}
use Rattle.std.proofs.lemmas.List.{set-get_or}
use Rattle.co_object.specs.declared.Arming.{Arming}
use Rattle.co_object.specs.declared.State.{State}
use Rattle.co_object.specs.declared.Next.{Next}
use Rattle.co_object.specs.declared.Reply.{Reply}
use Rattle.co_object.specs.declared.Op.TheVariants.{Run as Serve}
use Rattle.co_object.specs.declared.RunOp.TheVariants.{End}
use Rattle.co_object.specs.declared.QOp.{QOp}
use Rattle.co_object.specs.declared.QReply.TheVariants.{Freed}
use Rattle.co_object.specs.declared.Entry.{Entry}
use Rattle.co_object.specs.declared.AnyEntry.TheVariants as entry
use Rattle.co_object.specs.declared.Place.TheVariants as place
use Rattle.co_object.specs.Callout.{step as callout_step}
use Rattle.co_object.specs.Entries.{is_armed}
use Rattle.co_object.specs.Journal as journal
use Rattle.co_object.specs.Queue.{Queue as TimerQueue}
use Rattle.co_object.specs.Serve.{end, ended, next_of}
use Rattle.co_object.specs.Stand.{off}
use Rattle.co_object.proofs.QueueChanges.{QChange}
use Rattle.co_program.specs.declared.role.Role.{Role}
use Rattle.co_program.specs.declared.cursor.PendingInsert.{PendingInsert}
use Rattle.co_program.specs.declared.cursor.InService.{InService}
use Rattle.co_program.specs.declared.action.Asked.TheVariants.{Callout, Queue}
use Rattle.co_program.specs.declared.script.Script.{Script}
use Rattle.co_program.specs.Actors.{actor_count, role_of, cpu_of}
use Rattle.co_program.specs.Stages.{Ending, Freeing}
use Rattle.co_program.specs.Cursor.{Cursor}
use Rattle.co_program.specs.Action.{Asks, action_for, action_with, spec_at, free_of, draining}
use Rattle.co_program.specs.Advance.{advance, advance_callout, advance_queue, service_ended, parcel_of, drain_acts}
use Rattle.co_program.specs.Scripts.{IsScript}
use Rattle.co_wheel.specs.Callouts.{Callouts, callout, with_callout, with_service, in_service}
use Rattle.co_wheel.specs.Cpu.{Cpu as WheelOf}
use Rattle.co_wheel.specs.Parcel.{Parcel, parcel, parcel_to}
use Rattle.co_wheel.specs.Service.{end_here, end_served, end_it, end_outcome}
use Rattle.co_wheel.specs.Turns.{Shows, Takes, pop_of as lane_pop, free_of as lane_free}
use Rattle.co_world.specs.World.{World}
use Rattle.co_world.specs.Blocked.{moves}
use Rattle.co_world.specs.Step.{are_direct, world_answers, goes_on_in_section, callout_answers, queue_answers, is_in_section, step}
use Rattle.co_core.specs.Stored.{Stored, IsEnded, wheel_at, bag_at, with_wheel, with_bag}
use Rattle.co_core.specs.Written.{Written}
use Rattle.co_world.specs.Placed.{IsPlaced, NamesKnownCpus, server_slot, in_slot, stage_callout, due_in_service}
use Rattle.co_core.specs.Acting.{IsDue}
use Rattle.co_core.specs.Stands.{StandsFor, IsAtWheel, IsBag, IsPacked, ShowsStored, ShowsWritten, alone_in}
use Rattle.co_core.proofs.tables.Options.{some_is}
use Rattle.co_core.proofs.stored.Slots.{answered_so}
use Rattle.co_core.proofs.stored.Worlds.{goes_as}
use Rattle.co_world.proofs.kept.ByOwnSteps.{view_of}
use Rattle.co_world.proofs.kept.Invariant.{FitsRole, IsOver, RunFits, serves_direct, states_of, queues_of, cursors_of}
use Rattle.co_world.proofs.basics.Changes.{decide}
use Rattle.co_world.proofs.sections.Movers.{IsOnly, parcels_of}
use Rattle.co_world.proofs.kept.Passages.{changed}
use Rattle.co_core.proofs.services.Picks.{lane_slot, service_here, service_cpu}
use Rattle.co_core.proofs.stored.Places.{IsRight, placed_after, reached_after}
use Rattle.co_world.proofs.basics.Roles.{same_role, is_direct_at}
use Rattle.co_world.proofs.kept.Servers.{IsServer, is_server}
use Rattle.co_world.proofs.sections.Servers.{free_slot, other_slot}
use Rattle.co_world.proofs.sections.Slots.{draining_of}
use Rattle.co_world.proofs.kept.BySteps.{IsSteady}
use Rattle.co_world.proofs.kept.OneMover.{steady_of}
use Rattle.co_core.proofs.stored.Sections.{with_state, after_of, stored_after}
use Rattle.co_core.proofs.tables.Values.{read}
use Rattle.co_core.proofs.services.Underway.{IsStage, IsBusyAt, end_view, over_busy, cpu_below, cpu_there, known, stand, there, others, elsewhere}
use Rattle.co_world.proofs.sections.Ways.{Goes, goes_on_from, goes_callout, goes_queue, step_free, goes_further, stands_of}
use Rattle.co_core.proofs.services.Lanes.{lane_pops, lane_frees, lane_moves_none}
use Rattle.co_core.proofs.services.Moves.{ends_at, Moves, stays, leaves, moves_so}
use Rattle.co_world.proofs.kept.Stages.{free_goes}

-- ---- the section

module _ (s : Script) (ok : IsScript s) (ledger : Written) (depot : Stored) (w : World) (stands : StandsFor s ledger depot w) (a act i n cpu : ℕ) (due : IsDue s w a (Asks act (Callout i (Serve (End n cpu))))) where
  abbrev c : Cursor
  c = cursors_of w a

  abbrev role' : Role
  role' = role_of s a

  abbrev before : WheelOf
  before = wheel_at depot cpu

  abbrev q0 : TimerQueue
  q0 = queues_of w cpu

  abbrev st : State
  st = states_of w i

  -- the lane of a callout is that of its server
  abbrev direct : Bool
  direct = (spec_at s i).direct

  steady : IsSteady s w
  steady = steady_of s ok w stands.reached

  view : IsStage s role' c act i n cpu Ending
  view = end_view s role' c c.parcel act i n cpu (view_of s a c (Asks act (Callout i (Serve (End n cpu)))) due.due) refl

  abbrev v : InService
  v = record { act = act; i = i; n = n; at = view.at }

  at_stage : c.stage ≡ Ending v
  at_stage = view.stage

  fits : FitsRole s role' c.left c.hold (Ending v)
  fits = subst (FitsRole s role' c.left c.hold) at_stage (steady.good.holds.roles a)

  server : IsServer role'
  server = is_server s role' c.hold (Ending v) refl fits.hold

  lane : direct ≡ serves_direct role'
  lane = sym (is_direct_at s i) ∙ fits.lane

  lane_op : lane_free direct ≡ free_of role'
  lane_op = ap lane_free lane ∙ lane_frees role' server

  over : IsOver st.run n cpu
  over = subst (IsOver st.run n) (sym view.is_cpu) (subst (RunFits (states_of w) (cpu_of s role')) at_stage (steady.good.holds.serving.serves a))

  busy : IsBusyAt st.run cpu
  busy = over_busy st.run n cpu over

  about : stage_callout c.stage ≡ Some i
  about = ap stage_callout at_stage

  pub end_below : cpu < s.cpus
  end_below = cpu_below s ok ledger depot w stands a i cpu due.may view.is_cpu about busy

  pub end_there : cpu < length depot.wheels
  end_there = cpu_there s ok ledger depot w stands a i cpu due.may view.is_cpu about busy

  pub end_known : i < length s.timers
  end_known = known s ok ledger depot w stands a i cpu due.may view.is_cpu about busy

  -- an actor whose service ends moves nothing
  pub end_empty : bag_at depot a ≡ None
  end_empty = subst (λ (o : Option PendingInsert). IsBag s w o (bag_at depot a)) view.empty (stands.stored.each_bag a due.may)

  here : callout before.callouts i ≡ Some (alone_in s w i)
  here = there s ok ledger depot w stands a i cpu due.may view.is_cpu about busy

  at_stand : stands_of w i ≡ cpu
  at_stand = stand s ok ledger depot w stands a i cpu due.may view.is_cpu about busy

  wheel : IsAtWheel s w cpu before
  wheel = stands.stored.each_wheel cpu end_below

  in_lane : in_service direct before.callouts ≡ Some (due_in_service v)
  in_lane =
      lane_slot direct role' before q0 server (ap lane_pop lane ∙ lane_pops role' server) wheel.shows ∙ ap (λ (y : ℕ). server_slot role' (queues_of w y)) view.is_cpu
      ∙ stands.placed.serves a due.may ∙ ap in_slot at_stage

  served : end_here direct before.callouts ≡ end_outcome direct before.callouts (due_in_service v) (alone_in s w i) (Some (ended st cpu))
  served =
      ap (end_served direct before.callouts) in_lane ∙ ap (end_it direct before.callouts (due_in_service v)) here
      ∙ ap (λ (y : ℕ). end_outcome direct before.callouts (due_in_service v) (alone_in s w i) (end st n y)) wheel.number
      ∙ ap (end_outcome direct before.callouts (due_in_service v) (alone_in s w i)) (ends_at st st.run n cpu over)

  pub ends_here : is_some (end_here direct before.callouts) ≡ true
  ends_here = ap is_some served

  abbrev t : State
  t = (ended st cpu).0

  abbrev next : Option Next
  next = next_of st.armed cpu

  module _ (reply : Reply) (out : Option Parcel) (after : WheelOf) (ended_so : IsEnded direct before reply out after) where
    abbrev After : Type 0
    After = Callouts × Reply × Option Parcel

    record IsAnswer (o : Option Next) : Type 0 where
      callouts_are : after.callouts ≡ with_service direct (with_callout before.callouts i (after_of s i t (parcel_of v o))) None
      reply_is : reply ≡ (ended st cpu).1
      out_is : out ≡ cond (is_some o) (parcel i (with_state s i t)) None

    answer : IsAnswer next
    answer = go next (some_is {X = After} (after.callouts, reply, out) _ (ended_so.callouts ∙ served)) where
      ends_as : Option Next → After
      ends_as o =
          cond (is_some o) (with_service direct (with_callout before.callouts i None) None, (ended st cpu).1, parcel i (with_state s i t))
          (with_service direct (with_callout before.callouts i (Some (with_state s i t))) None, (ended st cpu).1, None)

      go : (o : Option Next) → ◌≡◌ {A = After} (after.callouts, reply, out) (ends_as o) → IsAnswer o
      go None e = record { callouts_are = ap (λ (p : After). p.0) e; reply_is = ap (λ (p : After). p.1) e; out_is = ap (λ (p : After). p.2) e }
      go (Some x) e = record {
        callouts_are = ap (λ (p : After). p.0) e ∙ ap (λ (b : Bool). with_service direct (with_callout before.callouts i (cond b None (Some (with_state s i t)))) None) (sym (eq-eqb i i refl));
        reply_is = ap (λ (p : After). p.1) e;
        out_is = ap (λ (p : After). p.2) e;
      }

    pub end_unarmed : is_armed reply ≡ false
    end_unarmed = ap is_armed answer.reply_is

    -- ---- the End

    abbrev made : Entry
    made = record { actor = a; act = act; op = Serve (End n cpu); reply = reply }

    abbrev w1 : World
    w1 = callout_answers s w a act i (Serve (End n cpu)) (Some (t, reply))

    abbrev c1 : Cursor
    c1 = record c { removed = None; stage = Freeing v st.adrain next }

    place1 : advance s c (is_some (off t)) (place.Timer i) (entry.Timer made) ≡ c1
    place1 = ap (advance_callout s (record c { removed = None }) i (is_some (off t)) (Serve (End n cpu)) reply) at_stage ∙ ap (service_ended (record c { removed = None }) v) answer.reply_is

    goes1 : Goes w w1 i cpu a t cpu q0 c1
    goes1 = goes_as w w1 i cpu a t (stands_of w i) cpu q0 q0 (advance s c (is_some (off t)) (place.Timer i) (entry.Timer made)) c1 at_stand refl place1 (goes_callout s w i cpu a act (Serve (End n cpu)) (t, reply))

    -- ---- the Free

    abbrev op : QOp
    op = lane_free direct

    takes : Takes s.buckets (are_direct s) ((op, Freed) ∷ []) q0 (Shows after)
    takes =
        subst (λ (m : ℕ). Takes m (are_direct s) ((op, Freed) ∷ []) q0 (Shows after)) wheel.buckets
        (subst (λ (lanes : List Bool). Takes before.timers.buckets lanes ((op, Freed) ∷ []) q0 (Shows after)) wheel.direct (ended_so.queue.outcome q0 wheel.shows))

    abbrev q1 : TimerQueue
    q1 = journal.queue_of (journal.step s.buckets (are_direct s) q0 op) q0

    answers : journal.step s.buckets (are_direct s) q0 op ≡ Some (q1, Freed)
    answers = answered_so (journal.step s.buckets (are_direct s) q0 op) q0 Freed takes.0

    abbrev w2 : World
    w2 = queue_answers s w1 a act cpu op (Some (q1, Freed))

    in_section : is_in_section w1 (cursors_of w1 a) ≡ true
    in_section = ap (is_in_section w1) goes1.cursors.here

    asks_free : action_for s a (cursors_of w1 a) ≡ Asks act (Queue (cpu_of s role') (free_of role'))
    asks_free = ap (action_for s a) goes1.cursors.here ∙ ap (action_with s role' c1) view.empty

    outcome : callout_step (spec_at s i) st (Serve (End n cpu)) ≡ Some (t, reply)
    outcome = ends_at st st.run n cpu over ∙ ap (λ (r : Reply). Some (t, r)) (sym answer.reply_is)

    frees : journal.step s.buckets (are_direct s) (queues_of w1 cpu) op ≡ Some (q1, Freed)
    frees = ap (λ (q : TimerQueue). journal.step s.buckets (are_direct s) q op) goes1.queues.here ∙ answers

    is : step s w a ≡ w2
    is =
        step_free s w a (Asks act (Callout i (Serve (End n cpu)))) due.due due.free ∙ ap (λ (o : Option (State × Reply)). goes_on_in_section s (callout_answers s w a act i (Serve (End n cpu)) o) a) outcome
        ∙ goes_further s w1 a act (Queue (cpu_of s role') (free_of role')) in_section asks_free
        ∙ ap (λ (y : ℕ). world_answers s w1 a act (Queue y (free_of role'))) (sym view.is_cpu) ∙ ap (λ (o : QOp). world_answers s w1 a act (Queue cpu o)) (sym lane_op)
        ∙ ap (queue_answers s w1 a act cpu op) frees

    abbrev d2 : Cursor
    d2 = record c1 { stage = draining v (drain_acts s st.adrain); parcel = parcel_of v next }

    place2 : advance_queue s (cursors_of w1 a) cpu op Freed ≡ d2
    place2 = ap (λ (x : Cursor). advance_queue s x cpu op Freed) goes1.cursors.here ∙ ap (λ (o : QOp). advance_queue s c1 cpu o Freed) lane_op ∙ free_goes s role' c1 cpu Freed

    goes2 : Goes w w2 i cpu a t cpu q1 d2
    goes2 =
        goes_on_from w w1 w2 i cpu a t t cpu cpu q0 q1 c1 d2 goes1
        (subst (λ (x : State). Goes w1 w2 i cpu a x cpu q1 d2) goes1.states.here
        (goes_as w1 w2 i cpu a (states_of w1 i) (stands_of w1 i) cpu q1 q1 (advance_queue s (cursors_of w1 a) cpu op Freed) d2 goes1.stands.here refl place2
        (goes_queue s w1 i cpu a act op (q1, Freed) (lane_moves_none direct))))

    -- ---- after both

    callouts_here : after.callouts.here ≡ set before.callouts.here i (after_of s i t d2.parcel)
    callouts_here = ap (λ (x : Callouts). x.here) answer.callouts_are ∙ service_here direct (with_callout before.callouts i (after_of s i t (parcel_of v next))) None

    callouts_cpu : after.callouts.cpu ≡ before.callouts.cpu
    callouts_cpu = ap (λ (x : Callouts). x.cpu) answer.callouts_are ∙ service_cpu direct (with_callout before.callouts i (after_of s i t (parcel_of v next))) None

    nothing : IsOnly i (parcels_of w a)
    nothing p e = let clash : None ≡ Some p = sym view.empty ∙ e in cc

    only : IsOnly i d2.parcel
    only p e = go next e where
      go : (o : Option Next) → parcel_of v o ≡ Some p → p.i ≡ i
      go None e = cc
      go (Some x) e = ap (λ (y : PendingInsert). y.i) (sym (some_is (record { act = act; i = i; n = x.n; due = x.due; cpu = x.cpu }) p e))

    -- what the arming that leaves makes of the place
    abbrev sent : Arming → PendingInsert
    sent arming = record { act = act; i = i; n = arming.n; due = arming.due; cpu = arming.cpu }

    abbrev settles : NamesKnownCpus s w i
    settles = stands.placed.cpus_known i end_known

    right : IsRight s i cpu t d2.parcel
    right = go (moves_so st cpu) where
      go : Moves st cpu → IsRight s i cpu t (parcel_of v next)
      go (stays none listed) = record {
        runs = refl;
        listed = λ y m e. listed y e;
        idle = λ p e. refl;
        bound = λ p e. absurd (let clash : None ≡ Some p = sym (ap (parcel_of v) none) ∙ e in cc);
        home = settles.home;
        target = λ arming e. settles.target arming e;
      }
      go (leaves arming armed goes) = record {
        runs = refl;
        listed = λ y m e. absurd (let clash : true ≡ false = sym (eq-eqb i i refl) ∙ ap (λ (o : Option Next). moves i (parcel_of v o)) (sym goes) ∙ m in cc);
        idle = λ p e. refl;
        bound = λ p e. subst (λ (x : PendingInsert). x.cpu < s.cpus) (some_is (sent arming) p (ap (parcel_of v) (sym goes) ∙ e)) (settles.target arming armed);
        home = settles.home;
        target = λ x e. settles.target x e;
      }

    bagged : IsBag s w2 d2.parcel out
    bagged = go (moves_so st cpu) where
      go : Moves st cpu → IsBag s w2 (parcel_of v next) out
      go (stays none listed) = subst (λ (o : Option PendingInsert). IsBag s w2 o out) (ap (parcel_of v) (sym none)) (answer.out_is ∙ ap (λ (o : Option Next). cond (is_some o) (parcel i (with_state s i t)) None) none)
      go (leaves arming armed goes) = subst (λ (o : Option PendingInsert). IsBag s w2 o out) (ap (parcel_of v) (sym goes)) (packed arming armed goes) where
        travels : Arming → State → Parcel
        travels x state = record { i = i; callout = with_state s i state; arming = x }

        packed : (x : Arming) → st.armed ≡ Some x → next ≡ Some (record { n = x.n; cpu = x.cpu; due = x.due }) → IsPacked s w2 (sent x) out
        packed x at is_next = record {
          arming = x;
          packed = answer.out_is ∙ ap (λ (o : Option Next). cond (is_some o) (parcel i (with_state s i t)) None) is_next ∙ ap (parcel_to i (with_state s i t)) at ∙ ap (λ (y : State). Some (travels x y)) (sym goes2.states.here);
          armed = ap (λ (y : State). y.armed) goes2.states.here ∙ at;
          number = refl;
          due = refl;
          cpu = refl;
        }

    change : QChange s.buckets (are_direct s) q0 op Freed q1
    change = changed s.buckets (are_direct s) q0 op (q1, Freed) answers

    drained : (in_slot (draining v (drain_acts s st.adrain)) ≡ None) × ((j : ℕ) → stage_callout (draining v (drain_acts s st.adrain)) ≡ Some j → j ≡ i)
    drained = draining_of v (drain_acts s st.adrain)

    slot_now : server_slot role' (queues_of w2 (cpu_of s role')) ≡ in_slot d2.stage
    slot_now =
        ap (λ (y : ℕ). server_slot role' (queues_of w2 y)) (sym view.is_cpu) ∙ ap (server_slot role') goes2.queues.here
        ∙ free_slot s.buckets (are_direct s) role' q0 op Freed q1 server lane_op change ∙ sym drained.0

    slots : (b : ℕ) → (b ≡ a → ⊥) → b < actor_count s → server_slot (role_of s b) (queues_of w2 (cpu_of s (role_of s b))) ≡ server_slot (role_of s b) (queues_of w (cpu_of s (role_of s b)))
    slots b other below = go (decide (cpu_of s (role_of s b)) cpu) where
      go : (cpu_of s (role_of s b) ≡ cpu) ⊎ (cpu_of s (role_of s b) ≡ cpu → ⊥) → server_slot (role_of s b) (queues_of w2 (cpu_of s (role_of s b))) ≡ server_slot (role_of s b) (queues_of w (cpu_of s (role_of s b)))
      go (inl same) =
          subst (λ (y : ℕ). server_slot (role_of s b) (queues_of w2 y) ≡ server_slot (role_of s b) (queues_of w y)) (sym same)
          (ap (server_slot (role_of s b)) goes2.queues.here
          ∙ other_slot s.buckets (are_direct s) s role' (role_of s b) q0 op Freed q1 server (inr lane_op) change (λ e. other (same_role s b a e)) (same ∙ view.is_cpu))
      go (inr apart) = ap (server_slot (role_of s b)) (goes2.queues.else (cpu_of s (role_of s b)) apart)

    same_stands : set depot.stands i cpu ≡ depot.stands
    same_stands = ap (set depot.stands i) (sym (read depot.stands (length s.timers) (stands_of w) i 0 stands.stored.each_stand end_known ∙ at_stand)) ∙ set-get_or depot.stands i 0

    abbrev stored_as : List ℕ → Stored
    stored_as sites = record { wheels = set depot.wheels cpu after; stands = sites; bags = set depot.bags a out }

    pub stands_ended : (ledger' : Written) → ((queue : TimerQueue) (state : State) → ShowsWritten s ledger' (queue_answers s (callout_answers s w a act i (Serve (End n cpu)) (Some (state, reply))) a act cpu op (Some (queue, Freed)))) →
        StandsFor s ledger' (with_bag (with_wheel depot cpu after) a out) (step s w a)
    stands_ended ledger' written = record {
      written = subst (ShowsWritten s ledger') (sym is) (written q1 t);
      stored = subst (λ (l : List ℕ). ShowsStored s (stored_as l) (step s w a)) same_stands (subst (ShowsStored s (stored_as (set depot.stands i cpu))) (sym is)
          (stored_after s depot w w2 i cpu a t q1 d2 after out stands.stored due.may end_below goes2 nothing only (others s ok ledger depot w stands a i cpu due.may view.is_cpu about busy)
          (elsewhere s ok ledger depot w stands a i cpu due.may view.is_cpu about busy) callouts_cpu callouts_here ended_so.queue.buckets ended_so.queue.direct takes.1 bagged));
      placed = subst (IsPlaced s) (sym is)
          (placed_after s w w2 i cpu a t q1 d2 stands.placed due.may end_below end_known goes2 nothing only (others s ok ledger depot w stands a i cpu due.may view.is_cpu about busy) right slot_now
          (λ j e. subst (λ (y : ℕ). y < length s.timers) (sym (drained.1 j e)) end_known) slots);
      reached = reached_after s w a due.may stands.reached;
    }
