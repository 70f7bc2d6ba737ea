-- The landing of a callout that was on its way: what the wheel, the ledger and the plain world have after it.
use Rattle.std.proofs.Common.{◌≡◌, ℕ, ◌<◌, Bool, true, false, cond, not, List, [], ◌∷◌, length, refl, sym, ap, ◌∙◌, subst, arith, Option, Some, None}
use Rattle.std.specs.Prelude.{◌==◌, ◌&&◌, ◌||◌, is_some}
use Rattle.co_object.specs.declared.Run.{Run}
use Rattle.co_object.specs.declared.Run.TheVariants as run
use Rattle.co_object.specs.declared.State.{State}
use Rattle.co_object.specs.declared.QOp.{QOp}
use Rattle.co_object.specs.declared.QOp.TheVariants.{Insert}
use Rattle.co_object.specs.declared.QReply.{QReply}
use Rattle.co_object.specs.declared.QReply.TheVariants.{At}
use Rattle.co_object.specs.Journal as journal
use Rattle.co_object.specs.Queue.{Queue as TimerQueue}
use Rattle.co_object.specs.Scan.{is_direct}
use Rattle.co_object.specs.Stand.{is_idle, is_free_at}
use Rattle.co_program.specs.declared.role.Role.{Role}
use Rattle.co_program.specs.declared.role.Role.TheVariants as role
use Rattle.co_program.specs.declared.cursor.PendingInsert.{PendingInsert}
use Rattle.co_program.specs.declared.action.Asked.TheVariants.{Queue}
use Rattle.co_program.specs.declared.script.Script.{Script}
use Rattle.co_program.specs.Actors.{actor_count, role_of, cpu_of}
use Rattle.co_program.specs.Stages.{Stage}
use Rattle.co_program.specs.Stages as stages
use Rattle.co_program.specs.Cursor.{Cursor}
use Rattle.co_program.specs.Action.{Asks, pop_of, free_of}
use Rattle.co_program.specs.Scripts.{IsScript}
use Rattle.co_wheel.specs.Callouts.{Callouts, callout, with_callout}
use Rattle.co_wheel.specs.Cpu.{Cpu as WheelOf}
use Rattle.co_wheel.specs.Parcel.{Parcel}
use Rattle.co_wheel.specs.Turns.{Shows, Takes}
use Rattle.co_world.specs.World.{World}
use Rattle.co_world.specs.Blocked.{is_moving, moves}
use Rattle.co_world.specs.Step.{are_direct, goes_on_in_section, queue_answers, is_in_section, is_within_service, step}
use Rattle.co_core.specs.Stored.{Stored, IsLanded, MayLand, wheel_at, bag_at, with_bag, with_wheel, with_stand}
use Rattle.co_core.specs.Written.{Written}
use Rattle.co_world.specs.Placed.{IsPlaced, server_slot}
use Rattle.co_core.specs.Acting.{IsDue}
use Rattle.co_core.specs.Stands.{StandsFor, IsAtWheel, IsBag, IsPacked, ShowsStored, ShowsWritten, alone_in, at_home}
use Rattle.co_world.proofs.basics.Actions.{IsAction, IsActionWith, inserts, goes_by, scans, starts, pops, frees}
use Rattle.co_core.proofs.tables.Options.{some_is}
use Rattle.co_core.proofs.stored.Slots.{answered_so, quiet_slots, all_slots}
use Rattle.co_world.proofs.kept.Listed.{off_listed}
use Rattle.co_world.proofs.kept.ByOwnSteps.{view_of}
use Rattle.co_world.proofs.kept.Invariant.{IsBetween, states_of, queues_of, cursors_of}
use Rattle.co_world.proofs.sections.Movers.{IsOnly, moves_it, moving_at, parcels_of}
use Rattle.co_core.proofs.stored.Places.{IsRight, placed_after, reached_after}
use Rattle.co_world.proofs.basics.Roles.{is_direct_at}
use Rattle.co_world.proofs.kept.OneMover.{steady_of, moved_once}
use Rattle.co_core.proofs.stored.Sections.{with_state, stored_after}
use Rattle.co_core.proofs.tables.Values.{read, long}
use Rattle.co_world.proofs.sections.Ways.{Goes, goes_insert, step_free, goes_no_further, stands_of}

-- an Insert is due where it is on its way
no_insert : (r : Role) (i n t : ℕ) → (pop_of r ≡ Insert i n t → ⊥) × (free_of r ≡ Insert i n t → ⊥)
no_insert (role.Client k) i n t = (λ e. cc, λ e. cc)
no_insert (role.Cpu y) i n t = (λ e. cc, λ e. cc)
no_insert (role.Interrupt y) i n t = (λ e. cc, λ e. cc)

no_other : (s : Script) (r : Role) (c : Cursor) (stage : Stage) (act cpu : ℕ) (op : QOp) (i n t : ℕ) → IsAction s r c stage (Asks act (Queue cpu op)) → op ≡ Insert i n t → ⊥
no_other s r c stage act cpu op i n t (scans time left is) e = cc
no_other s r c stage act cpu op i n t (starts j left is) e = (no_insert r i n t).0 e
no_other s r c stage act cpu op i n t (pops k) e = (no_insert r i n t).0 e
no_other s r c stage act cpu op i n t (frees v drain next) e = (no_insert r i n t).1 e

insert_view : (s : Script) (r : Role) (c : Cursor) (parcel : Option PendingInsert) (act cpu : ℕ) (op : QOp) (i n t : ℕ) → IsActionWith s r c parcel (Asks act (Queue cpu op)) → op ≡ Insert i n t →
    parcel ≡ Some (record { act = act; i = i; n = n; due = t; cpu = cpu })
insert_view s r c parcel act cpu op i n t (inserts p) e = let i_is : p.i ≡ i = cc in let n_is : p.n ≡ n = cc in let t_is : p.due ≡ t = cc in same p.i p.n p.due i_is n_is t_is where
  carried : ℕ → ℕ → ℕ → Option PendingInsert
  carried j m u = Some (record { act = p.act; i = j; n = m; due = u; cpu = p.cpu })

  same : (j m u : ℕ) → j ≡ i → m ≡ n → u ≡ t → carried j m u ≡ carried i n t
  same j m u a b d = ap (λ x. carried x m u) a ∙ ap (λ x. carried i x u) b ∙ ap (carried i n) d
insert_view s r c parcel act cpu op i n t (goes_by action view) e = absurd (no_other s r c c.stage act cpu op i n t view e)

-- between two sections no stage is within one
pub between_within : (stage : Stage) → IsBetween stage → is_within_service stage ≡ false
between_within stages.Ready h = refl
between_within (stages.Waiting n took) h = refl
between_within (stages.Popping act) h = refl
between_within (stages.Picking v) h = absurd h
between_within (stages.Locking v) h = refl
between_within (stages.Beginning v) h = refl
between_within (stages.Unlocking v acts) h = refl
between_within (stages.Firing v acts) h = refl
between_within (stages.Releasing v) h = refl
between_within (stages.Ending v) h = refl
between_within (stages.Freeing v drain next) h = absurd h
between_within (stages.Drained v acts) h = refl

idle_free : (r : Run) (cpu : ℕ) → is_idle r ≡ true → is_free_at r cpu ≡ true
idle_free run.Idle cpu h = refl
idle_free (run.Picked a) cpu h = cc
idle_free (run.Cancelled n at) cpu h = cc
idle_free (run.Running n at) cpu h = cc

module _ (s : Script) (ok : IsScript s) (ledger : Written) (depot : Stored) (w : World) (stands : StandsFor s ledger depot w) (a : ℕ) (p : PendingInsert) (due : IsDue s w a (Asks p.act (Queue p.cpu (Insert p.i p.n p.due)))) where
  abbrev i : ℕ
  i = p.i

  abbrev cpu : ℕ
  cpu = p.cpu

  abbrev c : Cursor
  c = cursors_of w a

  abbrev before : WheelOf
  before = wheel_at depot cpu

  abbrev st : State
  st = states_of w i

  abbrev q0 : TimerQueue
  q0 = queues_of w cpu

  carried : parcels_of w a ≡ Some p
  carried = insert_view s (role_of s a) c c.parcel p.act p.cpu (Insert p.i p.n p.due) p.i p.n p.due (view_of s a c (Asks p.act (Queue p.cpu (Insert p.i p.n p.due))) due.due) refl

  bound : (is_idle st.run ≡ true) × (i < length s.timers) × (cpu < s.cpus)
  bound = let b = stands.placed.bound a p due.may carried in (b.idle, b.known, b.target)

  pub cpu_below : cpu < s.cpus
  cpu_below = bound.2

  pub cpu_there : cpu < length depot.wheels
  cpu_there = let l = stands.stored.wheels_long in let b = bound.2 in omega (arith, l, b)

  packed : IsPacked s w p (bag_at depot a)
  packed = subst (λ (o : Option PendingInsert). IsBag s w o (bag_at depot a)) carried (stands.stored.each_bag a due.may)

  wheel : IsAtWheel s w cpu before
  wheel = stands.stored.each_wheel cpu bound.2

  moving : is_moving s w i ≡ true
  moving = moving_at s w i a due.may (moves_it i (parcels_of w a) p carried refl)

  nowhere : (y : ℕ) → at_home s w y i ≡ None
  nowhere y = ap (λ (m : Bool). cond (stands_of w i == y && not m) (Some (alone_in s w i)) None) moving ∙ none (stands_of w i == y) where
    none : (b : Bool) → cond (b && false) (Some (alone_in s w i)) None ≡ None
    none true = refl
    none false = refl

  absent : callout before.callouts i ≡ None
  absent = read before.callouts.here (length s.timers) (at_home s w cpu) i None wheel.here bound.1 ∙ nowhere cpu

  pub may_land : MayLand depot a cpu
  may_land = record {
    parcel = record { i = i; callout = alone_in s w i; arming = packed.arming };
    carried = packed.packed;
    cpu = packed.cpu ∙ sym wheel.number;
    below = (let l = long before.callouts.here (length s.timers) (at_home s w cpu) wheel.here in let b = bound.1 in omega (arith, l, b));
    known = (let l = long depot.stands (length s.timers) (stands_of w) stands.stored.each_stand in let b = bound.1 in omega (arith, l, b));
    absent = ap is_some absent;
    lane = sym (is_direct_at s i) ∙ ap (λ (direct : List Bool). is_direct direct i) (sym wheel.direct);
  }

  module _ (travels : Parcel) (after : WheelOf) (at : ℕ) (bagged : bag_at depot a ≡ Some travels) (landed : IsLanded before travels at after) where
    same : travels ≡ record { i = i; callout = alone_in s w i; arming = packed.arming }
    same = some_is travels (record { i = i; callout = alone_in s w i; arming = packed.arming }) (sym bagged ∙ packed.packed)

    callouts : after.callouts ≡ with_callout before.callouts i (Some (with_state s i st))
    callouts = landed.callouts ∙ ap (λ (t : Parcel). with_callout before.callouts t.i (Some t.callout)) same

    op_is : ◌≡◌ {A = QOp} (Insert travels.i travels.arming.n travels.arming.due) (Insert i p.n p.due)
    op_is = ap (λ (t : Parcel). Insert t.i t.arming.n t.arming.due) same ∙ ap (λ (n : ℕ). Insert i n packed.arming.due) packed.number ∙ ap (Insert i p.n) packed.due

    takes : Takes s.buckets (are_direct s) ((Insert i p.n p.due, At at) ∷ []) q0 (Shows after)
    takes =
        subst (λ (op : QOp). Takes s.buckets (are_direct s) ((op, At at) ∷ []) q0 (Shows after)) op_is
        (subst (λ (m : ℕ). Takes m (are_direct s) ((Insert travels.i travels.arming.n travels.arming.due, At at) ∷ []) q0 (Shows after)) wheel.buckets
        (subst (λ (direct : List Bool). Takes before.timers.buckets direct ((Insert travels.i travels.arming.n travels.arming.due, At at) ∷ []) q0 (Shows after)) wheel.direct (landed.queue.outcome q0 wheel.shows)))

    abbrev q2 : TimerQueue
    q2 = journal.queue_of (journal.step s.buckets (are_direct s) q0 (Insert i p.n p.due)) q0

    answers : journal.step s.buckets (are_direct s) q0 (Insert i p.n p.due) ≡ Some (q2, At at)
    answers = answered_so (journal.step s.buckets (are_direct s) q0 (Insert i p.n p.due)) q0 (At at) takes.0

    abbrev w' : World
    w' = queue_answers s w a p.act cpu (Insert i p.n p.due) (Some (q2, At at))

    abbrev d : Cursor
    d = record c { parcel = None }

    goes : Goes w w' i cpu a st cpu q2 d
    goes = goes_insert s w i cpu a p.act p.n p.due (q2, At at)

    quiet : is_in_section w' (cursors_of w' a) ≡ false
    quiet = ap (is_in_section w') goes.cursors.here ∙ ap (λ (b : Bool). b || false) (between_within c.stage ((steady_of s ok w stands.reached).between a))

    is : step s w a ≡ w'
    is =
        step_free s w a (Asks p.act (Queue cpu (Insert i p.n p.due))) due.due due.free ∙ ap (λ (o : Option (TimerQueue × QReply)). goes_on_in_section s (queue_answers s w a p.act cpu (Insert i p.n p.due) o) a) answers
        ∙ goes_no_further s w' a quiet

    only : IsOnly i (parcels_of w a)
    only q e = ap (λ (y : PendingInsert). y.i) (sym (some_is p q (sym carried ∙ e)))

    only' : IsOnly i d.parcel
    only' q e = cc

    others : (b : ℕ) → (b ≡ a → ⊥) → b < actor_count s → moves i (parcels_of w b) ≡ false
    others b other within = moved_once s w (steady_of s ok w stands.reached) a p carried b other within

    slots : (ro : Role) (y : ℕ) → server_slot ro (queues_of w' y) ≡ server_slot ro (queues_of w y)
    slots = all_slots w w' i cpu a st cpu q2 d goes (quiet_slots s.buckets (are_direct s) q0 (Insert i p.n p.due) (q2, At at) answers (λ e. cc) (λ e. cc) (λ e. cc) (λ e. cc))

    right : IsRight s i cpu st None
    right = record {
      runs = idle_free st.run cpu bound.0;
      listed = λ y m e. some_is cpu y (ap Some (sym packed.cpu) ∙ sym (off_listed st packed.arming packed.armed (idle_free st.run packed.arming.cpu bound.0)) ∙ e);
      idle = λ q e. cc;
      bound = λ q e. cc;
      home = (stands.placed.cpus_known i bound.1).home;
      target = (stands.placed.cpus_known i bound.1).target;
    }

    pub stands_landed : (ledger' : Written) → ((queue : TimerQueue) → ShowsWritten s ledger' (queue_answers s w a p.act cpu (Insert i p.n p.due) (Some (queue, At at)))) → StandsFor s ledger' (with_stand (with_bag (with_wheel depot cpu after) a None) travels.i cpu) (step s w a)
    stands_landed ledger' written = record {
      written = subst (ShowsWritten s ledger') (sym is) (written q2);
      stored = subst (λ (j : ℕ). ShowsStored s (with_stand (with_bag (with_wheel depot cpu after) a None) j cpu) (step s w a)) (ap (λ (t : Parcel). t.i) (sym same))
          (subst (ShowsStored s (with_stand (with_bag (with_wheel depot cpu after) a None) i cpu)) (sym is)
          (stored_after s depot w w' i cpu a st q2 d after None stands.stored due.may bound.2 goes only only' others (λ y other. nowhere y) (ap (λ (x : Callouts). x.cpu) callouts) (ap (λ (x : Callouts). x.here) callouts) landed.queue.buckets landed.queue.direct takes.1 refl));
      placed = subst (IsPlaced s) (sym is)
          (placed_after s w w' i cpu a st q2 d stands.placed due.may bound.2 bound.1 goes only only' others right
          (slots (role_of s a) (cpu_of s (role_of s a)) ∙ stands.placed.serves a due.may) (λ j e. stands.placed.known a j due.may e) (λ b other below. slots (role_of s b) (cpu_of s (role_of s b))));
      reached = reached_after s w a due.may stands.reached;
    }
