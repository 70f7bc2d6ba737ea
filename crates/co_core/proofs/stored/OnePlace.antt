-- Each record of the core's world is in one wheel or with one actor, and each callout is in at most one service.
use Rattle.std.proofs.Common.{◌≡◌, ℕ, ◌+◌, ◌-◌, ◌<◌, ◌⊎◌, length, inl, inr, Bool, true, false, not, cond, ◌&&◌, refl, sym, ap, subst, ◌∙◌, arith, Option, Some, None, eqb-true, eq-eqb, le-ltb, lt-ltb}
use Rattle.std.specs.Prelude.{◌==◌, is_some, nat_lt}
use Rattle.co_object.specs.declared.alone.Alone.{Alone}
use Rattle.co_object.specs.declared.State.{State}
use Rattle.co_object.specs.declared.Run.{Run}
use Rattle.co_object.specs.declared.Run.TheVariants as run
use Rattle.co_object.specs.Queue.{Due, Queue as TimerQueue}
use Rattle.co_object.specs.Scan.{is_direct}
use Rattle.co_object.specs.History.{server}
use Rattle.co_program.specs.declared.Script.{Script}
use Rattle.co_program.specs.declared.Role.{Role}
use Rattle.co_program.specs.declared.Role.TheVariants.{Client, Cpu, Interrupt}
use Rattle.co_program.specs.declared.InService.{InService}
use Rattle.co_program.specs.declared.PendingInsert.{PendingInsert}
use Rattle.co_program.specs.Actors.{actor_count, client_count, cpu_of, role_of}
use Rattle.co_program.specs.Action.{spec_at}
use Rattle.co_program.specs.Scripts.{IsScript}
use Rattle.co_program.specs.Stages.{Stage, Ready, Waiting, Popping, Picking, Locking, Beginning, Unlocking, Firing, Releasing, Ending, Freeing, Drained}
use Rattle.co_wheel.specs.Callouts.{callout, in_service}
use Rattle.co_wheel.specs.Cpu.{Cpu as WheelOf}
use Rattle.co_wheel.specs.Parcel.{Parcel}
use Rattle.co_wheel.specs.Turns.{Shows as ShowsQueue}
use Rattle.co_world.specs.Blocked.{is_moving, moves}
use Rattle.co_world.specs.Laws.{actors_of}
use Rattle.co_world.specs.Placed.{IsPlaced, due_in_service, in_slot, server_slot}
use Rattle.co_world.specs.Laws.{IsReached}
use Rattle.co_core.specs.Stands.{IsBag, ShowsStored, alone_in, at_home, is_home}
use Rattle.co_world.specs.Step.{are_direct}
use Rattle.co_core.specs.Stored.{Stored, wheel_at, bag_at}
use Rattle.co_core.specs.Whereabouts.{CalloutsHaveOneSlot, IsAtOne, IsWithOne, RecordsHaveOnePlace, WheelsAreOfWorlds, is_at, is_entry_of, is_packed, is_served, is_with}
use Rattle.co_world.specs.World.{World}
use Rattle.co_world.proofs.kept.Invariant.{IsBetween, in_hand, IsOver, IsRunning, IsTaken, LaneFits, RunFits, carries, cpu_of_run, has_popped, cursors_of, queues_of, serves_direct, serving_of, states_of}
use Rattle.co_world.proofs.basics.Changes.{decide}
use Rattle.co_world.proofs.sections.Movers.{mover, moving_none}
use Rattle.co_world.proofs.kept.BySchedules.{reached_steady}
use Rattle.co_world.proofs.basics.Roles.{role_interrupt, server_of_lane}
use Rattle.co_world.proofs.kept.Servers.{IsServer}
use Rattle.co_world.proofs.kept.BySteps.{IsSteady}
use Rattle.co_core.proofs.tables.Values.{read}

pub steady_of : (s : Script) → IsScript s → (w : World) → IsReached s w → IsSteady s w
steady_of s ok w h = subst (λ (v : World). IsSteady s v) (sym h.world) (reached_steady s ok h.schedule h.may)

eqb_symm : (a b : ℕ) → (a == b) ≡ (b == a)
eqb_symm a b = go (a == b) (b == a) refl refl where
  go : (x y : Bool) → (a == b) ≡ x → (b == a) ≡ y → x ≡ y
  go true true p q = refl
  go false false p q = refl
  go true false p q = let e : b ≡ a = sym (eqb-true a b p) in let f : (b == a) ≡ true = eq-eqb b a e in cc
  go false true p q = let e : a ≡ b = sym (eqb-true b a q) in let f : (a == b) ≡ true = eq-eqb a b e in cc

eqb_other : (a b : ℕ) → (a ≡ b → ⊥) → (a == b) ≡ false
eqb_other a b other = go (a == b) refl where
  go : (x : Bool) → (a == b) ≡ x → x ≡ false
  go false is = refl
  go true is = absurd (other (eqb-true a b is))

-- ---- records

chosen_some : {X : Type 0} (b : Bool) (x : X) → is_some (cond b (Some x) None) ≡ b
chosen_some true x = refl
chosen_some false x = refl

and_true : (b : Bool) → (b && true) ≡ b
and_true true = refl
and_true false = refl

and_false : (b : Bool) → (b && false) ≡ false
and_false true = refl
and_false false = refl

packed_moves : (s : Script) (w : World) (i : ℕ) (parcel : Option PendingInsert) (bag : Option Parcel) → IsBag s w parcel bag → is_packed bag i ≡ moves i parcel
packed_moves s w i None bag h = ap (λ (b : Option Parcel). is_packed b i) h
packed_moves s w i (Some p) bag h = ap (λ (b : Option Parcel). is_packed b i) h.packed

-- who moves it is told by the parcel
moved_by : (i : ℕ) (parcel : Option PendingInsert) → moves i parcel ≡ true → (p : PendingInsert) × (parcel ≡ Some p) × (p.i ≡ i)
moved_by i None h = cc
moved_by i (Some p) h = (p, refl, eqb-true p.i i h)

module _ (s : Script) (x : Stored) (w : World) (stored : ShowsStored s x w) (placed : IsPlaced s w) where
  here_is : (cpu i : ℕ) → cpu < s.cpus → i < length s.timers → callout (wheel_at x cpu).callouts i ≡ at_home s w cpu i
  here_is cpu i below within = read (wheel_at x cpu).callouts.here (length s.timers) (at_home s w cpu) i None (stored.each_wheel cpu below).here within

  at_is : (cpu i : ℕ) → cpu < s.cpus → i < length s.timers → is_at x cpu i ≡ is_home s w cpu i
  at_is cpu i below within = ap (λ (o : Option Alone). is_some o) (here_is cpu i below within) ∙ chosen_some (is_home s w cpu i) (alone_in s w i)

  with_is : (a i : ℕ) → a < actor_count s → is_with x a i ≡ moves i (cursors_of w a).parcel
  with_is a i below = packed_moves s w i (cursors_of w a).parcel (bag_at x a) (stored.each_bag a below)

  at_one : (i : ℕ) → i < length s.timers → is_moving s w i ≡ false → IsAtOne s x i
  at_one i within still = record {
    cpu = (w.timers i).stand;
    exists = (placed.cpus_known i within).stand;
    wheels = λ c below. at_is c i below within ∙ ap (λ (b : Bool). ((w.timers i).stand == c) && not b) still ∙ and_true ((w.timers i).stand == c) ∙ eqb_symm (w.timers i).stand c;
    actors = λ a below. with_is a i below ∙ moving_none s w i a below still;
  }

  module _ (steady : IsSteady s w) where
    -- two actors that move one callout are one
    one_mover : (i a b : ℕ) → moves i (cursors_of w a).parcel ≡ true → moves i (cursors_of w b).parcel ≡ true → a ≡ b
    one_mover i a b h k =
        let p = moved_by i (cursors_of w a).parcel h in
        let r = moved_by i (cursors_of w b).parcel k in
        steady.good.holds.carried.once a b p.0 r.0 (carried a p.0 p.1) (carried b r.0 r.1) (p.2 ∙ sym r.2) where
          carried : (c : ℕ) (p : PendingInsert) → (cursors_of w c).parcel ≡ Some p → carries s c (cursors_of w c) ≡ Some p
          carried c p is = carried_as (cursors_of w c).parcel is where
            carried_as : (parcel : Option PendingInsert) → parcel ≡ Some p → in_hand (cpu_of s (role_of s c)) parcel (cursors_of w c).stage ≡ Some p
            carried_as None is = cc
            carried_as (Some q) is = is

    moved_as : (i b : ℕ) → moves i (cursors_of w b).parcel ≡ true → (a : ℕ) → moves i (cursors_of w a).parcel ≡ (a == b)
    moved_as i b is a = go (decide a b) (moves i (cursors_of w a).parcel) refl where
      go : (a ≡ b) ⊎ (a ≡ b → ⊥) → (m : Bool) → moves i (cursors_of w a).parcel ≡ m → m ≡ (a == b)
      go (inl same) m e = sym e ∙ subst (λ (c : ℕ). moves i (cursors_of w c).parcel ≡ true) (sym same) is ∙ sym (eq-eqb a b same)
      go (inr other) false e = sym (eqb_other a b other)
      go (inr other) true e = absurd (other (one_mover i a b e is))

    with_one : (i : ℕ) → i < length s.timers → is_moving s w i ≡ true → IsWithOne s x i
    with_one i within moving =
        let found = mover s w i moving in
        record {
          actor = found.0;
          exists = found.1;
          wheels = λ c below. at_is c i below within ∙ ap (λ (b : Bool). ((w.timers i).stand == c) && not b) moving ∙ and_false ((w.timers i).stand == c);
          actors = λ a below. with_is a i below ∙ moved_as i found.0 found.2 a;
        }

    pub one_place : (i : ℕ) → i < length s.timers → IsAtOne s x i ⊎ IsWithOne s x i
    one_place i within = go (is_moving s w i) refl where
      go : (b : Bool) → is_moving s w i ≡ b → IsAtOne s x i ⊎ IsWithOne s x i
      go false is = inl (at_one i within is)
      go true is = inr (with_one i within is)

-- ---- services

taken_at : (r : Run) (n cpu : ℕ) → IsTaken r n cpu → cpu_of_run r ≡ Some cpu
taken_at run.Idle n cpu h = absurd h
taken_at (run.Picked a) n cpu h = ap Some h.1
taken_at (run.Cancelled m at) n cpu h = ap Some h.1
taken_at (run.Running m at) n cpu h = absurd h

running_at : (r : Run) (n cpu : ℕ) → IsRunning r n cpu → cpu_of_run r ≡ Some cpu
running_at run.Idle n cpu h = absurd h
running_at (run.Picked a) n cpu h = absurd h
running_at (run.Cancelled m at) n cpu h = absurd h
running_at (run.Running m at) n cpu h = ap Some h.1

over_at : (r : Run) (n cpu : ℕ) → IsOver r n cpu → cpu_of_run r ≡ Some cpu
over_at run.Idle n cpu h = absurd h
over_at (run.Picked a) n cpu h = absurd h
over_at (run.Cancelled m at) n cpu h = ap Some h.1
over_at (run.Running m at) n cpu h = ap Some h.1

-- what an actor has popped is a callout that runs on its CPU, in its lane
record HasPopped (s : Script) (states : ℕ → State) (role : Role) (cpu : ℕ) (stage : Stage) : Type 0 where
  service : InService
  slot : in_slot stage ≡ Some (due_in_service service)
  runs : cpu_of_run (states service.i).run ≡ Some cpu
  lane : is_direct (are_direct s) service.i ≡ serves_direct role

popped_runs : (s : Script) (states : ℕ → State) (role : Role) (cpu : ℕ) (stage : Stage) → has_popped stage ≡ true → IsBetween stage → RunFits states cpu stage → LaneFits s role stage → HasPopped s states role cpu stage
popped_runs s states role cpu Ready h between runs lane = cc
popped_runs s states role cpu (Waiting n took) h between runs lane = cc
popped_runs s states role cpu (Popping act) h between runs lane = cc
popped_runs s states role cpu (Picking v) h between runs lane = absurd between
popped_runs s states role cpu (Locking v) h between runs lane = record { service = v; slot = refl; runs = taken_at (states v.i).run v.n cpu runs; lane = lane }
popped_runs s states role cpu (Beginning v) h between runs lane = record { service = v; slot = refl; runs = taken_at (states v.i).run v.n cpu runs; lane = lane }
popped_runs s states role cpu (Unlocking v acts) h between runs lane = record { service = v; slot = refl; runs = running_at (states v.i).run v.n cpu runs; lane = lane }
popped_runs s states role cpu (Firing v acts) h between runs lane = record { service = v; slot = refl; runs = running_at (states v.i).run v.n cpu runs; lane = lane }
popped_runs s states role cpu (Releasing v) h between runs lane = record { service = v; slot = refl; runs = over_at (states v.i).run v.n cpu runs; lane = lane }
popped_runs s states role cpu (Ending v) h between runs lane = record { service = v; slot = refl; runs = over_at (states v.i).run v.n cpu runs; lane = lane }
popped_runs s states role cpu (Freeing v drain next) h between runs lane = absurd between
popped_runs s states role cpu (Drained v acts) h between runs lane = cc

slot_serving : (q : TimerQueue) (role : Role) (d : Due) → server_slot role q ≡ Some d → serving_of q role ≡ true
slot_serving q (Client c) d h = cc
slot_serving q (Cpu c) d h = ap (λ (o : Option Due). is_some o) h
slot_serving q (Interrupt c) d h = ap (λ (o : Option Due). is_some o) h

entry_is : (o : Option Due) (i : ℕ) → is_entry_of o i ≡ true → (d : Due) × (o ≡ Some d) × (d.i ≡ i)
entry_is None i h = cc
entry_is (Some d) i h = (d, refl, eqb-true d.i i h)

-- the CPU's actor and its interrupt's
abbrev lane_role : Bool → ℕ → Role
lane_role true cpu = Interrupt cpu
lane_role false cpu = Cpu cpu

abbrev lane_actor : Script → Bool → ℕ → ℕ
lane_actor s true cpu = client_count s + s.cpus + cpu
lane_actor s false cpu = client_count s + cpu

role_cpu : (s : Script) (cpu : ℕ) → cpu < s.cpus → role_of s (client_count s + cpu) ≡ Cpu cpu
role_cpu s cpu below =
    let b : ℕ = client_count s + cpu in
    ap (λ (t : Bool). cond t (Client b) (cond (nat_lt b (client_count s + s.cpus)) (Cpu (b - client_count s)) (Interrupt (b - client_count s - s.cpus)))) (le-ltb b (client_count s) (omega arith))
    ∙ ap (λ (t : Bool). cond t (Cpu (b - client_count s)) (Interrupt (b - client_count s - s.cpus))) (lt-ltb b (client_count s + s.cpus) (omega (arith, below)))
    ∙ ap Cpu (let e : b - client_count s ≡ cpu = omega arith in e)

lane_is : (s : Script) (direct : Bool) (cpu : ℕ) → cpu < s.cpus → role_of s (lane_actor s direct cpu) ≡ lane_role direct cpu
lane_is s true cpu below = role_interrupt s cpu
lane_is s false cpu below = role_cpu s cpu below

lane_server : (direct : Bool) (cpu : ℕ) → IsServer (lane_role direct cpu)
lane_server true cpu = tt
lane_server false cpu = tt

lane_cpu : (s : Script) (direct : Bool) (cpu : ℕ) → cpu_of s (lane_role direct cpu) ≡ cpu
lane_cpu s true cpu = refl
lane_cpu s false cpu = refl

lane_direct : (direct : Bool) (cpu : ℕ) → serves_direct (lane_role direct cpu) ≡ direct
lane_direct true cpu = refl
lane_direct false cpu = refl

lane_slot : (direct : Bool) (cpu : ℕ) (wheel : WheelOf) (q : TimerQueue) → ShowsQueue wheel q → server_slot (lane_role direct cpu) q ≡ in_service direct wheel.callouts
lane_slot true cpu wheel q shows = shows.directing
lane_slot false cpu wheel q shows = shows.serving

-- callout i runs on this CPU, in this lane
record RunsAt (s : Script) (w : World) (i cpu : ℕ) (direct : Bool) : Type 0 where
  runs : cpu_of_run (w.timers i).state.run ≡ Some cpu
  lane : is_direct (are_direct s) i ≡ direct

module _ (s : Script) (x : Stored) (w : World) (stored : ShowsStored s x w) (placed : IsPlaced s w) (steady : IsSteady s w) where
  from_slot : (a i : ℕ) (d : Due) (role : Role) → role_of s a ≡ role → IsServer role → server_slot role (queues_of w (cpu_of s role)) ≡ Some d → d.i ≡ i → RunsAt s w i (cpu_of s role) (serves_direct role)
  from_slot a i d role is serves slot same =
      let holds = steady.good.holds in
      let stage = (cursors_of w a).stage in
      let busy : serving_of (queues_of w (cpu_of s role)) role ≡ has_popped stage = subst (λ (r : Role). serving_of (queues_of w (cpu_of s r)) r ≡ has_popped stage) is (holds.busy a) in
      let fits : RunFits (states_of w) (cpu_of s role) stage = subst (λ (r : Role). RunFits (states_of w) (cpu_of s r) stage) is (holds.serving.serves a) in
      let lane : LaneFits s role stage = subst (λ (r : Role). LaneFits s r stage) is (holds.roles a).lane in
      let has = popped_runs s (states_of w) role (cpu_of s role) stage (sym busy ∙ slot_serving (queues_of w (cpu_of s role)) role d slot) (steady.between a) fits lane in
      let number : a ≡ server (actors_of s) (spec_at s has.service.i) (cpu_of s (role_of s a)) =
      server_of_lane s a has.service.i (subst IsServer (sym is) serves) (has.lane ∙ ap serves_direct (sym is)) in
      let there = (holds.serving.served has.service.i (cpu_of s (role_of s a)) (has.runs ∙ ap (λ (r : Role). Some (cpu_of s r)) (sym is))).3 in
      let below : a < actor_count s = subst (λ (b : ℕ). b < actor_count s) (sym number) there in
      let entry : server_slot role (queues_of w (cpu_of s role)) ≡ in_slot stage = subst (λ (r : Role). server_slot r (queues_of w (cpu_of s r)) ≡ in_slot stage) is (placed.serves a below) in
      let one : Some (due_in_service has.service) ≡ Some d = sym has.slot ∙ sym entry ∙ slot in
      let callout : has.service.i ≡ i = same_entry (due_in_service has.service) d one ∙ same in
      record {
        runs = subst (λ (j : ℕ). cpu_of_run (w.timers j).state.run ≡ Some (cpu_of s role)) callout has.runs;
        lane = subst (λ (j : ℕ). is_direct (are_direct s) j ≡ serves_direct role) callout has.lane;
      } where
        same_entry : (e d : Due) → Some e ≡ Some d → e.i ≡ d.i
        same_entry e d h = cc

  runs_at : (i cpu : ℕ) (direct : Bool) → cpu < s.cpus → is_served x cpu direct i ≡ true → RunsAt s w i cpu direct
  runs_at i cpu direct below h =
      let role = lane_role direct cpu in
      let found = entry_is (in_service direct (wheel_at x cpu).callouts) i h in
      let slot : server_slot role (queues_of w cpu) ≡ Some found.0 = lane_slot direct cpu (wheel_at x cpu) (queues_of w cpu) (stored.each_wheel cpu below).shows ∙ found.1 in
      let at = from_slot (lane_actor s direct cpu) i found.0 role (lane_is s direct cpu below) (lane_server direct cpu)
      (subst (λ (c : ℕ). server_slot role (queues_of w c) ≡ Some found.0) (sym (lane_cpu s direct cpu)) slot) found.2 in
      record {
        runs = subst (λ (c : ℕ). cpu_of_run (w.timers i).state.run ≡ Some c) (lane_cpu s direct cpu) at.runs;
        lane = subst (λ (b : Bool). is_direct (are_direct s) i ≡ b) (lane_direct direct cpu) at.lane;
      }

  pub one_slot : (i c d : ℕ) (b e : Bool) → c < s.cpus → d < s.cpus → is_served x c b i ≡ true → is_served x d e i ≡ true → (c ≡ d) × (b ≡ e)
  one_slot i c d b e c_below d_below h k =
      let first = runs_at i c b c_below h in
      let second = runs_at i d e d_below k in
      (same_cpu c d (sym first.runs ∙ second.runs), sym first.lane ∙ second.lane) where
        same_cpu : (c d : ℕ) → Some c ≡ Some d → c ≡ d
        same_cpu c d h = cc

-- ---- the laws

pub records_have_one_place : RecordsHaveOnePlace
records_have_one_place x w ok h = one_place x.script x.depot w h.stored h.placed (steady_of x.script ok w h.reached)

pub callouts_have_one_slot : CalloutsHaveOneSlot
callouts_have_one_slot x w ok h = one_slot x.script x.depot w h.stored h.placed (steady_of x.script ok w h.reached)

pub wheels_are_of_worlds : WheelsAreOfWorlds
wheels_are_of_worlds x w h = record {
  records = λ cpu i below within is. (
      let s = x.script in
      here_is s x.depot w h.stored h.placed cpu i below within
      ∙ ap (λ (b : Bool). cond b (Some (alone_in s w i)) None) (sym (at_is s x.depot w h.stored h.placed cpu i below within) ∙ is));
  queues = λ cpu below. (h.stored.each_wheel cpu below).shows;
}
