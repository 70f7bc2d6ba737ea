-- The slots of a CPU and of its interrupt have what they service: a callout is in service exactly where the CPU at which its
-- record stands, or the interrupt of it, has it in its slot.
use Rattle.std.proofs.Common.{◌≡◌, ℕ, ◌+◌, ◌<◌, ◌⊎◌, inl, inr, Bool, true, false, ◌&&◌, ◌||◌, refl, ap, sym, subst, ◌∙◌}
use Rattle.std.specs.Prelude.{Option, Some, None, is_some, length, ◌==◌}
use Rattle.std.proofs.lemmas.Bool.{eqb-true, eq-eqb}
use Rattle.co_object.proofs.Changes.{both_true}
use Rattle.co_object.specs.declared.State.{State}
use Rattle.co_object.specs.declared.Run.{Run}
use Rattle.co_object.specs.declared.Run.TheVariants as run
use Rattle.co_object.specs.Drain.{serviced}
use Rattle.co_object.specs.History.{server}
use Rattle.co_object.specs.Queue.{Queue as TimerQueue, Due}
use Rattle.co_object.specs.Stand.{is_free_at}
use Rattle.co_program.specs.declared.Script.{Script}
use Rattle.co_program.specs.declared.InService.{InService}
use Rattle.co_program.specs.Stages.{Stage, Ready, Waiting, Popping, Picking, Locking, Beginning, Unlocking, Firing, Releasing, Ending, Freeing, Drained}
use Rattle.co_program.specs.declared.Role.{Role}
use Rattle.co_program.specs.declared.Role.TheVariants.{Client, Cpu, Interrupt}
use Rattle.co_program.specs.Actors.{actor_count, client_count, role_of, cpu_of}
use Rattle.co_program.specs.Action.{spec_at}
use Rattle.co_world.specs.World.{World}
use Rattle.co_world.specs.Blocked.{is_service_of}
use Rattle.co_world.specs.Laws.{actors_of}
use Rattle.co_world.specs.Placed.{IsPlaced, in_slot, server_slot}
use Rattle.co_core.specs.Stands.{ShowsStored}
use Rattle.co_wheel.specs.Callouts.{is_entry, is_serviced}
use Rattle.co_core.specs.Stored.{Stored, wheel_at, stand_at}
use Rattle.co_world.proofs.kept.Invariant.{RunFits, IsTaken, IsRunning, IsOver, IsBetween, cpu_of_run, service_of, serving_of, has_popped, states_of, cursors_of, queues_of}
use Rattle.co_world.proofs.basics.Roles.{role_cpu_of, role_interrupt}
use Rattle.co_world.proofs.kept.Services.{service_actor}
use Rattle.co_world.proofs.kept.BySteps.{IsSteady}
use Rattle.co_core.proofs.tables.Values.{read}

abbrev is_of : ℕ → ℕ → InService → Bool
is_of i n v = (v.i == i) && (v.n == n)

-- ---- who is in service

abbrev has_service : ℕ → ℕ → Stage → Bool
has_service i n (Locking v) = is_of i n v
has_service i n (Beginning v) = is_of i n v
has_service i n (Unlocking v acts) = is_of i n v
has_service i n (Firing v acts) = is_of i n v
has_service i n (Releasing v) = is_of i n v
has_service i n (Ending v) = is_of i n v
has_service i n stage = false

taken-serviced : (r : Run) (n cpu : ℕ) → IsTaken r n cpu → serviced r ≡ Some n
taken-serviced run.Idle n cpu h = absurd h
taken-serviced (run.Picked a) n cpu h = ap (λ (k : ℕ). Some k) h.0
taken-serviced (run.Cancelled m c) n cpu h = ap (λ (k : ℕ). Some k) h.0
taken-serviced (run.Running m c) n cpu h = absurd h

running-serviced : (r : Run) (n cpu : ℕ) → IsRunning r n cpu → serviced r ≡ Some n
running-serviced run.Idle n cpu h = absurd h
running-serviced (run.Picked a) n cpu h = absurd h
running-serviced (run.Cancelled m c) n cpu h = absurd h
running-serviced (run.Running m c) n cpu h = ap (λ (k : ℕ). Some k) h.0

over-serviced : (r : Run) (n cpu : ℕ) → IsOver r n cpu → serviced r ≡ Some n
over-serviced run.Idle n cpu h = absurd h
over-serviced (run.Picked a) n cpu h = absurd h
over-serviced (run.Cancelled m c) n cpu h = ap (λ (k : ℕ). Some k) h.0
over-serviced (run.Running m c) n cpu h = ap (λ (k : ℕ). Some k) h.0

-- a stage that services has its service's number in the run
stage-number : (states : ℕ → State) (cpu : ℕ) (i n : ℕ) (stage : Stage) → RunFits states cpu stage → has_service i n stage ≡ true → serviced (states i).run ≡ Some n
stage-number states cpu i n stage fits is = go stage fits is where
  named : (v : InService) → serviced (states v.i).run ≡ Some v.n → is_of i n v ≡ true → serviced (states i).run ≡ Some n
  named v h is =
      let both = both_true (v.i == i) (v.n == n) is in
      let callout_is : v.i ≡ i = eqb-true v.i i both.0 in
      let number_is : v.n ≡ n = eqb-true v.n n both.1 in
      subst (λ j. serviced (states j).run ≡ Some n) callout_is (h ∙ ap (λ (k : ℕ). Some k) number_is)

  go : (stage : Stage) → RunFits states cpu stage → has_service i n stage ≡ true → serviced (states i).run ≡ Some n
  go Ready fits is = cc
  go (Waiting m took) fits is = cc
  go (Popping act) fits is = cc
  go (Picking v) fits is = cc
  go (Locking v) fits is = named v (taken-serviced (states v.i).run v.n cpu fits) is
  go (Beginning v) fits is = named v (taken-serviced (states v.i).run v.n cpu fits) is
  go (Unlocking v acts) fits is = named v (running-serviced (states v.i).run v.n cpu fits) is
  go (Firing v acts) fits is = named v (running-serviced (states v.i).run v.n cpu fits) is
  go (Releasing v) fits is = named v (over-serviced (states v.i).run v.n cpu fits) is
  go (Ending v) fits is = named v (over-serviced (states v.i).run v.n cpu fits) is
  go (Freeing v drain next) fits is = cc
  go (Drained v acts) fits is = cc

-- a run in service is that of a stage that services
stage-of-run : (states : ℕ → State) (cpu i m : ℕ) (v : InService) (stage : Stage) → RunFits states cpu stage → IsBetween stage → service_of stage ≡ Some v → v.i ≡ i → serviced (states i).run ≡ Some m → has_service i m stage ≡ true
stage-of-run states cpu i m v stage fits between is callout_is serving = go stage fits between is where
  named : (u : InService) → serviced (states u.i).run ≡ Some u.n → u ≡ v → is_of i m u ≡ true
  named u h same =
      let here : u.i ≡ i = ap (λ (z : InService). z.i) same ∙ callout_is in
      let number_is : Some u.n ≡ Some m = sym h ∙ (ap (λ j. serviced (states j).run) here ∙ serving) in
      let number_same : u.n ≡ m = cc in
      rw (eq-eqb u.i i here, eq-eqb u.n m number_same) refl

  go : (stage : Stage) → RunFits states cpu stage → IsBetween stage → service_of stage ≡ Some v → has_service i m stage ≡ true
  go Ready fits between is = cc
  go (Waiting n took) fits between is = cc
  go (Popping act) fits between is = cc
  go (Picking u) fits between is = absurd between
  go (Locking u) fits between is = named u (taken-serviced (states u.i).run u.n cpu fits) (let same : u ≡ v = cc in same)
  go (Beginning u) fits between is = named u (taken-serviced (states u.i).run u.n cpu fits) (let same : u ≡ v = cc in same)
  go (Unlocking u acts) fits between is = named u (running-serviced (states u.i).run u.n cpu fits) (let same : u ≡ v = cc in same)
  go (Firing u acts) fits between is = named u (running-serviced (states u.i).run u.n cpu fits) (let same : u ≡ v = cc in same)
  go (Releasing u) fits between is = named u (over-serviced (states u.i).run u.n cpu fits) (let same : u ≡ v = cc in same)
  go (Ending u) fits between is = named u (over-serviced (states u.i).run u.n cpu fits) (let same : u ≡ v = cc in same)
  go (Freeing u drain next) fits between is = absurd between
  go (Drained u acts) fits between is = cc

serviced-somewhere : (r : Run) (n : ℕ) → is_service_of n (serviced r) ≡ true → (cpu : ℕ) × (cpu_of_run r ≡ Some cpu) × (serviced r ≡ Some n)
serviced-somewhere run.Idle n h = cc
serviced-somewhere (run.Picked a) n h = (a.cpu, refl, ap (λ (k : ℕ). Some k) (eqb-true a.n n h))
serviced-somewhere (run.Cancelled m c) n h = (c, refl, ap (λ (k : ℕ). Some k) (eqb-true m n h))
serviced-somewhere (run.Running m c) n h = (c, refl, ap (λ (k : ℕ). Some k) (eqb-true m n h))

-- ---- what is in a slot

-- between two steps a slot has what its server's stage has in service
slot-has : (i n : ℕ) (stage : Stage) → IsBetween stage → is_entry (in_slot stage) i n ≡ has_service i n stage
slot-has i n Ready between = refl
slot-has i n (Waiting m took) between = refl
slot-has i n (Popping act) between = refl
slot-has i n (Picking v) between = absurd between
slot-has i n (Locking v) between = refl
slot-has i n (Beginning v) between = refl
slot-has i n (Unlocking v acts) between = refl
slot-has i n (Firing v acts) between = refl
slot-has i n (Releasing v) between = refl
slot-has i n (Ending v) between = refl
slot-has i n (Freeing v drain next) between = absurd between
slot-has i n (Drained v acts) between = refl

popped-serves : (stage : Stage) → IsBetween stage → has_popped stage ≡ true → (v : InService) × (service_of stage ≡ Some v)
popped-serves Ready between is = cc
popped-serves (Waiting m took) between is = cc
popped-serves (Popping act) between is = cc
popped-serves (Picking v) between is = absurd between
popped-serves (Locking v) between is = (v, refl)
popped-serves (Beginning v) between is = (v, refl)
popped-serves (Unlocking v acts) between is = (v, refl)
popped-serves (Firing v acts) between is = (v, refl)
popped-serves (Releasing v) between is = (v, refl)
popped-serves (Ending v) between is = (v, refl)
popped-serves (Freeing v drain next) between is = absurd between
popped-serves (Drained v acts) between is = cc

entry-some : (slot : Option Due) (i n : ℕ) → is_entry slot i n ≡ true → is_some slot ≡ true
entry-some None i n h = cc
entry-some (Some d) i n h = refl

either : (a b : Bool) → (a || b) ≡ true → (a ≡ true) ⊎ (b ≡ true)
either true b h = inl refl
either false b h = inr h

or-right : (a : Bool) {b : Bool} → b ≡ true → (a || b) ≡ true
or-right true h = refl
or-right false h = h

run-at : (r : Run) (at cpu : ℕ) → cpu_of_run r ≡ Some at → is_free_at r cpu ≡ true → at ≡ cpu
run-at run.Idle at cpu h free = cc
run-at (run.Picked a) at cpu h free = let same : a.cpu ≡ at = cc in sym same ∙ eqb-true a.cpu cpu free
run-at (run.Cancelled m c) at cpu h free = let same : c ≡ at = cc in sym same ∙ eqb-true c cpu free
run-at (run.Running m c) at cpu h free = let same : c ≡ at = cc in sym same ∙ eqb-true c cpu free

same-bool : (a b : Bool) → (a ≡ true → b ≡ true) → (b ≡ true → a ≡ true) → a ≡ b
same-bool true b to from = sym (to refl)
same-bool false true to from = from refl
same-bool false false to from = refl

module _ (s : Script) (y : Stored) (w : World) (stored : ShowsStored s y w) (placed : IsPlaced s w) (steady : IsSteady s w) (i n : ℕ) (within : i < length s.timers) where
  abbrev stand : ℕ
  stand = (w.timers i).stand

  abbrev queue : TimerQueue
  queue = (w.cpus stand).queue

  abbrev stage : ℕ → Stage
  stage b = (w.actors b).cursor.stage

  -- what a server's slot has is in service
  from-slot : (b : ℕ) (role : Role) → role_of s b ≡ role → cpu_of s role ≡ stand → serving_of queue role ≡ is_some (server_slot role queue) → is_entry (server_slot role queue) i n ≡ true → is_service_of n (serviced (w.timers i).state.run) ≡ true
  from-slot b role is at same has =
      let busy_as : serving_of (queues_of w (cpu_of s role)) role ≡ has_popped (stage b) =
      subst (λ (r : Role). serving_of (queues_of w (cpu_of s r)) r ≡ has_popped (stage b)) is (steady.good.holds.busy b) in
      let busy_here : serving_of queue role ≡ has_popped (stage b) = subst (λ (cpu : ℕ). serving_of (queues_of w cpu) role ≡ has_popped (stage b)) at busy_as in
      let busy : is_some (server_slot role queue) ≡ has_popped (stage b) = sym same ∙ busy_here in
      let popped = popped-serves (stage b) (steady.between b) (sym busy ∙ entry-some (server_slot role queue) i n has) in
      let actor = service_actor s (states_of w) (cursors_of w) steady.good.holds.serving b popped.0 (steady.good.holds.roles b) popped.1 in
      let there = (steady.good.holds.serving.served popped.0.i (cpu_of s (role_of s b)) actor.0).3 in
      let may : b < actor_count s = subst (λ (x : ℕ). x < actor_count s) (sym actor.1) there in
      let slot : server_slot role queue ≡ in_slot (stage b) =
      subst (λ (cpu : ℕ). server_slot role (w.cpus cpu).queue ≡ in_slot (stage b)) at (subst (λ (r : Role). server_slot r (w.cpus (cpu_of s r)).queue ≡ in_slot (stage b)) is (placed.serves b may)) in
      let serves : has_service i n (stage b) ≡ true = sym (slot-has i n (stage b) (steady.between b)) ∙ (ap (λ o. is_entry o i n) (sym slot) ∙ has) in
      let number = stage-number (states_of w) (cpu_of s (role_of s b)) i n (stage b) (steady.good.holds.serving.serves b) serves in
      ap (is_service_of n) number ∙ eq-eqb n n refl

  to-service : (is_entry queue.serving i n || is_entry queue.directing i n) ≡ true → is_service_of n (serviced (w.timers i).state.run) ≡ true
  to-service has = go (either (is_entry queue.serving i n) (is_entry queue.directing i n) has) where
    go : (is_entry queue.serving i n ≡ true) ⊎ (is_entry queue.directing i n ≡ true) → is_service_of n (serviced (w.timers i).state.run) ≡ true
    go (inl soft) = from-slot (client_count s + stand) (Cpu stand) (role_cpu_of s stand (placed.cpus_known i within).stand) refl refl soft
    go (inr urgent) = from-slot (client_count s + s.cpus + stand) (Interrupt stand) (role_interrupt s stand) refl refl urgent

  to-slot : is_service_of n (serviced (w.timers i).state.run) ≡ true → (is_entry queue.serving i n || is_entry queue.directing i n) ≡ true
  to-slot is =
      let somewhere = serviced-somewhere (w.timers i).state.run n is in
      let at : somewhere.0 ≡ stand = run-at (w.timers i).state.run somewhere.0 stand somewhere.1 (placed.runs i) in
      let found = steady.good.holds.serving.served i somewhere.0 somewhere.1 in
      let b : ℕ = server (actors_of s) (spec_at s i) somewhere.0 in
      let runs = service_actor s (states_of w) (cursors_of w) steady.good.holds.serving b found.0 (steady.good.holds.roles b) found.1 in
      let same : Some (cpu_of s (role_of s b)) ≡ Some somewhere.0 = sym runs.0 ∙ (ap (λ j. cpu_of_run (w.timers j).state.run) found.2 ∙ somewhere.1) in
      let cpu_is : cpu_of s (role_of s b) ≡ stand = (let same_cpu : cpu_of s (role_of s b) ≡ somewhere.0 = cc in same_cpu ∙ at) in
      let serves : has_service i n (stage b) ≡ true = stage-of-run (states_of w) (cpu_of s (role_of s b)) i n found.0 (stage b) (steady.good.holds.serving.serves b) (steady.between b) found.1 found.2 somewhere.2 in
      go (role_of s b) (subst (λ (cpu : ℕ). is_entry (server_slot (role_of s b) (w.cpus cpu).queue) i n ≡ true) cpu_is (ap (λ o. is_entry o i n) (placed.serves b found.3) ∙ (slot-has i n (stage b) (steady.between b) ∙ serves))) where
        go : (role : Role) → is_entry (server_slot role queue) i n ≡ true → (is_entry queue.serving i n || is_entry queue.directing i n) ≡ true
        go (Client c) has = cc
        go (Cpu x) has = rw has refl
        go (Interrupt x) has = or-right (is_entry queue.serving i n) has

  -- the wheel at which the callout's record stands has it in service exactly where its run says so
  pub in-service : (cpu : ℕ) → cpu ≡ stand_at y i → is_serviced (wheel_at y cpu).callouts.serving (wheel_at y cpu).callouts.directing i n ≡ is_service_of n (serviced (w.timers i).state.run)
  in-service cpu at =
      let stand_is : cpu ≡ stand = at ∙ read y.stands (length s.timers) (λ i. (w.timers i).stand) i 0 stored.each_stand within in
      let shows = (stored.each_wheel stand (placed.cpus_known i within).stand).shows in
      ap (λ (x : ℕ). is_serviced (wheel_at y x).callouts.serving (wheel_at y x).callouts.directing i n) stand_is
      ∙ (ap (λ o. is_entry o i n || is_entry (wheel_at y stand).callouts.directing i n) (sym shows.serving)
      ∙ (ap (λ o. is_entry queue.serving i n || is_entry o i n) (sym shows.directing)
      ∙ same-bool (is_entry queue.serving i n || is_entry queue.directing i n) (is_service_of n (serviced (w.timers i).state.run)) to-service to-slot))
