-- Every step keeps each service under way that of its callout's run.
use Rattle.std.proofs.Common.{◌≡◌, ℕ, List, ◌<◌, ◌⊎◌, true, inl, inr, refl, sym, ap, subst, ◌∙◌, Option, Some}
use Rattle.co_object.specs.declared.Run.{Run}
use Rattle.co_object.specs.declared.Run.TheVariants as run
use Rattle.co_object.specs.declared.State.{State}
use Rattle.co_object.specs.Stand.{is_idle}
use Rattle.co_object.specs.History.{server}
use Rattle.co_object.specs.Scan.{is_direct}
use Rattle.co_lock.specs.declared.held.Held.{Held}
use Rattle.co_program.specs.declared.Script.{Script}
use Rattle.co_program.specs.Actors.{role_of, cpu_of, actor_count}
use Rattle.co_program.specs.declared.Task.{Task}
use Rattle.co_program.specs.declared.Role.{Role}
use Rattle.co_program.specs.Stages.{Stage, Ready, Waiting, Popping, Picking, Locking, Beginning, Unlocking, Firing, Releasing, Ending, Freeing, Drained}
use Rattle.co_program.specs.declared.InService.{InService}
use Rattle.co_program.specs.Cursor.{Cursor}
use Rattle.co_program.specs.Action.{spec_at}
use Rattle.co_world.specs.Step.{are_direct}
use Rattle.co_world.specs.Laws.{actors_of}
use Rattle.co_world.proofs.kept.Invariant.{IsServing, RunFits, IsTaken, IsRunning, IsOver, IsBetween, FitsRole, service_of, serves_direct, cpu_of_run}
use Rattle.co_world.proofs.kept.Operations.{GoesOn}
use Rattle.co_world.proofs.basics.Changes.{IsAt, decide, at_all}
use Rattle.co_world.proofs.basics.Roles.{server_of_lane}
use Rattle.co_world.proofs.kept.Servers.{IsServer, is_server}

-- the service of a stage, from the Pick's due on
abbrev pub in_service : Stage → Option InService
in_service (Picking v) = Some v
in_service stage = service_of stage

pub between_service : (stage : Stage) (v : InService) → IsBetween stage → in_service stage ≡ Some v → service_of stage ≡ Some v
between_service (Picking x) v h is = absurd h
between_service Ready v h is = is
between_service (Waiting n took) v h is = is
between_service (Popping act) v h is = is
between_service (Locking x) v h is = is
between_service (Beginning x) v h is = is
between_service (Unlocking x acts) v h is = is
between_service (Firing x acts) v h is = is
between_service (Releasing x) v h is = is
between_service (Ending x) v h is = is
between_service (Freeing x drain next) v h is = is
between_service (Drained x acts) v h is = is

pub runs_on : (states after : ℕ → State) (cpu : ℕ) (stage : Stage) → ((v : InService) → in_service stage ≡ Some v → GoesOn (states v.i).run (after v.i).run) → RunFits states cpu stage → RunFits after cpu stage
runs_on states after cpu (Picking v) on h = sym (on v refl).idle ∙ h
runs_on states after cpu (Locking v) on h = (on v refl).taken v.n cpu h
runs_on states after cpu (Beginning v) on h = (on v refl).taken v.n cpu h
runs_on states after cpu (Unlocking v acts) on h = (on v refl).running v.n cpu h
runs_on states after cpu (Firing v acts) on h = (on v refl).running v.n cpu h
runs_on states after cpu (Releasing v) on h = (on v refl).over v.n cpu h
runs_on states after cpu (Ending v) on h = (on v refl).over v.n cpu h
runs_on states after cpu Ready on h = tt
runs_on states after cpu (Waiting n took) on h = tt
runs_on states after cpu (Popping act) on h = tt
runs_on states after cpu (Freeing v drain next) on h = tt
runs_on states after cpu (Drained v acts) on h = tt

taken_cpu : (r : Run) (n cpu : ℕ) → IsTaken r n cpu → cpu_of_run r ≡ Some cpu
taken_cpu run.Idle n cpu h = absurd h
taken_cpu (run.Picked a) n cpu h = ap Some h.1
taken_cpu (run.Cancelled m at) n cpu h = ap Some h.1
taken_cpu (run.Running m at) n cpu h = absurd h

running_cpu : (r : Run) (n cpu : ℕ) → IsRunning r n cpu → cpu_of_run r ≡ Some cpu
running_cpu run.Idle n cpu h = absurd h
running_cpu (run.Picked a) n cpu h = absurd h
running_cpu (run.Cancelled m at) n cpu h = absurd h
running_cpu (run.Running m at) n cpu h = ap Some h.1

over_cpu : (r : Run) (n cpu : ℕ) → IsOver r n cpu → cpu_of_run r ≡ Some cpu
over_cpu run.Idle n cpu h = absurd h
over_cpu (run.Picked a) n cpu h = absurd h
over_cpu (run.Cancelled m at) n cpu h = ap Some h.1
over_cpu (run.Running m at) n cpu h = ap Some h.1

-- the CPU of a service under way
pub service_cpu : (states : ℕ → State) (cpu : ℕ) (stage : Stage) (v : InService) → service_of stage ≡ Some v → RunFits states cpu stage → cpu_of_run (states v.i).run ≡ Some cpu
service_cpu states cpu (Locking x) v is h = let same : x ≡ v = cc in subst (λ (y : InService). cpu_of_run (states y.i).run ≡ Some cpu) same (taken_cpu (states x.i).run x.n cpu h)
service_cpu states cpu (Beginning x) v is h = let same : x ≡ v = cc in subst (λ (y : InService). cpu_of_run (states y.i).run ≡ Some cpu) same (taken_cpu (states x.i).run x.n cpu h)
service_cpu states cpu (Unlocking x acts) v is h = let same : x ≡ v = cc in subst (λ (y : InService). cpu_of_run (states y.i).run ≡ Some cpu) same (running_cpu (states x.i).run x.n cpu h)
service_cpu states cpu (Firing x acts) v is h = let same : x ≡ v = cc in subst (λ (y : InService). cpu_of_run (states y.i).run ≡ Some cpu) same (running_cpu (states x.i).run x.n cpu h)
service_cpu states cpu (Releasing x) v is h = let same : x ≡ v = cc in subst (λ (y : InService). cpu_of_run (states y.i).run ≡ Some cpu) same (over_cpu (states x.i).run x.n cpu h)
service_cpu states cpu (Ending x) v is h = let same : x ≡ v = cc in subst (λ (y : InService). cpu_of_run (states y.i).run ≡ Some cpu) same (over_cpu (states x.i).run x.n cpu h)
service_cpu states cpu (Picking x) v is h = cc
service_cpu states cpu Ready v is h = cc
service_cpu states cpu (Waiting n took) v is h = cc
service_cpu states cpu (Popping act) v is h = cc
service_cpu states cpu (Freeing x drain next) v is h = cc
service_cpu states cpu (Drained x acts) v is h = cc

-- and its actor serves its lane
pub service_lane : (s : Script) (role : Role) (left : List Task) (held : Option Held) (stage : Stage) (v : InService) → service_of stage ≡ Some v → FitsRole s role left held stage → IsServer role × (is_direct (are_direct s) v.i ≡ serves_direct role)
service_lane s role left held (Locking x) v is fits = let same : x ≡ v = cc in (is_server s role held (Locking x) refl fits.hold, subst (λ (y : InService). is_direct (are_direct s) y.i ≡ serves_direct role) same fits.lane)
service_lane s role left held (Beginning x) v is fits = let same : x ≡ v = cc in (is_server s role held (Beginning x) refl fits.hold, subst (λ (y : InService). is_direct (are_direct s) y.i ≡ serves_direct role) same fits.lane)
service_lane s role left held (Unlocking x acts) v is fits = let same : x ≡ v = cc in (is_server s role held (Unlocking x acts) refl fits.hold, subst (λ (y : InService). is_direct (are_direct s) y.i ≡ serves_direct role) same fits.lane)
service_lane s role left held (Firing x acts) v is fits = let same : x ≡ v = cc in (is_server s role held (Firing x acts) refl fits.hold, subst (λ (y : InService). is_direct (are_direct s) y.i ≡ serves_direct role) same fits.lane)
service_lane s role left held (Releasing x) v is fits = let same : x ≡ v = cc in (is_server s role held (Releasing x) refl fits.hold, subst (λ (y : InService). is_direct (are_direct s) y.i ≡ serves_direct role) same fits.lane)
service_lane s role left held (Ending x) v is fits = let same : x ≡ v = cc in (is_server s role held (Ending x) refl fits.hold, subst (λ (y : InService). is_direct (are_direct s) y.i ≡ serves_direct role) same fits.lane)
service_lane s role left held (Picking x) v is fits = cc
service_lane s role left held Ready v is fits = cc
service_lane s role left held (Waiting n took) v is fits = cc
service_lane s role left held (Popping act) v is fits = cc
service_lane s role left held (Freeing x drain next) v is fits = cc
service_lane s role left held (Drained x acts) v is fits = cc

idle_cpu : (r : Run) (cpu : ℕ) → is_idle r ≡ true → cpu_of_run r ≡ Some cpu → ⊥
idle_cpu run.Idle cpu h is = cc
idle_cpu (run.Picked a) cpu h is = cc
idle_cpu (run.Cancelled n at) cpu h is = cc
idle_cpu (run.Running n at) cpu h is = cc

module _ (s : Script) (states : ℕ → State) (cursors : ℕ → Cursor) (serving : IsServing s states cursors) where
  -- the actor of a service under way
  pub service_actor : (b : ℕ) (v : InService) → FitsRole s (role_of s b) (cursors b).left (cursors b).hold (cursors b).stage → service_of (cursors b).stage ≡ Some v →
      (cpu_of_run (states v.i).run ≡ Some (cpu_of s (role_of s b))) × (b ≡ server (actors_of s) (spec_at s v.i) (cpu_of s (role_of s b)))
  service_actor b v fits is =
      let lane = service_lane s (role_of s b) (cursors b).left (cursors b).hold (cursors b).stage v is fits in
      (service_cpu states (cpu_of s (role_of s b)) (cursors b).stage v is (serving.serves b), server_of_lane s b v.i lane.0 lane.1)

  -- no two actors have one callout in service
  pub alone : (roles : (b : ℕ) → FitsRole s (role_of s b) (cursors b).left (cursors b).hold (cursors b).stage) (a b : ℕ) (v x : InService) →
      service_of (cursors a).stage ≡ Some v → service_of (cursors b).stage ≡ Some x → x.i ≡ v.i → b ≡ a
  alone roles a b v x at bt same =
      let here : (cpu_of_run (states v.i).run ≡ Some (cpu_of s (role_of s a))) × (a ≡ server (actors_of s) (spec_at s v.i) (cpu_of s (role_of s a))) = service_actor a v (roles a) at in
      let there : (cpu_of_run (states x.i).run ≡ Some (cpu_of s (role_of s b))) × (b ≡ server (actors_of s) (spec_at s x.i) (cpu_of s (role_of s b))) = service_actor b x (roles b) bt in
      let moved : (cpu_of_run (states v.i).run ≡ Some (cpu_of s (role_of s b))) × (b ≡ server (actors_of s) (spec_at s v.i) (cpu_of s (role_of s b))) =
      subst (λ (i : ℕ). (cpu_of_run (states i).run ≡ Some (cpu_of s (role_of s b))) × (b ≡ server (actors_of s) (spec_at s i) (cpu_of s (role_of s b)))) same there in
      let one : cpu_of s (role_of s b) ≡ cpu_of s (role_of s a) = cc (here.0, moved.0) in
      moved.1 ∙ ap (server (actors_of s) (spec_at s v.i)) one ∙ sym here.1

  -- none has a callout at rest
  pub none_serves : (i b : ℕ) (x : InService) → is_idle (states i).run ≡ true → service_of (cursors b).stage ≡ Some x → x.i ≡ i → ⊥
  none_serves i b x idle bt same = idle_cpu (states i).run (cpu_of s (role_of s b)) idle (subst (λ (k : ℕ). cpu_of_run (states k).run ≡ Some (cpu_of s (role_of s b))) same (service_cpu states (cpu_of s (role_of s b)) (cursors b).stage x bt (serving.serves b)))

  module _ (after : ℕ → State) (cursors' : ℕ → Cursor) (a : ℕ) (to : Cursor) (at : IsAt cursors a to cursors') where
    -- runs go on, and the actor stays in its service, if any
    pub serving_same : ((j : ℕ) → GoesOn (states j).run (after j).run) → service_of to.stage ≡ service_of (cursors a).stage → RunFits after (cpu_of s (role_of s a)) to.stage → IsServing s after cursors'
    serving_same on same fits = record {
      serves = at_all (λ b (c : Cursor). RunFits after (cpu_of s (role_of s b)) c.stage) cursors a to cursors' at fits
          (λ b other. runs_on states after (cpu_of s (role_of s b)) (cursors b).stage (λ v is. on v.i) (serving.serves b));
      served = λ i cpu is.
          let before = serving.served i cpu ((on i).cpu ∙ is) in
          let stays : service_of (cursors' (server (actors_of s) (spec_at s i) cpu)).stage ≡ service_of (cursors (server (actors_of s) (spec_at s i) cpu)).stage =
          at_all (λ b (c : Cursor). service_of c.stage ≡ service_of (cursors b).stage) cursors a to cursors' at same (λ b other. refl) (server (actors_of s) (spec_at s i) cpu) in
          (before.0, stays ∙ before.1, before.2, before.3);
    }

    -- the actor's own callout changes its run
    pub serving_turn : (i : ℕ) (state : State) → IsAt states i state after → a < actor_count s →
        ((b : ℕ) (v : InService) → (b ≡ a → ⊥) → in_service (cursors b).stage ≡ Some v → v.i ≡ i → ⊥) →
        ((v : InService) → service_of (cursors a).stage ≡ Some v → v.i ≡ i) →
        RunFits after (cpu_of s (role_of s a)) to.stage →
        ((cpu : ℕ) → cpu_of_run state.run ≡ Some cpu → (server (actors_of s) (spec_at s i) cpu ≡ a) × ((v : InService) × (service_of to.stage ≡ Some v) × (v.i ≡ i))) →
        IsServing s after cursors'
    serving_turn i state here may others own fits now = record {
      serves = at_all (λ b (c : Cursor). RunFits after (cpu_of s (role_of s b)) c.stage) cursors a to cursors' at fits
          (λ b other. runs_on states after (cpu_of s (role_of s b)) (cursors b).stage (λ v is. same_state v.i (λ e. others b v other is e)) (serving.serves b));
      served = λ j cpu is. served_at j cpu (decide j i) is;
    } where
      same_state : (j : ℕ) → (j ≡ i → ⊥) → GoesOn (states j).run (after j).run
      same_state j other = subst (λ (x : State). GoesOn (states j).run x.run) (sym (here.else j other)) (record { idle = refl; number = refl; free = λ cpu. refl; cpu = refl; taken = λ n cpu h. h; running = λ n cpu h. h; over = λ n cpu h. h })

      At : ℕ → ℕ → ℕ → Type 0
      At j cpu b = (v : InService) × (service_of (cursors' b).stage ≡ Some v) × (v.i ≡ j) × (b < actor_count s)

      stays : (j cpu b : ℕ) (v : InService) → (j ≡ i → ⊥) → (b ≡ a) ⊎ (b ≡ a → ⊥) → service_of (cursors b).stage ≡ Some v → v.i ≡ j → b < actor_count s → At j cpu b
      stays j cpu b v other (inl same) is number exists = absurd (other (sym number ∙ own v (subst (λ (k : ℕ). service_of (cursors k).stage ≡ Some v) same is)))
      stays j cpu b v other (inr else) is number exists = (v, ap (λ (c : Cursor). service_of c.stage) (at.else b else) ∙ is, number, exists)

      served_at : (j cpu : ℕ) → (j ≡ i) ⊎ (j ≡ i → ⊥) → cpu_of_run (after j).run ≡ Some cpu → At j cpu (server (actors_of s) (spec_at s j) cpu)
      served_at j cpu (inl same) is =
          let new = now cpu (ap (λ (x : State). cpu_of_run x.run) (sym (ap after same ∙ here.here)) ∙ is) in
          let actor : server (actors_of s) (spec_at s j) cpu ≡ a = ap (λ (k : ℕ). server (actors_of s) (spec_at s k) cpu) same ∙ new.0 in
          subst (At j cpu) (sym actor) (new.1.0, ap (λ (c : Cursor). service_of c.stage) at.here ∙ new.1.1, new.1.2 ∙ sym same, may)
      served_at j cpu (inr other) is =
          let before = serving.served j cpu (ap (λ (x : State). cpu_of_run x.run) (sym (here.else j other)) ∙ is) in
          stays j cpu (server (actors_of s) (spec_at s j) cpu) before.0 other (decide (server (actors_of s) (spec_at s j) cpu) a) before.1 before.2 before.3
