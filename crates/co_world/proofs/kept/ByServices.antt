-- The turns of a service keep what holds of the world: a pick, a begin and an end.
use Rattle.std.proofs.Common.{◌≡◌, ℕ, ◌≤◌, ◌<◌, ◌⊎◌, Bool, true, false, cond, List, length, inl, inr, refl, sym, ap, subst, ◌∙◌, arith, Option, Some, None}
use Rattle.std.specs.Prelude.{is_some, ◌==◌}
use Rattle.std.proofs.Common.{eqb-true, eq-eqb}
use Rattle.co_world.proofs.basics.Actions.{picks, opens, ends}
use Rattle.co_object.specs.declared.State.{State}
use Rattle.co_object.specs.declared.Arming.{Arming}
use Rattle.co_object.specs.declared.Run.{Run}
use Rattle.co_object.specs.declared.Reply.{Reply}
use Rattle.co_object.specs.declared.Reply.TheVariants.{Hold, Go, Skip, Ended}
use Rattle.co_object.specs.declared.Op.TheVariants.{Run as Serve}
use Rattle.co_object.specs.declared.Entry.{Entry}
use Rattle.co_object.specs.Stand.{off, is_free_at, stand_of, listed_cpu, Listed, Deferred}
use Rattle.co_object.proofs.PassageOnce.{stands}
use Rattle.co_program.specs.declared.Script.{Script}
use Rattle.co_program.specs.Actors.{role_of, cpu_of, acts_at, actor_count}
use Rattle.co_program.specs.declared.Role.{Role}
use Rattle.co_program.specs.Stages.{Stage, Picking, Locking, Beginning, Unlocking, Releasing, Ending, Freeing}
use Rattle.co_program.specs.declared.InService.{InService}
use Rattle.co_program.specs.Cursor.{Cursor}
use Rattle.co_program.specs.declared.PendingInsert.{PendingInsert}
use Rattle.co_program.specs.Action.{Asks, action_for, spec_at}
use Rattle.co_program.specs.declared.Asked.TheVariants.{Callout}
use Rattle.co_program.specs.Advance.{advance_callout}
use Rattle.co_program.specs.Scripts.{IsScript}
use Rattle.co_world.specs.World.{World}
use Rattle.co_world.specs.Step.{notes_down, enters, note_of}
use Rattle.co_world.proofs.kept.Invariant.{Holds, IsListed, IsCarried, FitsRole, states_of, queues_of, cursors_of, carries, in_hand, in_stage, has_popped, under_way, service_of}
use Rattle.co_world.proofs.basics.Changes.{IsAt, note_at, state_at}
use Rattle.co_world.proofs.basics.Actions.{IsAction}
use Rattle.co_world.proofs.kept.Operations.{Did, keeps}
use Rattle.co_world.proofs.kept.Operations as deed
use Rattle.co_world.proofs.kept.Stages.{Fits, fits_callout}
use Rattle.co_world.proofs.kept.Listed.{Nobody, carried_state, unlisted}
use Rattle.co_world.proofs.kept.ByOwnSteps.{callout_view, holds_turn, hand_none}
use Rattle.co_object.specs.declared.RunOp.{RunOp}
use Rattle.co_object.specs.declared.RunOp.TheVariants.{Pick, Begin, End}
use Rattle.co_object.specs.declared.Run.TheVariants as run
use Rattle.co_object.specs.declared.Next.{Next}
use Rattle.co_object.specs.Stand.{is_idle}
use Rattle.co_object.specs.History.{server}
use Rattle.co_object.specs.Scan.{is_direct}
use Rattle.co_object.specs.Serve.{next_of}
use Rattle.co_program.specs.declared.Act.{Act}
use Rattle.co_program.specs.Action.{firing}
use Rattle.co_program.specs.Advance.{service_picked, service_begun, service_ended, parcel_of}
use Rattle.co_world.specs.Step.{are_direct}
use Rattle.co_world.specs.Laws.{actors_of}
use Rattle.co_world.proofs.kept.Invariant.{IsBetween, RunFits, IsTaken, IsRunning, IsOver, cpu_of_run, serves_direct}
use Rattle.co_world.proofs.kept.Services.{in_service, between_service, serving_turn, none_serves, alone}
use Rattle.co_world.proofs.kept.Listed.{no_out, listed_off, off_listed}
use Rattle.co_world.proofs.kept.ByCalls.{off_none}
use Rattle.co_world.proofs.kept.OutsideServices.{Runs, firing_runs}
use Rattle.co_world.proofs.kept.Servers.{IsServer, is_server}
use Rattle.co_world.proofs.basics.Roles.{server_of_lane}

eqb_other : (a b : ℕ) → (b == a) ≡ false → (a == b) ≡ false
eqb_other a b other = go (a == b) refl where
  go : (x : Bool) → (a == b) ≡ x → x ≡ false
  go true e = let back : (b == a) ≡ true = eq-eqb b a (sym (eqb-true a b e)) in cc
  go false e = refl

-- where an arming stands, by the CPU that has its callout
pub off_kept : (state t : State) → t.armed ≡ state.armed → ((x : ℕ) → is_free_at state.run x ≡ is_free_at t.run x) → off t ≡ off state
off_kept state t same free = ap (λ o. listed_cpu (stand_of o t.run)) same ∙ go state.armed where
  go : (o : Option Arming) → listed_cpu (stand_of o t.run) ≡ listed_cpu (stand_of o state.run)
  go None = refl
  go (Some arming) = ap (λ (b : Bool). listed_cpu (cond b (Listed arming.cpu) (Deferred arming.cpu))) (sym (free arming.cpu))

module _ (s : Script) (ok : IsScript s) (w : World) (holds : Holds s w None) (a act : ℕ) (v : InService) (op : RunOp) (t : State) (reply : Reply) (may : a < actor_count s)
    (is : action_for s a (cursors_of w a) ≡ Asks act (Callout v.i (Serve op))) (d : Did (spec_at s v.i) (states_of w v.i) (Serve op) reply t)
    (between : (b : ℕ) → (b ≡ a → ⊥) → IsBetween (cursors_of w b).stage) where
  abbrev from : Cursor
  from = record (cursors_of w a) { removed = None }

  abbrev role : Role
  role = role_of s a

  abbrev cpu : ℕ
  cpu = cpu_of s role

  abbrev made : Entry
  made = record { actor = a; act = act; op = Serve op; reply = reply }

  abbrev now : World
  now = notes_down s (enters w v.i t made) a (is_some (off t)) (note_of w v.i made)

  abbrev to : Cursor
  to = advance_callout s from v.i (is_some (off t)) (Serve op) reply from.stage

  view : (from.parcel ≡ None) × IsAction s role from from.stage (Asks act (Callout v.i (Serve op)))
  view = callout_view s a (cursors_of w a) act v.i (Serve op) is

  moved : IsAt (cursors_of w) a to (cursors_of now)
  moved = note_at s (enters w v.i t made) a (is_some (off t)) (note_of w v.i made)

  changed : IsAt (states_of w) v.i t (states_of now)
  changed = state_at w v.i t made

  to_fits : Fits s role to
  to_fits = fits_callout s ok role from.left from.act from.now from.hold None from.parcel from.stage act v.i (Serve op) (is_some (off t)) (states_of w v.i) t reply view.1 d (holds.roles a)

  -- the next stage of a service keeps what holds
  turned : (next : Stage) → to.stage ≡ next → to.left ≡ from.left → has_popped from.stage ≡ true → has_popped next ≡ true → under_way from.stage ≡ 1 → under_way next ≡ 1 →
      ((b : ℕ) (x : InService) → (b ≡ a → ⊥) → in_service (cursors_of w b).stage ≡ Some x → x.i ≡ v.i → ⊥) →
      ((x : InService) → service_of from.stage ≡ Some x → x.i ≡ v.i) →
      (((y : State) → y ≡ t → (states : ℕ → State) → states v.i ≡ y → RunFits states cpu next)) →
      ((k : ℕ) → cpu_of_run t.run ≡ Some k → (server (actors_of s) (spec_at s v.i) k ≡ a) × ((x : InService) × (service_of next ≡ Some x) × (x.i ≡ v.i))) →
      IsCarried s (states_of now) (queues_of now) (cursors_of now) None → Holds s now None
  turned next stage_is left_is popped_before popped_now under_before under_now others own fits at_now carried =
      holds_turn s w None holds now None a to moved (λ x. refl) (λ x. refl) to_fits (ap has_popped stage_is ∙ popped_now ∙ sym popped_before)
      (λ x e. (ap length left_is, ap under_way stage_is ∙ under_now ∙ sym under_before))
      (serving_turn s (states_of w) (cursors_of w) holds.serving (states_of now) (cursors_of now) a to moved v.i t changed may others own
      (subst (RunFits (states_of now) cpu) (sym stage_is) (fits t refl (states_of now) changed.here))
      (λ k e. (let new : (server (actors_of s) (spec_at s v.i) k ≡ a) × ((x : InService) × (service_of next ≡ Some x) × (x.i ≡ v.i)) = at_now k e in (new.0, (new.1.0, ap service_of stage_is ∙ new.1.1, new.1.2)))))
      carried

  carry : ((p : PendingInsert) → carries s a (cursors_of w a) ≡ Some p → p.i ≡ v.i) →
      ((n x u : ℕ) → IsListed (states_of w v.i) n x u → IsListed t n x u) ⊎ Nobody s (states_of w) (queues_of w) (cursors_of w) None holds.carried a v.i →
      (carries s a to ≡ None) ⊎ ((p : PendingInsert) × (carries s a to ≡ Some p) × (p.i ≡ v.i) × IsListed t p.n p.cpu p.due × Nobody s (states_of w) (queues_of w) (cursors_of w) None holds.carried a v.i) →
      ((x : ℕ) → off t ≡ Some x → (1 ≤ stands v.i (queues_of w x)) ⊎ (((p : PendingInsert) × (carries s a to ≡ Some p) × (p.i ≡ v.i)) ⊎ ((b : ℕ) × (p : PendingInsert) × (b ≡ a → ⊥) × (b < actor_count s) × (carries s b (cursors_of w b) ≡ Some p) × (p.i ≡ v.i)))) →
      IsCarried s (states_of now) (queues_of now) (cursors_of now) None
  carry only keep hand stays =
      carried_state s (states_of w) (queues_of w) (cursors_of w) None holds.carried (states_of now) (cursors_of now) a v.i t to changed moved may only (λ j e. cc) keep hand stays

  -- with nothing in hand an arming stays where it was
  stays_same : carries s a (cursors_of w a) ≡ None → off t ≡ off (states_of w v.i) → (x : ℕ) → off t ≡ Some x →
      (1 ≤ stands v.i (queues_of w x)) ⊎ (((p : PendingInsert) × (carries s a to ≡ Some p) × (p.i ≡ v.i)) ⊎ ((b : ℕ) × (p : PendingInsert) × (b ≡ a → ⊥) × (b < actor_count s) × (carries s b (cursors_of w b) ≡ Some p) × (p.i ≡ v.i)))
  stays_same none same x e = go (holds.carried.listed v.i x (sym same ∙ e)) where
    whose : (b : ℕ) (p : PendingInsert) → carries s b (cursors_of w b) ≡ Some p → b ≡ a → ⊥
    whose b p has own = let clash : Some p ≡ None = sym (subst (λ (k : ℕ). carries s k (cursors_of w k) ≡ Some p) own has) ∙ none in cc

    go : (1 ≤ stands v.i (queues_of w x)) ⊎ ((no_out ≡ Some v.i) ⊎ ((b : ℕ) × (p : PendingInsert) × (b < actor_count s) × (carries s b (cursors_of w b) ≡ Some p) × (p.i ≡ v.i))) →
        (1 ≤ stands v.i (queues_of w x)) ⊎ (((p : PendingInsert) × (carries s a to ≡ Some p) × (p.i ≡ v.i)) ⊎ ((b : ℕ) × (p : PendingInsert) × (b ≡ a → ⊥) × (b < actor_count s) × (carries s b (cursors_of w b) ≡ Some p) × (p.i ≡ v.i)))
    go (inl some) = inl some
    go (inr (inl removed)) = cc
    go (inr (inr has)) = inr (inr (has.0, has.1, whose has.0 has.1 has.3, has.2, has.3, has.4))

  -- the service's CPU and lane name its actor
  server_here : IsServer role → is_direct (are_direct s) v.i ≡ serves_direct role → (k : ℕ) → k ≡ cpu → server (actors_of s) (spec_at s v.i) k ≡ a
  server_here is_one lane k same = ap (server (actors_of s) (spec_at s v.i)) same ∙ sym (server_of_lane s a v.i is_one lane)

  -- ---- a pick

  module _ (stage_is : (cursors_of w a).stage ≡ Picking v) where
    pick_fits : FitsRole s role from.left from.hold (Picking v)
    pick_fits = subst (FitsRole s role from.left from.hold) stage_is (holds.roles a)

    idle : is_idle (states_of w v.i).run ≡ true
    idle = subst (RunFits (states_of w) cpu) stage_is (holds.serving.serves a)

    in_own_hand : carries s a (cursors_of w a) ≡ Some (record { act = v.act; i = v.i; n = v.n; due = v.at; cpu = cpu })
    in_own_hand = ap (λ (o : Option PendingInsert). in_hand cpu o (cursors_of w a).stage) view.0 ∙ ap (in_stage cpu) stage_is

    pick_others : (b : ℕ) (x : InService) → (b ≡ a → ⊥) → in_service (cursors_of w b).stage ≡ Some x → x.i ≡ v.i → ⊥
    pick_others b x other serves number = none_serves s (states_of w) (cursors_of w) holds.serving v.i b x idle (between_service (cursors_of w b).stage x (between b other) serves) number

    pick_nobody : Nobody s (states_of w) (queues_of w) (cursors_of w) None holds.carried a v.i
    pick_nobody = record {
      hands = λ b p other e number. other (holds.carried.once b a p (record { act = v.act; i = v.i; n = v.n; due = v.at; cpu = cpu }) e in_own_hand number);
      rests = λ x. holds.carried.apart a (record { act = v.act; i = v.i; n = v.n; due = v.at; cpu = cpu }) x in_own_hand;
    }

    pick_carried : (next : Stage) → to.stage ≡ next → to.parcel ≡ None → in_stage cpu next ≡ None → t.armed ≡ None → IsCarried s (states_of now) (queues_of now) (cursors_of now) None
    pick_carried next next_is parcel_is hand none =
        carry (λ p e. (let same : Some (record { act = v.act; i = v.i; n = v.n; due = v.at; cpu = cpu }) ≡ Some p = sym in_own_hand ∙ e in cc)) (inr pick_nobody)
        (inl (hand_none s a to parcel_is (ap (in_stage cpu) next_is ∙ hand))) (λ x e. (let clash : Some x ≡ None = sym e ∙ off_none t none in cc))

    pick_turn : (next : Stage) → to ≡ record from { stage = next } → Runs v next ⊎ (next ≡ Locking v) → t.armed ≡ None → cpu_of_run t.run ≡ Some cpu → ((states : ℕ → State) → states v.i ≡ t → RunFits states cpu next) → Holds s now None
    pick_turn next to_is kind none runs fits = go kind where
      stage_now : to.stage ≡ next
      stage_now = ap (λ (x : Cursor). x.stage) to_is

      parcel_now : to.parcel ≡ None
      parcel_now = ap (λ (x : Cursor). x.parcel) to_is ∙ view.0

      finish : (has_popped next ≡ true) → under_way next ≡ 1 → service_of next ≡ Some v → in_stage cpu next ≡ None → Holds s now None
      finish popped under service hand =
          turned next stage_now (ap (λ (x : Cursor). x.left) to_is) (ap has_popped stage_is) popped (ap under_way stage_is) under pick_others
          (λ x e. absurd (let clash : Some x ≡ None = sym e ∙ ap service_of stage_is in cc)) (λ y same states at. fits states (at ∙ same))
          (λ k e. (server_here (is_server s role from.hold (Picking v) refl pick_fits.hold) pick_fits.lane k (let same : Some k ≡ Some cpu = sym e ∙ runs in cc), (v, service, refl)))
          (pick_carried next stage_now parcel_now hand none)

      go : Runs v next ⊎ (next ≡ Locking v) → Holds s now None
      go (inl r) = finish r.popped r.under r.service (r.hands cpu)
      go (inr l) = finish (ap has_popped l) (ap under_way l) (ap service_of l) (ap (in_stage cpu) l)

    pub holds_pick : op ≡ Pick v.n cpu v.at → Holds s now None
    holds_pick op_is = go reply t refl refl (subst (λ (x : RunOp). Did (spec_at s v.i) (states_of w v.i) (Serve x) reply t) op_is d) where
      advance_pick : (r : Reply) → reply ≡ r → to ≡ service_picked s from v r
      advance_pick r says = ap (advance_callout s from v.i (is_some (off t)) (Serve op) reply) stage_is ∙ ap (service_picked s from v) says

      picked_by : (states : ℕ → State) (arming : Arming) → states v.i ≡ t → t.run ≡ run.Picked arming → arming.n ≡ v.n → arming.cpu ≡ cpu → IsTaken (states v.i).run v.n cpu
      picked_by states arming at runs n x = subst (λ (z : State). IsTaken z.run v.n cpu) (sym at) (subst (λ (r : Run). IsTaken r v.n cpu) (sym runs) (n, x))

      fired_by : (states : ℕ → State) → states v.i ≡ t → t.run ≡ run.Running v.n cpu → IsRunning (states v.i).run v.n cpu
      fired_by states at runs = subst (λ (z : State). IsRunning z.run v.n cpu) (sym at) (subst (λ (r : Run). IsRunning r v.n cpu) (sym runs) (refl, refl))

      go : (r : Reply) (u : State) → reply ≡ r → t ≡ u → Did (spec_at s v.i) (states_of w v.i) (Serve (Pick v.n cpu v.at)) r u → Holds s now None
      go r u says leaves (deed.holds n x at arming z rest n_is x_is lock none runs) =
          let t_runs : t.run ≡ run.Picked arming = ap (λ (y : State). y.run) leaves ∙ runs in
          pick_turn (Locking v) (advance_pick Hold says) (inr refl) (ap (λ (y : State). y.armed) leaves ∙ none) (ap cpu_of_run t_runs ∙ ap Some x_is) (λ states at. picked_by states arming at t_runs n_is x_is)
      go r u says leaves (deed.goes n x at func arg z rest lock none runs) =
          let t_runs : t.run ≡ run.Running v.n cpu = ap (λ (y : State). y.run) leaves ∙ runs in
          pick_turn (firing v from.hold (acts_at s.funcs func)) (advance_pick (Go func arg) says) (inl (firing_runs v from.hold (acts_at s.funcs func))) (ap (λ (y : State). y.armed) leaves ∙ none) (ap cpu_of_run t_runs)
          (λ states at. (firing_runs v from.hold (acts_at s.funcs func)).runs states cpu (fired_by states at t_runs))

  -- ---- a begin

  taken_free : (r : Run) (n k x : ℕ) → IsTaken r n k → is_free_at r x ≡ is_free_at (run.Running n k) x
  taken_free run.Idle n k x h = absurd h
  taken_free (run.Picked arming) n k x h = ap (λ (y : ℕ). y == x) h.1
  taken_free (run.Cancelled m at) n k x h = ap (λ (y : ℕ). y == x) h.1
  taken_free (run.Running m at) n k x h = absurd h

  -- the stage of a service that stays this one's
  service_others : service_of (cursors_of w a).stage ≡ Some v → (b : ℕ) (x : InService) → (b ≡ a → ⊥) → in_service (cursors_of w b).stage ≡ Some x → x.i ≡ v.i → ⊥
  service_others serves b x other serves_too number = other (alone s (states_of w) (cursors_of w) holds.serving holds.roles a b v x serves (between_service (cursors_of w b).stage x (between b other) serves_too) number)

  service_own : service_of (cursors_of w a).stage ≡ Some v → (x : InService) → service_of from.stage ≡ Some x → x.i ≡ v.i
  service_own serves x e = let same : Some x ≡ Some v = sym e ∙ serves in ap (λ (y : InService). y.i) (let one : x ≡ v = cc in one)

  module _ (stage_is : (cursors_of w a).stage ≡ Beginning v) where
    begin_fits : FitsRole s role from.left from.hold (Beginning v)
    begin_fits = subst (FitsRole s role from.left from.hold) stage_is (holds.roles a)

    serves_it : service_of (cursors_of w a).stage ≡ Some v
    serves_it = ap service_of stage_is

    no_hand : carries s a (cursors_of w a) ≡ None
    no_hand = hand_none s a (cursors_of w a) view.0 (ap (in_stage cpu) stage_is)

    begin_turn : (next : Stage) → to ≡ record from { stage = next } → has_popped next ≡ true → under_way next ≡ 1 → service_of next ≡ Some v → in_stage cpu next ≡ None → t.armed ≡ (states_of w v.i).armed →
        ((x : ℕ) → is_free_at (states_of w v.i).run x ≡ is_free_at t.run x) → cpu_of_run t.run ≡ Some cpu → ((states : ℕ → State) → states v.i ≡ t → RunFits states cpu next) → Holds s now None
    begin_turn next to_is popped under service hand same free runs fits =
        turned next (ap (λ (x : Cursor). x.stage) to_is) (ap (λ (x : Cursor). x.left) to_is) (ap has_popped stage_is) popped (ap under_way stage_is) under (service_others serves_it) (service_own serves_it)
        (λ y e states at. fits states (at ∙ e))
        (λ k e. (server_here (is_server s role from.hold (Beginning v) refl begin_fits.hold) begin_fits.lane k (let one : Some k ≡ Some cpu = sym e ∙ runs in cc), (v, service, refl)))
        (carry (λ p e. absurd (let clash : Some p ≡ None = sym e ∙ no_hand in cc)) (inl (λ n x u h. record { arming = h.arming; armed = same ∙ h.armed; number = h.number; place = h.place; due = h.due; free = sym (free x) ∙ h.free }))
        (inl (hand_none s a to (ap (λ (x : Cursor). x.parcel) to_is ∙ view.0) (ap (λ (x : Cursor). in_stage cpu x.stage) to_is ∙ hand)))
        (stays_same no_hand (off_kept (states_of w v.i) t same free)))

    pub holds_begin : op ≡ Begin v.n cpu → Holds s now None
    holds_begin op_is = go reply t refl refl (subst (λ (x : RunOp). Did (spec_at s v.i) (states_of w v.i) (Serve x) reply t) op_is d) where
      advance_begin : (r : Reply) → reply ≡ r → to ≡ service_begun s from v r
      advance_begin r says = ap (advance_callout s from v.i (is_some (off t)) (Serve op) reply) stage_is ∙ ap (service_begun s from v) says

      running_by : (states : ℕ → State) → states v.i ≡ t → t.run ≡ run.Running v.n cpu → IsRunning (states v.i).run v.n cpu
      running_by states at runs = subst (λ (z : State). IsRunning z.run v.n cpu) (sym at) (subst (λ (r : Run). IsRunning r v.n cpu) (sym runs) (refl, refl))

      over_by : (states : ℕ → State) → states v.i ≡ t → t.run ≡ run.Cancelled v.n cpu → IsOver (states v.i).run v.n cpu
      over_by states at runs = subst (λ (z : State). IsOver z.run v.n cpu) (sym at) (subst (λ (r : Run). IsOver r v.n cpu) (sym runs) (refl, refl))

      go : (r : Reply) (u : State) → reply ≡ r → t ≡ u → Did (spec_at s v.i) (states_of w v.i) (Serve (Begin v.n cpu)) r u → Holds s now None
      go r u says leaves (deed.begins n x func arg z same taken runs) = at_lock (spec_at s v.i).returns_unlocked refl where
        t_runs : t.run ≡ run.Running v.n cpu
        t_runs = ap (λ (y : State). y.run) leaves ∙ runs

        t_same : t.armed ≡ (states_of w v.i).armed
        t_same = ap (λ (y : State). y.armed) leaves ∙ same

        t_free : (y : ℕ) → is_free_at (states_of w v.i).run y ≡ is_free_at t.run y
        t_free y = taken_free (states_of w v.i).run v.n cpu y taken ∙ sym (ap (λ (q : Run). is_free_at q y) t_runs)

        acts : List Act
        acts = acts_at s.funcs func

        at_lock : (b : Bool) → (spec_at s v.i).returns_unlocked ≡ b → Holds s now None
        at_lock true is_so =
            begin_turn (Unlocking v (acts_at s.funcs func)) (advance_begin (Go func arg) says ∙ ap (λ (b : Bool). record from { stage = cond b (Unlocking v (acts_at s.funcs func)) (firing v from.hold (acts_at s.funcs func)) }) is_so)
            refl refl refl refl t_same t_free (ap cpu_of_run t_runs) (λ states at. running_by states at t_runs)
        at_lock false is_so =
            let r : Runs v (firing v from.hold (acts_at s.funcs func)) = firing_runs v from.hold (acts_at s.funcs func) in
            begin_turn (firing v from.hold (acts_at s.funcs func)) (advance_begin (Go func arg) says ∙ ap (λ (b : Bool). record from { stage = cond b (Unlocking v (acts_at s.funcs func)) (firing v from.hold (acts_at s.funcs func)) }) is_so)
            r.popped r.under r.service (r.hands cpu) t_same t_free (ap cpu_of_run t_runs) (λ states at. r.runs states cpu (running_by states at t_runs))
      go r u says leaves (deed.skips n x runs) =
          let t_runs : t.run ≡ run.Cancelled v.n cpu = ap (λ (y : State). y.run) leaves ∙ runs in
          begin_turn (Releasing v) (advance_begin Skip says) refl refl refl refl (ap (λ (y : State). y.armed) leaves) (λ y. sym (ap (λ (z : State). is_free_at z.run y) leaves)) (ap cpu_of_run t_runs) (λ states at. over_by states at t_runs)

  -- ---- an end

  over_at : (r : Run) (n k x : ℕ) → IsOver r n k → is_free_at r x ≡ (k == x)
  over_at run.Idle n k x h = absurd h
  over_at (run.Picked arming) n k x h = absurd h
  over_at (run.Cancelled m at) n k x h = ap (λ (y : ℕ). y == x) h.1
  over_at (run.Running m at) n k x h = ap (λ (y : ℕ). y == x) h.1

  module _ (stage_is : (cursors_of w a).stage ≡ Ending v) where
    ending_it : service_of (cursors_of w a).stage ≡ Some v
    ending_it = ap service_of stage_is

    end_hand : carries s a (cursors_of w a) ≡ None
    end_hand = hand_none s a (cursors_of w a) view.0 (ap (in_stage cpu) stage_is)

    module _ (drain : Option ℕ) (same : t.armed ≡ (states_of w v.i).armed) (idle_now : t.run ≡ run.Idle) (over : IsOver (states_of w v.i).run v.n cpu) where
      free_now : (x : ℕ) → is_free_at t.run x ≡ true
      free_now x = ap (λ (r : Run). is_free_at r x) idle_now

      keeps_listed : (n x u : ℕ) → IsListed (states_of w v.i) n x u → IsListed t n x u
      keeps_listed n x u h = record { arming = h.arming; armed = same ∙ h.armed; number = h.number; place = h.place; due = h.due; free = free_now x }

      abbrev HandNow : Type 0
      HandNow = (carries s a to ≡ None) ⊎ ((p : PendingInsert) × (carries s a to ≡ Some p) × (p.i ≡ v.i) × IsListed t p.n p.cpu p.due × Nobody s (states_of w) (queues_of w) (cursors_of w) None holds.carried a v.i)

      abbrev StaysNow : Type 0
      StaysNow = (x : ℕ) → off t ≡ Some x → (1 ≤ stands v.i (queues_of w x)) ⊎ (((p : PendingInsert) × (carries s a to ≡ Some p) × (p.i ≡ v.i)) ⊎ ((b : ℕ) × (p : PendingInsert) × (b ≡ a → ⊥) × (b < actor_count s) × (carries s b (cursors_of w b) ≡ Some p) × (p.i ≡ v.i)))

      end_turn : (next : Option Next) → to ≡ record from { stage = Freeing v drain next } → HandNow → StaysNow → Holds s now None
      end_turn next to_is hand stays =
          turned (Freeing v drain next) (ap (λ (x : Cursor). x.stage) to_is) (ap (λ (x : Cursor). x.left) to_is) (ap has_popped stage_is) refl (ap under_way stage_is) refl (service_others ending_it) (service_own ending_it)
          (λ y e states at. tt) (λ k e. absurd (let clash : Some k ≡ None = sym e ∙ ap cpu_of_run idle_now in cc))
          (carry (λ p e. absurd (let clash : Some p ≡ None = sym e ∙ end_hand in cc)) (inl keeps_listed) hand stays)

      hand_to : (next : Option Next) → to ≡ record from { stage = Freeing v drain next } → carries s a to ≡ parcel_of v next
      hand_to next to_is = ap (carries s a) to_is ∙ ap (λ (o : Option PendingInsert). in_hand cpu o (Freeing v drain next)) view.0

      end_at : (o : Option Arming) → (states_of w v.i).armed ≡ o → to ≡ record from { stage = Freeing v drain (next_of o cpu) } → Holds s now None
      end_at None is_o to_is =
          end_turn None to_is (inl (hand_to None to_is)) (λ x e. (let clash : Some x ≡ None = sym e ∙ off_none t (same ∙ is_o) in cc))
      end_at (Some arming) is_o to_is = at_cpu (arming.cpu == cpu) refl where
        at_cpu : (b : Bool) → (arming.cpu == cpu) ≡ b → Holds s now None
        at_cpu true here =
            let to_none : to ≡ record from { stage = Freeing v drain None } = to_is ∙ ap (λ (b : Bool). record from { stage = Freeing v drain (cond b None (Some (record { n = arming.n; cpu = arming.cpu; due = arming.due }))) }) here in
            let free_before : is_free_at (states_of w v.i).run arming.cpu ≡ true = over_at (states_of w v.i).run v.n cpu arming.cpu over ∙ eq-eqb cpu arming.cpu (sym (eqb-true arming.cpu cpu here)) in
            end_turn None to_none (inl (hand_to None to_none))
            (stays_same end_hand (off_listed t arming (same ∙ is_o) (free_now arming.cpu) ∙ sym (off_listed (states_of w v.i) arming is_o free_before)))
        at_cpu false other =
            let next : Next = record { n = arming.n; cpu = arming.cpu; due = arming.due } in
            let to_next : to ≡ record from { stage = Freeing v drain (Some next) } = to_is ∙ ap (λ (b : Bool). record from { stage = Freeing v drain (cond b None (Some (record { n = arming.n; cpu = arming.cpu; due = arming.due }))) }) other in
            let busy : is_free_at (states_of w v.i).run arming.cpu ≡ false = over_at (states_of w v.i).run v.n cpu arming.cpu over ∙ eqb_other cpu arming.cpu other in
            let deferred : off (states_of w v.i) ≡ None = ap (λ o. listed_cpu (stand_of o (states_of w v.i).run)) is_o ∙ ap (λ (b : Bool). listed_cpu (cond b (Listed arming.cpu) (Deferred arming.cpu))) busy in
            let nobody : Nobody s (states_of w) (queues_of w) (cursors_of w) None holds.carried a v.i = record {
              hands = λ b p else e number.
                  (let there : off (states_of w v.i) ≡ Some p.cpu = subst (λ (k : ℕ). off (states_of w k) ≡ Some p.cpu) number (listed_off (states_of w p.i) p.n p.cpu p.due (holds.carried.moves b p e)) in
                  let clash : Some p.cpu ≡ None = sym there ∙ deferred in cc);
              rests = unlisted s (states_of w) (queues_of w) (cursors_of w) None holds.carried v.i deferred;
            } in
            let sent : PendingInsert = record { act = v.act; i = v.i; n = arming.n; due = arming.due; cpu = arming.cpu } in
            end_turn (Some next) to_next
            (inr (sent, hand_to (Some next) to_next, refl, record { arming = arming; armed = same ∙ is_o; number = refl; place = refl; due = omega arith; free = free_now arming.cpu }, nobody))
            (λ x e. inr (inl (sent, hand_to (Some next) to_next, refl)))

    pub holds_end : op ≡ End v.n cpu → Holds s now None
    holds_end op_is = go reply t refl refl (subst (λ (x : RunOp). Did (spec_at s v.i) (states_of w v.i) (Serve x) reply t) op_is d) where
      advance_end : (r : Reply) → reply ≡ r → to ≡ service_ended from v r
      advance_end r says = ap (advance_callout s from v.i (is_some (off t)) (Serve op) reply) stage_is ∙ ap (service_ended from v) says

      go : (r : Reply) (u : State) → reply ≡ r → t ≡ u → Did (spec_at s v.i) (states_of w v.i) (Serve (End v.n cpu)) r u → Holds s now None
      go r u says leaves (deed.ends n x z drain woke same runs over) =
          end_at drain (ap (λ (y : State). y.armed) leaves ∙ same) (ap (λ (y : State). y.run) leaves ∙ runs) over (states_of w v.i).armed refl (advance_end (Ended drain (next_of (states_of w v.i).armed cpu) woke) says)

holds_at : (s : Script) (ok : IsScript s) (w : World) (holds : Holds s w None) (a : ℕ) (may : a < actor_count s) (between : (b : ℕ) → (b ≡ a → ⊥) → IsBetween (cursors_of w b).stage) (t : State) (reply : Reply) (act i : ℕ) (op : RunOp) (stage : Stage) →
    (cursors_of w a).stage ≡ stage → IsAction s (role_of s a) (record (cursors_of w a) { removed = None }) stage (Asks act (Callout i (Serve op))) →
    action_for s a (cursors_of w a) ≡ Asks act (Callout i (Serve op)) → Did (spec_at s i) (states_of w i) (Serve op) reply t →
    Holds s (notes_down s (enters w i t (record { actor = a; act = act; op = Serve op; reply = reply })) a (is_some (off t)) (note_of w i (record { actor = a; act = act; op = Serve op; reply = reply }))) None
holds_at s ok w holds a may between t reply act i op stage e (picks v) is d = holds_pick s ok w holds a v.act v (Pick v.n (cpu_of s (role_of s a)) v.at) t reply may is d between e refl
holds_at s ok w holds a may between t reply act i op stage e (opens v) is d = holds_begin s ok w holds a v.act v (Begin v.n (cpu_of s (role_of s a))) t reply may is d between e refl
holds_at s ok w holds a may between t reply act i op stage e (ends v) is d = holds_end s ok w holds a v.act v (End v.n (cpu_of s (role_of s a))) t reply may is d between e refl

-- each turn of a service
pub holds_run : (s : Script) (ok : IsScript s) (w : World) (holds : Holds s w None) (a act i : ℕ) (op : RunOp) (t : State) (reply : Reply) (may : a < actor_count s)
    (is : action_for s a (cursors_of w a) ≡ Asks act (Callout i (Serve op))) (d : Did (spec_at s i) (states_of w i) (Serve op) reply t) (between : (b : ℕ) → (b ≡ a → ⊥) → IsBetween (cursors_of w b).stage) →
    Holds s (notes_down s (enters w i t (record { actor = a; act = act; op = Serve op; reply = reply })) a (is_some (off t)) (note_of w i (record { actor = a; act = act; op = Serve op; reply = reply }))) None
holds_run s ok w holds a act i op t reply may is d between = holds_at s ok w holds a may between t reply act i op (cursors_of w a).stage refl (callout_view s a (cursors_of w a) act i (Serve op) is).1 is d
