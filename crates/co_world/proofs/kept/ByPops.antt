-- The operations of a server on its queue, a Scan, a Pop and a Free, keep what holds of the world.
use Rattle.std.proofs.Common.{◌≡◌, ℕ, ◌+◌, ◌≤◌, ◌<◌, ◌⊎◌, true, false, cond, List, [], ◌∷◌, length, inl, inr, refl, sym, ap, subst, ◌∙◌, arith, Option, Some, None}
use Rattle.co_object.specs.declared.State.{State}
use Rattle.co_object.specs.declared.Run.{Run}
use Rattle.co_object.specs.Stand.{off, is_free_at}
use Rattle.co_object.specs.Queue.{Queue as TimerQueue}
use Rattle.co_object.proofs.PassageOnce.{stands}
use Rattle.co_program.specs.declared.Script.{Script}
use Rattle.co_program.specs.Actors.{role_of, cpu_of, acts_at, actor_count}
use Rattle.co_program.specs.declared.Role.{Role}
use Rattle.co_program.specs.declared.Role.TheVariants.{Client, Cpu, Interrupt}
use Rattle.co_program.specs.Stages.{Ready, Popping, Picking, Freeing}
use Rattle.co_program.specs.declared.InService.{InService}
use Rattle.co_program.specs.Cursor.{Cursor}
use Rattle.co_program.specs.declared.PendingInsert.{PendingInsert}
use Rattle.co_program.specs.Action.{spec_at}
use Rattle.co_program.specs.Scripts.{IsScript}
use Rattle.co_world.specs.World.{World}
use Rattle.co_world.specs.Step.{notes_down}
use Rattle.co_world.proofs.kept.Invariant.{Holds, IsListed, IsCarried, states_of, queues_of, cursors_of, scans_of, carries, in_hand, in_stage, serving_of, has_popped, under_way, service_of}
use Rattle.co_world.proofs.basics.Changes.{IsAt, at_all, note_at, decide}
use Rattle.co_world.proofs.kept.Stages.{Fits}
use Rattle.co_world.proofs.kept.Listed.{carried_queue}
use Rattle.co_object.specs.declared.QOp.{QOp}
use Rattle.co_object.specs.declared.QOp.TheVariants.{Insert, Scan}
use Rattle.co_object.specs.declared.QReply.{QReply}
use Rattle.co_object.specs.declared.QReply.TheVariants.{Got}
use Rattle.co_object.specs.declared.QEntry.{QEntry}
use Rattle.co_object.specs.declared.Next.{Next}
use Rattle.co_object.proofs.QueueChanges.{QChange}
use Rattle.co_program.specs.declared.Task.{Task}
use Rattle.co_program.specs.declared.Task.TheVariants.{Does}
use Rattle.co_program.specs.declared.Act.TheVariants.{Tick}
use Rattle.co_program.specs.declared.Act.{Act}
use Rattle.co_program.specs.Action.{pop_of, free_of, draining}
use Rattle.co_program.specs.Advance.{advance_queue, parcel_of, drain_acts, tail_of, freed}
use Rattle.co_program.specs.Follows.{one_scan}
use Rattle.co_world.specs.Step.{enters_journal, note_of_cpu, are_direct}
use Rattle.co_world.proofs.kept.Invariant.{RunFits, IsTaskOf, IsTicking}
use Rattle.co_object.proofs.EntriesKept.{entries_got}
use Rattle.co_world.proofs.basics.Changes.{queue_at, states_landed}
use Rattle.co_world.proofs.kept.Passages.{scan_stands, got_stands, is_quiet, other_lane, freed_by}
use Rattle.co_world.proofs.kept.Lanes.{lane_got}
use Rattle.co_world.proofs.kept.Listed.{elsewhere, no_out, listed_later, listed_off}
use Rattle.co_world.proofs.kept.Servers.{IsServer}
use Rattle.co_world.proofs.kept.Stages.{first_task, free_advance}
use Rattle.co_world.proofs.basics.Roles.{same_role}
use Rattle.co_world.proofs.kept.ByOwnSteps.{hand_none}
use Rattle.std.proofs.Common.{suc, eqb-true}
use Rattle.std.specs.Prelude.{◌==◌}
use Rattle.co_object.specs.declared.Run.TheVariants as run
use Rattle.co_object.specs.Stand.{is_idle}
use Rattle.co_object.specs.History.{server as server_actor}
use Rattle.co_world.specs.Laws.{actors_of}
use Rattle.co_world.proofs.kept.Invariant.{cpu_of_run}
use Rattle.co_world.proofs.basics.Roles.{server_of_lane}
use Rattle.co_world.proofs.kept.QueueNotes.{one_if_same, zero_if_other, scanned, finish, quiet_all, ticks_same, entries_on, carried_quiet}

module _ (s : Script) (ok : IsScript s) (w : World) (out : Option ℕ) (holds : Holds s w out) (a act cpu : ℕ) (op : QOp) (q' : TimerQueue) (reply : QReply)
    (change : QChange s.buckets (are_direct s) (queues_of w cpu) op reply q') where
  abbrev c : Cursor
  c = cursors_of w a

  abbrev role : Role
  role = role_of s a

  abbrev made : QEntry
  made = record { actor = a; act = act; op = op; reply = reply }

  abbrev now : World
  now = notes_down s (enters_journal w cpu q' made) a false (note_of_cpu w cpu made)

  abbrev to : Cursor
  to = advance_queue s c cpu op reply

  moved : IsAt (cursors_of w) a to (cursors_of now)
  moved = note_at s (enters_journal w cpu q' made) a false (note_of_cpu w cpu made)

  queued : IsAt (queues_of w) cpu q' (queues_of now)
  queued = queue_at w cpu q' made

  states : (j : ℕ) → states_of now j ≡ states_of w j
  states j = states_landed w cpu op j

  lane_once : (i : ℕ) → stands i (queues_of w cpu) ≤ 1
  lane_once = (holds.lanes cpu).once

  -- ---- a scan

  pub holds_scan : (time : ℕ) (more : List Task) → c.stage ≡ Ready → c.left ≡ Does (Tick time) ∷ more → c.parcel ≡ None → op ≡ Scan time → cpu ≡ cpu_of s role → out ≡ None → Fits s role to → Holds s now None
  holds_scan time more stage_is left_is parcel_is op_is cpu_is out_none fits =
      finish s ok w out holds a act cpu op q' reply change None fits (quiet_all s ok w out holds a act cpu op q' reply change quiet (cpu_of s role) role ∙ holds.busy a ∙ ap has_popped stage_is ∙ ap has_popped (sym stage_now)) (λ b other. quiet_all s ok w out holds a act cpu op q' reply change quiet (cpu_of s (role_of s b)) (role_of s b))
      (ap service_of stage_now ∙ ap service_of (sym stage_is)) (subst (RunFits (states_of w) (cpu_of s role)) (sym stage_now) tt) ticking_now
      (carried_quiet s ok w out holds a act cpu op q' reply change out_none (scan_stands s.buckets (are_direct s) (queues_of w cpu) op reply q' time change op_is lane_once) (hand_now ∙ sym hand_was) (λ i n u e. (let clash : Scan time ≡ Insert i n u = sym op_is ∙ e in cc))) where
        quiet : is_quiet s.buckets (are_direct s) op ≡ true
        quiet = ap (is_quiet s.buckets (are_direct s)) op_is

        to_is : to ≡ record c { act = c.act + 1; stage = Popping c.act }
        to_is = ap (λ (o : QOp). advance_queue s c cpu o reply) op_is

        stage_now : to.stage ≡ Popping c.act
        stage_now = ap (λ (x : Cursor). x.stage) to_is

        left_same : to.left ≡ c.left
        left_same = ap (λ (x : Cursor). x.left) to_is

        hand_was : carries s a c ≡ None
        hand_was = hand_none s a c parcel_is (ap (in_stage (cpu_of s role)) stage_is)

        hand_now : carries s a to ≡ None
        hand_now = hand_none s a to (ap (λ (x : Cursor). x.parcel) to_is ∙ parcel_is) (ap (in_stage (cpu_of s role)) stage_now)

        -- the actor that scans is the CPU's interrupt in version 2
        scans_as : (b : ℕ) (r : Role) → role ≡ r → s.version ≡ 2 → IsTaskOf s r (Does (Tick time)) → cpu_of s r ≡ cpu → role_of s b ≡ Interrupt cpu → b ≡ a
        scans_as b (Client k) is two task here it = absurd task
        scans_as b (Cpu x) is two task here it = let clash : 1 ≡ s.version = sym task in cc
        scans_as b (Interrupt x) is two task here it = same_role s b a (it ∙ ap Interrupt (sym here) ∙ sym is)

        ticking_own : (x : ℕ) → s.version ≡ 2 → role ≡ Interrupt x → (scans_of now x + length to.left ≡ length (acts_at s.ticks x) + under_way to.stage) × (under_way to.stage ≤ length to.left)
        ticking_own x two is =
            let here : x ≡ cpu = sym (cpu_is ∙ ap (cpu_of s) is) in
            let before = holds.ticking a x two is in
            let n : scans_of now x ≡ scans_of w x + one_scan op = ap (scans_of now) here ∙ (scanned s ok w out holds a act cpu op q' reply change).here ∙ ap (λ (k : ℕ). scans_of w k + one_scan op) (sym here) in
            let one : one_scan op ≡ 1 = ap one_scan op_is in
            let l : length to.left ≡ length c.left = ap length left_same in
            let some : length c.left ≡ suc (length more) = ap length left_is in
            let u : under_way to.stage ≡ 1 = ap under_way stage_now in
            let v : under_way c.stage ≡ 0 = ap under_way stage_is in
            let e = before.0 in
            (omega arith, omega arith)

        ticking_now : IsTicking s (scans_of now) (cursors_of now)
        ticking_now b x two is = whose (decide b a) where
          whose : (b ≡ a) ⊎ (b ≡ a → ⊥) → (scans_of now x + length (cursors_of now b).left ≡ length (acts_at s.ticks x) + under_way (cursors_of now b).stage) × (under_way (cursors_of now b).stage ≤ length (cursors_of now b).left)
          whose (inl own) = subst (λ (y : Cursor). (scans_of now x + length y.left ≡ length (acts_at s.ticks x) + under_way y.stage) × (under_way y.stage ≤ length y.left)) (sym (ap (cursors_of now) own ∙ moved.here)) (ticking_own x two (ap (role_of s) (sym own) ∙ is))
          whose (inr other) = where_at (decide x cpu) where
            where_at : (x ≡ cpu) ⊎ (x ≡ cpu → ⊥) → (scans_of now x + length (cursors_of now b).left ≡ length (acts_at s.ticks x) + under_way (cursors_of now b).stage) × (under_way (cursors_of now b).stage ≤ length (cursors_of now b).left)
            where_at (inl here) = absurd (other (scans_as b role refl two (first_task (IsTaskOf s role) c.left more (Does (Tick time)) left_is (holds.roles a).tasks) (sym cpu_is) (is ∙ ap Interrupt here)))
            where_at (inr else) = subst (λ (y : Cursor). (scans_of now x + length y.left ≡ length (acts_at s.ticks x) + under_way y.stage) × (under_way y.stage ≤ length y.left)) (sym (moved.else b other))
                (subst (λ (n : ℕ). (n + length (cursors_of w b).left ≡ length (acts_at s.ticks x) + under_way (cursors_of w b).stage) × (under_way (cursors_of w b).stage ≤ length (cursors_of w b).left)) (sym ((scanned s ok w out holds a act cpu op q' reply change).else x else)) (holds.ticking b x two is))

  -- ---- a Pop and a Free, by the server itself

  lane_else : IsServer role → cpu ≡ cpu_of s role → (op ≡ pop_of role) ⊎ (op ≡ free_of role) → (b : ℕ) → (b ≡ a → ⊥) → serving_of (queues_of now (cpu_of s (role_of s b))) (role_of s b) ≡ serving_of (queues_of w (cpu_of s (role_of s b))) (role_of s b)
  lane_else server cpu_is op_is b other =
      at_all (λ x (q : TimerQueue). cpu_of s (role_of s b) ≡ x → serving_of q (role_of s b) ≡ serving_of (queues_of w x) (role_of s b)) (queues_of w) cpu q' (queues_of now) queued
      (λ same. other_lane s.buckets (are_direct s) s role (role_of s b) (queues_of w cpu) op reply q' server (λ e. other (same_role s b a e)) (same ∙ cpu_is) op_is change)
      (λ x else same. refl) (cpu_of s (role_of s b)) refl

  own_queue : cpu ≡ cpu_of s role → (r : Role) → serving_of (queues_of now (cpu_of s role)) r ≡ serving_of q' r
  own_queue cpu_is r = ap (λ (x : ℕ). serving_of (queues_of now x) r) (sym cpu_is) ∙ ap (λ (q : TimerQueue). serving_of q r) queued.here

  draining_stage : (v : InService) (acts : List Act) → (has_popped (draining v acts) ≡ false) × (service_of (draining v acts) ≡ None) × (under_way (draining v acts) ≡ 1) × (((x : ℕ) → in_stage x (draining v acts) ≡ None)) × (((f : ℕ → State) (x : ℕ) → RunFits f x (draining v acts)))
  draining_stage v [] = (refl, refl, refl, λ x. refl, λ f x. tt)
  draining_stage v (act' ∷ acts) = (refl, refl, refl, λ x. refl, λ f x. tt)

  no_scans : (r : Role) → (one_scan (pop_of r) ≡ 0) × (one_scan (free_of r) ≡ 0)
  no_scans (Client k) = (refl, refl)
  no_scans (Cpu x) = (refl, refl)
  no_scans (Interrupt x) = (refl, refl)

  no_inserts : (r : Role) (i n u : ℕ) → (pop_of r ≡ Insert i n u → ⊥) × (free_of r ≡ Insert i n u → ⊥)
  no_inserts (Client k) i n u = (λ e. cc, λ e. cc)
  no_inserts (Cpu x) i n u = (λ e. cc, λ e. cc)
  no_inserts (Interrupt x) i n u = (λ e. cc, λ e. cc)

  pub holds_free : (v : InService) (drain : Option ℕ) (next : Option Next) → c.stage ≡ Freeing v drain next → c.parcel ≡ None → op ≡ free_of role → IsServer role → cpu ≡ cpu_of s role → out ≡ None → Fits s role to → Holds s now None
  holds_free v drain next stage_is parcel_is op_is server cpu_is out_none fits =
      finish s ok w out holds a act cpu op q' reply change None fits (own_queue cpu_is role ∙ free.0 ∙ sym (ap has_popped stage_now ∙ drained.0)) (lane_else server cpu_is (inr op_is))
      (ap service_of stage_now ∙ drained.1 ∙ sym (ap service_of stage_is)) (subst (RunFits (states_of w) (cpu_of s role)) (sym stage_now) (drained.4 (states_of w) (cpu_of s role)))
      (ticks_same s ok w out holds a act cpu op q' reply change (ap one_scan op_is ∙ (no_scans role).1) (λ x e. (ap length (ap (λ (y : Cursor). y.left) to_is), ap under_way stage_now ∙ drained.2 ∙ sym (ap under_way stage_is))))
      (carried_quiet s ok w out holds a act cpu op q' reply change out_none free.1 hand (λ i n u e. (no_inserts role i n u).1 (sym op_is ∙ e))) where
        acts : List Act
        acts = drain_acts s drain

        to_is : to ≡ record c { stage = draining v (drain_acts s drain); parcel = parcel_of v next }
        to_is = ap (λ (o : QOp). advance_queue s c cpu o reply) op_is ∙ free_advance s ok role c.left c.act c.now c.hold c.removed c.parcel c cpu reply ∙ ap (freed s c) stage_is

        stage_now : to.stage ≡ draining v (drain_acts s drain)
        stage_now = ap (λ (x : Cursor). x.stage) to_is

        drained : (has_popped (draining v (drain_acts s drain)) ≡ false) × (service_of (draining v (drain_acts s drain)) ≡ None) × (under_way (draining v (drain_acts s drain)) ≡ 1) × (((x : ℕ) → in_stage x (draining v (drain_acts s drain)) ≡ None)) × (((f : ℕ → State) (x : ℕ) → RunFits f x (draining v (drain_acts s drain))))
        drained = draining_stage v (drain_acts s drain)

        free : (serving_of q' role ≡ false) × ((i : ℕ) → stands i q' ≡ stands i (queues_of w cpu))
        free = freed_by s.buckets (are_direct s) role (queues_of w cpu) op reply q' server op_is change

        sent : (o : Option PendingInsert) → in_hand (cpu_of s role) o (draining v (drain_acts s drain)) ≡ o
        sent None = drained.3 (cpu_of s role)
        sent (Some p) = refl

        hand : carries s a to ≡ carries s a c
        hand = ap (carries s a) to_is ∙ sent (parcel_of v next) ∙ sym (ap (λ (o : Option PendingInsert). in_hand (cpu_of s role) o c.stage) parcel_is ∙ ap (in_stage (cpu_of s role)) stage_is)

  module _ (act' : ℕ) (parcel_is : c.parcel ≡ None) (op_is : op ≡ pop_of role) (server : IsServer role) (cpu_is : cpu ≡ cpu_of s role) (out_none : out ≡ None) (fits : Fits s role to) (may : a < actor_count s)
      (rest : service_of c.stage ≡ None) (free : has_popped c.stage ≡ false) (hand : in_stage (cpu_of s role) c.stage ≡ None) (ticks : (x : ℕ) → role ≡ Interrupt x → under_way c.stage ≡ 1) where
    hand_was : carries s a c ≡ None
    hand_was = hand_none s a c parcel_is hand

    pub holds_empty : q' ≡ queues_of w cpu → to.stage ≡ Ready → to.left ≡ tail_of c.left → to.parcel ≡ None → Holds s now None
    holds_empty q_is stage_now left_now parcel_now =
        finish s ok w out holds a act cpu op q' reply change None fits (own_queue cpu_is role ∙ ap (λ (q : TimerQueue). serving_of q role) q_is ∙ ap (λ (x : ℕ). serving_of (queues_of w x) role) cpu_is ∙ holds.busy a ∙ free ∙ ap has_popped (sym stage_now)) (lane_else server cpu_is (inl op_is))
        (ap service_of stage_now ∙ sym rest) (subst (RunFits (states_of w) (cpu_of s role)) (sym stage_now) tt) ticking_now
        (carried_quiet s ok w out holds a act cpu op q' reply change out_none (λ i. ap (stands i) q_is) (hand_none s a to parcel_now (ap (in_stage (cpu_of s role)) stage_now) ∙ sym hand_was) (λ i n u e. (no_inserts role i n u).0 (sym op_is ∙ e))) where
          shorter : (left : List Task) → 1 ≤ length left → length (tail_of left) + 1 ≡ length left
          shorter [] h = absurd (omega arith)
          shorter (task ∷ left) h = omega arith

          scans_same : (x : ℕ) → scans_of now x ≡ scans_of w x
          scans_same x = at_all (λ k (y : ℕ). y ≡ scans_of w k) (scans_of w) cpu (scans_of w cpu + one_scan op) (scans_of now) (scanned s ok w out holds a act cpu op q' reply change) (let z : one_scan op ≡ 0 = ap one_scan op_is ∙ (no_scans role).0 in omega arith) (λ k other. refl) x

          ticking_own : (x : ℕ) → s.version ≡ 2 → role ≡ Interrupt x → (scans_of now x + length to.left ≡ length (acts_at s.ticks x) + under_way to.stage) × (under_way to.stage ≤ length to.left)
          ticking_own x two is =
              let before = holds.ticking a x two is in
              let e = before.0 in
              let f = before.1 in
              let n = scans_same x in
              let u : under_way c.stage ≡ 1 = ticks x is in
              let v : under_way to.stage ≡ 0 = ap under_way stage_now in
              let l : length to.left ≡ length (tail_of c.left) = ap length left_now in
              let m : length (tail_of c.left) + 1 ≡ length c.left = shorter c.left (omega arith) in
              (omega arith, omega arith)

          ticking_now : IsTicking s (scans_of now) (cursors_of now)
          ticking_now b x two is = whose (decide b a) where
            whose : (b ≡ a) ⊎ (b ≡ a → ⊥) → (scans_of now x + length (cursors_of now b).left ≡ length (acts_at s.ticks x) + under_way (cursors_of now b).stage) × (under_way (cursors_of now b).stage ≤ length (cursors_of now b).left)
            whose (inl own) = subst (λ (y : Cursor). (scans_of now x + length y.left ≡ length (acts_at s.ticks x) + under_way y.stage) × (under_way y.stage ≤ length y.left)) (sym (ap (cursors_of now) own ∙ moved.here)) (ticking_own x two (ap (role_of s) (sym own) ∙ is))
            whose (inr other) = subst (λ (y : Cursor). (scans_of now x + length y.left ≡ length (acts_at s.ticks x) + under_way y.stage) × (under_way y.stage ≤ length y.left)) (sym (moved.else b other))
                (subst (λ (n : ℕ). (n + length (cursors_of w b).left ≡ length (acts_at s.ticks x) + under_way (cursors_of w b).stage) × (under_way (cursors_of w b).stage ≤ length (cursors_of w b).left)) (sym (scans_same x)) (holds.ticking b x two is))

    module _ (i n time : ℕ) (says : reply ≡ Got i n time) (serves : serving_of q' role ≡ true) where
      abbrev v : InService
      v = record { act = act'; i = i; n = n; at = time }

      abbrev taken : PendingInsert
      taken = record { act = act'; i = i; n = n; due = time; cpu = cpu_of s role }

      was_listed : IsListed (states_of w i) n cpu time
      was_listed = entries_got (λ j m u. IsListed (states_of w j) m cpu u) (λ j m u z later h. listed_later (states_of w j) m cpu u z later h) s.buckets (are_direct s) (queues_of w cpu) op reply q' i n time change says (holds.carried.entries cpu)

      less : (j : ℕ) → stands j (queues_of w cpu) ≡ cond (i == j) 1 0 + stands j q'
      less = got_stands s.buckets (are_direct s) (queues_of w cpu) op reply q' i n time change says lane_once

      there : off (states_of w i) ≡ Some cpu
      there = listed_off (states_of w i) n cpu time was_listed

      -- no service has a callout that stands in its server's queue, while the server pops
      idle_cpu_of : (r : Run) → is_free_at r cpu ≡ true → (is_idle r ≡ true) ⊎ (cpu_of_run r ≡ Some cpu)
      idle_cpu_of run.Idle h = inl refl
      idle_cpu_of (run.Picked x) h = inr (ap Some (eqb-true x.cpu cpu h))
      idle_cpu_of (run.Cancelled m at) h = inr (ap Some (eqb-true at cpu h))
      idle_cpu_of (run.Running m at) h = inr (ap Some (eqb-true at cpu h))

      at_idle : is_idle (states_of w i).run ≡ true
      at_idle = go (idle_cpu_of (states_of w i).run was_listed.free) where
        go : (is_idle (states_of w i).run ≡ true) ⊎ (cpu_of_run (states_of w i).run ≡ Some cpu) → is_idle (states_of w i).run ≡ true
        go (inl idle) = idle
        go (inr runs) =
            let served = holds.serving.served i cpu runs in
            let mine : a ≡ server_actor (actors_of s) (spec_at s i) (cpu_of s role) = server_of_lane s a i server (lane_got s role (queues_of w cpu) op reply q' server op_is change (holds.lanes cpu) i n time says) in
            let me : server_actor (actors_of s) (spec_at s i) cpu ≡ a = ap (server_actor (actors_of s) (spec_at s i)) cpu_is ∙ sym mine in
            let clash : Some served.0 ≡ None = sym served.1 ∙ ap (λ (b : ℕ). service_of (cursors_of w b).stage) me ∙ rest in
            cc

      pub holds_got : to.stage ≡ Picking (record { act = act'; i = i; n = n; at = time }) → to.left ≡ c.left → to.parcel ≡ None → Holds s now None
      holds_got stage_now left_now parcel_now =
          finish s ok w out holds a act cpu op q' reply change None fits (own_queue cpu_is role ∙ serves ∙ ap has_popped (sym stage_now)) (lane_else server cpu_is (inl op_is))
          (ap service_of stage_now ∙ sym rest) (subst (RunFits (states_of w) (cpu_of s role)) (sym stage_now) at_idle)
          (ticks_same s ok w out holds a act cpu op q' reply change (ap one_scan op_is ∙ (no_scans role).0) (λ x e. (ap length left_now, ap under_way stage_now ∙ sym (ticks x e)))) carried_now where
            hand_now : carries s a to ≡ Some taken
            hand_now = ap (λ (o : Option PendingInsert). in_hand (cpu_of s role) o to.stage) parcel_now ∙ ap (in_stage (cpu_of s role)) stage_now

            gone : (x : ℕ) → stands i (queues_of now x) ≡ 0
            gone x = at_all (λ k (q : TimerQueue). stands i q ≡ 0) (queues_of w) cpu q' (queues_of now) queued (let l = less i in let o = lane_once i in let one = one_if_same i i refl in omega arith)
                (λ k other. elsewhere s (states_of w) (queues_of w) (cursors_of w) out holds.carried i cpu k there other) x

            nobody : (b : ℕ) (r : PendingInsert) → (b ≡ a → ⊥) → carries s b (cursors_of w b) ≡ Some r → r.i ≡ i → ⊥
            nobody b r other e same = let z : stands i (queues_of w cpu) ≡ 0 = subst (λ (k : ℕ). stands k (queues_of w cpu) ≡ 0) same (holds.carried.apart b r cpu e) in let l = less i in let one = one_if_same i i refl in omega arith

            stands_else : (j x : ℕ) → (i ≡ j → ⊥) → stands j (queues_of now x) ≡ stands j (queues_of w x)
            stands_else j x other = at_all (λ k (q : TimerQueue). stands j q ≡ stands j (queues_of w k)) (queues_of w) cpu q' (queues_of now) queued (let l = less j in let z = zero_if_other i j other in omega arith) (λ k o. refl) x

            held_else : (j b : ℕ) (r : PendingInsert) → (b ≡ a) ⊎ (b ≡ a → ⊥) → b < actor_count s → carries s b (cursors_of w b) ≡ Some r → r.i ≡ j → (b' : ℕ) × (r' : PendingInsert) × (b' < actor_count s) × (carries s b' (cursors_of now b') ≡ Some r') × (r'.i ≡ j)
            held_else j b r (inl own) exists is number = absurd (let clash : Some r ≡ None = sym (subst (λ (k : ℕ). carries s k (cursors_of w k) ≡ Some r) own is) ∙ hand_was in cc)
            held_else j b r (inr other) exists is number = (b, r, exists, ap (carries s b) (moved.else b other) ∙ is, number)

            listed : (j x : ℕ) → (i ≡ j) ⊎ (i ≡ j → ⊥) → (1 ≤ stands j (queues_of w x)) ⊎ ((out ≡ Some j) ⊎ ((b : ℕ) × (r : PendingInsert) × (b < actor_count s) × (carries s b (cursors_of w b) ≡ Some r) × (r.i ≡ j))) →
                (1 ≤ stands j (queues_of now x)) ⊎ ((no_out ≡ Some j) ⊎ ((b : ℕ) × (r : PendingInsert) × (b < actor_count s) × (carries s b (cursors_of now b) ≡ Some r) × (r.i ≡ j)))
            listed j x (inl same) h = inr (inr (a, taken, may, ap (carries s a) moved.here ∙ hand_now, same))
            listed j x (inr other) (inl h) = inl (let e = stands_else j x other in omega arith)
            listed j x (inr other) (inr (inl removed)) = absurd (let clash : Some j ≡ None = sym removed ∙ out_none in cc)
            listed j x (inr other) (inr (inr held)) = inr (inr (held_else j held.0 held.1 (decide held.0 a) held.2 held.3 held.4))

            new_hand : (p : PendingInsert) → carries s a to ≡ Some p → IsListed (states_of w p.i) p.n p.cpu p.due × ((b : ℕ) (r : PendingInsert) → (b ≡ a → ⊥) → carries s b (cursors_of w b) ≡ Some r → r.i ≡ p.i → ⊥) × ((x : ℕ) → stands p.i (queues_of now x) ≡ 0)
            new_hand p e =
                let same : Some taken ≡ Some p = sym hand_now ∙ e in
                let one : taken ≡ p = cc in
                subst (λ (p : PendingInsert). IsListed (states_of w p.i) p.n p.cpu p.due × ((b : ℕ) (r : PendingInsert) → (b ≡ a → ⊥) → carries s b (cursors_of w b) ≡ Some r → r.i ≡ p.i → ⊥) × ((x : ℕ) → stands p.i (queues_of now x) ≡ 0)) one
                (subst (λ (x : ℕ). IsListed (states_of w i) n x time) cpu_is was_listed, nobody, gone)

            carried_now : IsCarried s (states_of now) (queues_of now) (cursors_of now) None
            carried_now =
                carried_queue s (states_of w) (queues_of w) (cursors_of w) out holds.carried (states_of now) (queues_of now) (cursors_of now) None a cpu q' to states queued moved
                (λ p e. inr (new_hand p e)) (λ b p e it. (let z = holds.carried.apart b p cpu e in let l = less p.i in omega arith)) (λ j x e. cc)
                (entries_on s ok w out holds a act cpu op q' reply change (λ j m u e. absurd ((no_inserts role j m u).0 (sym op_is ∙ e)))) (λ j x e. listed j x (decide i j) (holds.carried.listed j x e))
