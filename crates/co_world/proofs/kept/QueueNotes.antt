-- What every note of a queue leaves alike, where the world held before it.
use Rattle.std.proofs.Common.{◌≡◌, ℕ, ◌+◌, ◌≤◌, ◌<◌, ◌⊎◌, Bool, true, false, cond, List, [], ◌∷◌, ◌++◌, length, inl, inr, refl, sym, ap, subst, ◌∙◌, arith, Option, Some, None}
use Rattle.co_object.specs.declared.State.{State}
use Rattle.co_object.specs.Queue.{Queue as TimerQueue}
use Rattle.co_object.proofs.PassageOnce.{stands}
use Rattle.co_program.specs.declared.Script.{Script}
use Rattle.co_program.specs.Actors.{role_of, cpu_of, actor_count}
use Rattle.co_program.specs.declared.Role.{Role}
use Rattle.co_program.specs.declared.Role.TheVariants.{Interrupt}
use Rattle.co_program.specs.Stages.{Stage, Ready, Waiting, Popping, Picking, Locking, Beginning, Unlocking, Firing, Releasing, Ending, Freeing, Drained}
use Rattle.co_program.specs.Cursor.{Cursor}
use Rattle.co_program.specs.declared.PendingInsert.{PendingInsert}
use Rattle.co_program.specs.Scripts.{IsScript}
use Rattle.co_world.specs.World.{World}
use Rattle.co_world.specs.Step.{notes_down}
use Rattle.co_world.proofs.kept.Invariant.{Holds, IsListed, IsCarried, IsLane, states_of, queues_of, cursors_of, scans_of, carries, in_stage, serving_of, has_popped, under_way, service_of}
use Rattle.co_world.proofs.basics.Changes.{IsAt, at_all, note_at, at_updated_is}
use Rattle.co_world.proofs.kept.Stages.{Fits}
use Rattle.co_world.proofs.kept.Services.{serving_same, runs_on}
use Rattle.co_world.proofs.kept.Listed.{carried_queue}
use Rattle.co_object.specs.declared.QOp.{QOp}
use Rattle.co_object.specs.declared.QOp.TheVariants.{Insert}
use Rattle.co_object.specs.declared.QReply.{QReply}
use Rattle.co_object.specs.declared.QEntry.{QEntry}
use Rattle.co_object.proofs.QueueChanges.{QChange}
use Rattle.co_program.specs.Advance.{advance_queue}
use Rattle.co_program.specs.Follows.{scan_count, one_scan}
use Rattle.co_world.specs.World.{Cpu as CpuState}
use Rattle.co_world.specs.Step.{enters_journal, note_of_cpu, are_direct}
use Rattle.co_world.proofs.kept.Invariant.{IsBetween, RunFits, IsTicking}
use Rattle.co_object.proofs.EntriesKept.{EntriesFit, entries_change}
use Rattle.co_world.proofs.basics.Changes.{queue_at, states_landed, at_read}
use Rattle.co_world.proofs.kept.Passages.{quiet_serving, is_quiet}
use Rattle.co_world.proofs.kept.Lanes.{lane_kept}
use Rattle.co_world.proofs.kept.Listed.{no_out, listed_later}
use Rattle.co_world.proofs.kept.ByOwnSteps.{same_run}
use Rattle.std.proofs.Common.{max, eq-eqb, eqb-true}
use Rattle.std.specs.Prelude.{◌==◌}

pub scans_more : (J : List QEntry) (e : QEntry) → scan_count (J ++ e ∷ []) ≡ scan_count J + one_scan e.op
scans_more [] e = omega arith
scans_more (x ∷ J) e = let rest = scans_more J e in omega arith

-- between two steps nothing but what is on its way is in hand
pub between_hand : (cpu : ℕ) (stage : Stage) → IsBetween stage → in_stage cpu stage ≡ None
between_hand cpu (Picking v) h = absurd h
between_hand cpu (Freeing v drain next) h = absurd h
between_hand cpu Ready h = refl
between_hand cpu (Waiting n took) h = refl
between_hand cpu (Popping act) h = refl
between_hand cpu (Locking v) h = refl
between_hand cpu (Beginning v) h = refl
between_hand cpu (Unlocking v acts) h = refl
between_hand cpu (Firing v acts) h = refl
between_hand cpu (Releasing v) h = refl
between_hand cpu (Ending v) h = refl
between_hand cpu (Drained v acts) h = refl

pub one_if_same : (i j : ℕ) → i ≡ j → cond {A = ℕ} (i == j) 1 0 ≡ 1
one_if_same i j same = ap (λ (x : Bool). cond x 1 0) (eq-eqb i j same)

pub zero_if_other : (i j : ℕ) → (i ≡ j → ⊥) → cond {A = ℕ} (i == j) 1 0 ≡ 0
zero_if_other i j other = go (i == j) refl where
  go : (b : Bool) → (i == j) ≡ b → cond {A = ℕ} b 1 0 ≡ 0
  go true e = absurd (other (eqb-true i j e))
  go false e = refl

module _ (s : Script) (ok : IsScript s) (w : World) (out : Option ℕ) (holds : Holds s w out) (a act cpu : ℕ) (op : QOp) (q' : TimerQueue) (reply : QReply)
    (change : QChange s.buckets (are_direct s) (queues_of w cpu) op reply q') where
  abbrev c : Cursor
  c = cursors_of w a

  abbrev role : Role
  role = role_of s a

  abbrev made : QEntry
  made = record { actor = a; act = act; op = op; reply = reply }

  abbrev now : World
  now = notes_down s (enters_journal w cpu q' made) a false (note_of_cpu w cpu made)

  abbrev to : Cursor
  to = advance_queue s c cpu op reply

  moved : IsAt (cursors_of w) a to (cursors_of now)
  moved = note_at s (enters_journal w cpu q' made) a false (note_of_cpu w cpu made)

  queued : IsAt (queues_of w) cpu q' (queues_of now)
  queued = queue_at w cpu q' made

  states : (j : ℕ) → states_of now j ≡ states_of w j
  states j = states_landed w cpu op j

  pub scanned : IsAt (scans_of w) cpu (scans_of w cpu + one_scan op) (scans_of now)
  scanned = subst (λ (n : ℕ). IsAt (scans_of w) cpu n (scans_of now)) (scans_more (w.cpus cpu).journal made)
      (at_read (λ (x : CpuState). scan_count x.journal) w.cpus cpu (record { queue = q'; journal = (w.cpus cpu).journal ++ made ∷ [] }) (enters_journal w cpu q' made).cpus (at_updated_is w.cpus cpu (record { queue = q'; journal = (w.cpus cpu).journal ++ made ∷ [] })))

  pub finish : (out' : Option ℕ) → Fits s role to → serving_of (queues_of now (cpu_of s role)) role ≡ has_popped to.stage →
      ((b : ℕ) → (b ≡ a → ⊥) → serving_of (queues_of now (cpu_of s (role_of s b))) (role_of s b) ≡ serving_of (queues_of w (cpu_of s (role_of s b))) (role_of s b)) →
      service_of to.stage ≡ service_of c.stage → RunFits (states_of w) (cpu_of s role) to.stage → IsTicking s (scans_of now) (cursors_of now) → IsCarried s (states_of now) (queues_of now) (cursors_of now) out' → Holds s now out'
  finish out' fits busy_own busy_else service runs ticking carried = record {
    roles = at_all (λ b (x : Cursor). Fits s (role_of s b) x) (cursors_of w) a to (cursors_of now) moved fits (λ b other. holds.roles b);
    lanes = at_all (λ x (q : TimerQueue). IsLane s q) (queues_of w) cpu q' (queues_of now) queued (lane_kept s (queues_of w cpu) op reply q' change (holds.lanes cpu)) (λ x other. holds.lanes x);
    busy = at_all (λ b (x : Cursor). serving_of (queues_of now (cpu_of s (role_of s b))) (role_of s b) ≡ has_popped x.stage) (cursors_of w) a to (cursors_of now) moved busy_own (λ b other. busy_else b other ∙ holds.busy b);
    serving = serving_same s (states_of w) (cursors_of w) holds.serving (states_of now) (cursors_of now) a to moved (λ j. same_run (states_of w j).run (states_of now j).run (sym (ap (λ (x : State). x.run) (states j)))) service
        (runs_on (states_of w) (states_of now) (cpu_of s role) to.stage (λ v e. same_run (states_of w v.i).run (states_of now v.i).run (sym (ap (λ (x : State). x.run) (states v.i)))) runs);
    carried = carried;
    ticking = ticking;
  }

  -- an operation that is neither a Pop nor a Free leaves whom the queues serve
  pub quiet_all : is_quiet s.buckets (are_direct s) op ≡ true → (x : ℕ) (r : Role) → serving_of (queues_of now x) r ≡ serving_of (queues_of w x) r
  quiet_all quiet x r = at_all (λ k (q : TimerQueue). serving_of q r ≡ serving_of (queues_of w k) r) (queues_of w) cpu q' (queues_of now) queued
      (quiet_serving s.buckets (are_direct s) (queues_of w cpu) op reply q' r change quiet) (λ k other. refl) x

  -- no tick begins or ends
  pub ticks_same : one_scan op ≡ 0 → ((x : ℕ) → role ≡ Interrupt x → (length to.left ≡ length c.left) × (under_way to.stage ≡ under_way c.stage)) → IsTicking s (scans_of now) (cursors_of now)
  ticks_same no_scan same b x two is =
      let alike : (length (cursors_of now b).left ≡ length (cursors_of w b).left) × (under_way (cursors_of now b).stage ≡ under_way (cursors_of w b).stage) =
      at_all (λ k (y : Cursor). (z : ℕ) → role_of s k ≡ Interrupt z → (length y.left ≡ length (cursors_of w k).left) × (under_way y.stage ≡ under_way (cursors_of w k).stage)) (cursors_of w) a to (cursors_of now) moved same (λ k other z e. (refl, refl)) b x is in
      let n : scans_of now x ≡ scans_of w x = at_all (λ k (y : ℕ). y ≡ scans_of w k) (scans_of w) cpu (scans_of w cpu + one_scan op) (scans_of now) scanned (omega arith) (λ k other. refl) x in
      let before = holds.ticking b x two is in
      let l = alike.0 in
      let u = alike.1 in
      let e = before.0 in
      let f = before.1 in
      (omega arith, omega arith)

  pub entries_on : ((i n u : ℕ) → op ≡ Insert i n u → IsListed (states_of w i) n cpu (max u (queues_of w cpu).last)) → EntriesFit (λ i n t. IsListed (states_of w i) n cpu t) q'
  entries_on new = entries_change (λ i n t. IsListed (states_of w i) n cpu t) (λ i n t u later h. listed_later (states_of w i) n cpu t u later h) s.buckets (are_direct s) (queues_of w cpu) op reply q' change new (holds.carried.entries cpu)

  -- the hands stay, and each callout stands where it stood
  pub carried_quiet : out ≡ None → ((i : ℕ) → stands i q' ≡ stands i (queues_of w cpu)) → carries s a to ≡ carries s a c → ((i n u : ℕ) → op ≡ Insert i n u → ⊥) → IsCarried s (states_of now) (queues_of now) (cursors_of now) None
  carried_quiet out_none same hand no_insert =
      carried_queue s (states_of w) (queues_of w) (cursors_of w) out holds.carried (states_of now) (queues_of now) (cursors_of now) None a cpu q' to states queued moved
      (λ p e. inl (sym hand ∙ e)) (λ b p e it. same p.i ∙ holds.carried.apart b p cpu e) (λ i x e. cc) (entries_on (λ i n u e. absurd (no_insert i n u e)))
      (λ i x e. listed i x (holds.carried.listed i x e)) where
        hands_same : (b : ℕ) → carries s b (cursors_of now b) ≡ carries s b (cursors_of w b)
        hands_same = at_all (λ b (y : Cursor). carries s b y ≡ carries s b (cursors_of w b)) (cursors_of w) a to (cursors_of now) moved hand (λ b other. refl)

        stands_same : (i x : ℕ) → stands i (queues_of now x) ≡ stands i (queues_of w x)
        stands_same i x = at_all (λ k (q : TimerQueue). stands i q ≡ stands i (queues_of w k)) (queues_of w) cpu q' (queues_of now) queued (same i) (λ k other. refl) x

        listed : (i x : ℕ) → (1 ≤ stands i (queues_of w x)) ⊎ ((out ≡ Some i) ⊎ ((b : ℕ) × (p : PendingInsert) × (b < actor_count s) × (carries s b (cursors_of w b) ≡ Some p) × (p.i ≡ i))) →
            (1 ≤ stands i (queues_of now x)) ⊎ ((no_out ≡ Some i) ⊎ ((b : ℕ) × (p : PendingInsert) × (b < actor_count s) × (carries s b (cursors_of now b) ≡ Some p) × (p.i ≡ i)))
        listed i x (inl some) = inl (let e = stands_same i x in omega arith)
        listed i x (inr (inl removed)) = absurd (let clash : Some i ≡ None = sym removed ∙ out_none in cc)
        listed i x (inr (inr held)) = inr (inr (held.0, held.1, held.2, hands_same held.0 ∙ held.3, held.4))
