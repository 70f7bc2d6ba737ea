-- A Remove takes its callout in hand, an Insert puts down what is on its way, and both keep what holds of the world.
use Rattle.std.proofs.Common.{◌≡◌, ℕ, ◌+◌, ◌≤◌, ◌<◌, ◌⊎◌, true, false, cond, length, inl, inr, refl, sym, ap, subst, ◌∙◌, arith, Option, Some, None}
use Rattle.co_object.specs.Stand.{off}
use Rattle.co_object.specs.Queue.{Queue as TimerQueue}
use Rattle.co_object.proofs.PassageOnce.{stands}
use Rattle.co_program.specs.declared.Script.{Script}
use Rattle.co_program.specs.Actors.{role_of, cpu_of, actor_count}
use Rattle.co_program.specs.declared.Role.{Role}
use Rattle.co_program.specs.Cursor.{Cursor}
use Rattle.co_program.specs.declared.PendingInsert.{PendingInsert}
use Rattle.co_program.specs.Scripts.{IsScript}
use Rattle.co_world.specs.World.{World}
use Rattle.co_world.specs.Step.{notes_down}
use Rattle.co_world.proofs.kept.Invariant.{Holds, IsListed, IsCarried, states_of, queues_of, cursors_of, carries, in_hand, has_popped, under_way, service_of}
use Rattle.co_world.proofs.basics.Changes.{IsAt, at_all, note_at, decide}
use Rattle.co_world.proofs.kept.Stages.{Fits}
use Rattle.co_world.proofs.kept.Listed.{carried_queue}
use Rattle.co_object.specs.declared.QOp.{QOp}
use Rattle.co_object.specs.declared.QOp.TheVariants.{Insert, Remove}
use Rattle.co_object.specs.declared.QReply.{QReply}
use Rattle.co_object.specs.declared.QEntry.{QEntry}
use Rattle.co_object.specs.Queue.{without}
use Rattle.co_object.proofs.QueueChanges.{QChange}
use Rattle.co_program.specs.Advance.{advance_queue}
use Rattle.co_program.specs.Follows.{one_scan}
use Rattle.co_world.specs.Step.{enters_journal, note_of_cpu, are_direct}
use Rattle.co_world.proofs.kept.Invariant.{IsBetween, RunFits}
use Rattle.co_object.proofs.EntriesKept.{max_left}
use Rattle.co_world.proofs.basics.Changes.{queue_at, states_landed}
use Rattle.co_world.proofs.kept.Passages.{insert_stands, remove_stands, is_quiet}
use Rattle.co_world.proofs.kept.Listed.{elsewhere, no_out, listed_later, listed_off}
use Rattle.std.proofs.Common.{max}
use Rattle.std.specs.Prelude.{◌==◌}
use Rattle.co_world.proofs.kept.Listed.{stands_listed}
use Rattle.co_world.proofs.kept.QueueNotes.{between_hand, one_if_same, zero_if_other, finish, quiet_all, ticks_same, entries_on}

module _ (s : Script) (ok : IsScript s) (w : World) (out : Option ℕ) (holds : Holds s w out) (a act cpu : ℕ) (op : QOp) (q' : TimerQueue) (reply : QReply)
    (change : QChange s.buckets (are_direct s) (queues_of w cpu) op reply q') where
  abbrev c : Cursor
  c = cursors_of w a

  abbrev role : Role
  role = role_of s a

  abbrev made : QEntry
  made = record { actor = a; act = act; op = op; reply = reply }

  abbrev now : World
  now = notes_down s (enters_journal w cpu q' made) a false (note_of_cpu w cpu made)

  abbrev to : Cursor
  to = advance_queue s c cpu op reply

  moved : IsAt (cursors_of w) a to (cursors_of now)
  moved = note_at s (enters_journal w cpu q' made) a false (note_of_cpu w cpu made)

  queued : IsAt (queues_of w) cpu q' (queues_of now)
  queued = queue_at w cpu q' made

  states : (j : ℕ) → states_of now j ≡ states_of w j
  states j = states_landed w cpu op j

  lane_once : (i : ℕ) → stands i (queues_of w cpu) ≤ 1
  lane_once = (holds.lanes cpu).once

  -- ---- a Remove

  pub holds_remove : (i : ℕ) → op ≡ Remove i → q' ≡ without (queues_of w cpu) i → 1 ≤ stands i (queues_of w cpu) → out ≡ None → Holds s now (Some i)
  holds_remove i op_is q_is some out_none =
      finish s ok w out holds a act cpu op q' reply change (Some i) (subst (Fits s role) (sym to_is) fits_now) (quiet_all s ok w out holds a act cpu op q' reply change quiet (cpu_of s role) role ∙ holds.busy a ∙ ap has_popped (sym stage_same)) (λ b other. quiet_all s ok w out holds a act cpu op q' reply change quiet (cpu_of s (role_of s b)) (role_of s b))
      (ap service_of stage_same) (subst (RunFits (states_of w) (cpu_of s role)) (sym stage_same) (holds.serving.serves a)) (ticks_same s ok w out holds a act cpu op q' reply change (ap one_scan op_is) (λ x e. (ap length left_same, ap under_way stage_same))) carried_now where
        quiet : is_quiet s.buckets (are_direct s) op ≡ true
        quiet = ap (is_quiet s.buckets (are_direct s)) op_is

        to_is : to ≡ record c { removed = Some cpu }
        to_is = ap (λ (o : QOp). advance_queue s c cpu o reply) op_is

        stage_same : to.stage ≡ c.stage
        stage_same = ap (λ (x : Cursor). x.stage) to_is

        left_same : to.left ≡ c.left
        left_same = ap (λ (x : Cursor). x.left) to_is

        fits_now : Fits s role (record c { removed = Some cpu })
        fits_now = holds.roles a

        hand : carries s a to ≡ carries s a c
        hand = ap (carries s a) to_is

        gone : (j : ℕ) → stands j (queues_of w cpu) ≡ cond (i == j) 1 0 + stands j q'
        gone j = subst (λ (q : TimerQueue). stands j (queues_of w cpu) ≡ cond (i == j) 1 0 + stands j q) (sym q_is) (remove_stands s.buckets (are_direct s) (queues_of w cpu) i some lane_once j)

        there : off (states_of w i) ≡ Some cpu
        there = stands_listed s (states_of w) (queues_of w) (cursors_of w) out holds.carried i cpu some

        away : (j x : ℕ) → Some i ≡ Some j → stands j (queues_of now x) ≡ 0
        away j x e = subst (λ (k : ℕ). stands k (queues_of now x) ≡ 0) (let same : i ≡ j = cc in same)
            (at_all (λ k (q : TimerQueue). stands i q ≡ 0) (queues_of w) cpu q' (queues_of now) queued (let g = gone i in let o = lane_once i in let one = one_if_same i i refl in omega arith)
            (λ k other. elsewhere s (states_of w) (queues_of w) (cursors_of w) out holds.carried i cpu k there other) x)

        hands_same : (b : ℕ) → carries s b (cursors_of now b) ≡ carries s b (cursors_of w b)
        hands_same = at_all (λ b (y : Cursor). carries s b y ≡ carries s b (cursors_of w b)) (cursors_of w) a to (cursors_of now) moved hand (λ b other. refl)

        stands_else : (j x : ℕ) → (i ≡ j → ⊥) → stands j (queues_of now x) ≡ stands j (queues_of w x)
        stands_else j x other = at_all (λ k (q : TimerQueue). stands j q ≡ stands j (queues_of w k)) (queues_of w) cpu q' (queues_of now) queued (let g = gone j in let none_here = zero_if_other i j other in omega arith) (λ k o. refl) x

        listed : (j x : ℕ) → (i ≡ j) ⊎ (i ≡ j → ⊥) → (1 ≤ stands j (queues_of w x)) ⊎ ((out ≡ Some j) ⊎ ((b : ℕ) × (p : PendingInsert) × (b < actor_count s) × (carries s b (cursors_of w b) ≡ Some p) × (p.i ≡ j))) →
            (1 ≤ stands j (queues_of now x)) ⊎ ((Some i ≡ Some j) ⊎ ((b : ℕ) × (p : PendingInsert) × (b < actor_count s) × (carries s b (cursors_of now b) ≡ Some p) × (p.i ≡ j)))
        listed j x (inl same) h = inr (inl (ap Some same))
        listed j x (inr other) (inl h) = inl (let e = stands_else j x other in omega arith)
        listed j x (inr other) (inr (inl removed)) = absurd (let clash : Some j ≡ None = sym removed ∙ out_none in cc)
        listed j x (inr other) (inr (inr held)) = inr (inr (held.0, held.1, held.2, hands_same held.0 ∙ held.3, held.4))

        carried_now : IsCarried s (states_of now) (queues_of now) (cursors_of now) (Some i)
        carried_now =
            carried_queue s (states_of w) (queues_of w) (cursors_of w) out holds.carried (states_of now) (queues_of now) (cursors_of now) (Some i) a cpu q' to states queued moved
            (λ p e. inl (sym hand ∙ e)) (λ b p e it. (let zero_before = holds.carried.apart b p cpu e in let g = gone p.i in omega arith)) away
            (entries_on s ok w out holds a act cpu op q' reply change (λ j n u e. absurd (let clash : Remove i ≡ Insert j n u = sym op_is ∙ e in cc))) (λ j x e. listed j x (decide i j) (holds.carried.listed j x e))

  -- ---- an Insert

  pub holds_insert : (p : PendingInsert) → c.parcel ≡ Some p → cpu ≡ p.cpu → op ≡ Insert p.i p.n p.due → IsBetween c.stage → out ≡ None → Holds s now None
  holds_insert p parcel_is cpu_is op_is between out_none =
      finish s ok w out holds a act cpu op q' reply change None (subst (Fits s role) (sym to_is) fits_now) (quiet_all s ok w out holds a act cpu op q' reply change quiet (cpu_of s role) role ∙ holds.busy a ∙ ap has_popped (sym stage_same)) (λ b other. quiet_all s ok w out holds a act cpu op q' reply change quiet (cpu_of s (role_of s b)) (role_of s b))
      (ap service_of stage_same) (subst (RunFits (states_of w) (cpu_of s role)) (sym stage_same) (holds.serving.serves a)) (ticks_same s ok w out holds a act cpu op q' reply change (ap one_scan op_is) (λ x e. (ap length left_same, ap under_way stage_same))) carried_now where
        quiet : is_quiet s.buckets (are_direct s) op ≡ true
        quiet = ap (is_quiet s.buckets (are_direct s)) op_is

        to_is : to ≡ record c { parcel = None }
        to_is = ap (λ (o : QOp). advance_queue s c cpu o reply) op_is

        stage_same : to.stage ≡ c.stage
        stage_same = ap (λ (x : Cursor). x.stage) to_is

        left_same : to.left ≡ c.left
        left_same = ap (λ (x : Cursor). x.left) to_is

        fits_now : Fits s role (record c { parcel = None })
        fits_now = holds.roles a

        hand_now : carries s a to ≡ None
        hand_now = ap (carries s a) to_is ∙ between_hand (cpu_of s role) c.stage between

        hand_was : carries s a c ≡ Some p
        hand_was = ap (λ (o : Option PendingInsert). in_hand (cpu_of s role) o c.stage) parcel_is

        more : (j : ℕ) → cond (p.i == j) 1 0 + stands j (queues_of w cpu) ≡ stands j q'
        more = insert_stands s.buckets (are_direct s) (queues_of w cpu) op reply q' p.i p.n p.due change op_is lane_once

        not_own : (b : ℕ) (r : PendingInsert) → carries s b (cursors_of now b) ≡ Some r → (b ≡ a → ⊥)
        not_own b r e own = let here : carries s a (cursors_of now a) ≡ Some r = subst (λ (k : ℕ). carries s k (cursors_of now k) ≡ Some r) own e in
            let clash : Some r ≡ None = sym here ∙ ap (carries s a) moved.here ∙ hand_now in cc

        grows : (j x : ℕ) → stands j (queues_of w x) ≤ stands j (queues_of now x)
        grows j x = at_all (λ k (q : TimerQueue). stands j (queues_of w k) ≤ stands j q) (queues_of w) cpu q' (queues_of now) queued (let m = more j in omega arith) (λ k o. omega arith) x

        landed_here : (j x : ℕ) → p.i ≡ j → off (states_of w j) ≡ Some x → 1 ≤ stands j (queues_of now x)
        landed_here j x number e =
            let at : off (states_of w j) ≡ Some p.cpu = subst (λ (k : ℕ). off (states_of w k) ≡ Some p.cpu) number (listed_off (states_of w p.i) p.n p.cpu p.due (holds.carried.moves a p hand_was)) in
            let same : Some x ≡ Some p.cpu = sym e ∙ at in
            let x_is : x ≡ p.cpu = cc in
            subst (λ (k : ℕ). 1 ≤ stands j (queues_of now k)) (cpu_is ∙ sym x_is) (subst (λ (q : TimerQueue). 1 ≤ stands j q) (sym queued.here) (let m = more j in let one = one_if_same p.i j number in omega arith))

        whose : (j x b : ℕ) (r : PendingInsert) → off (states_of w j) ≡ Some x → (b ≡ a) ⊎ (b ≡ a → ⊥) → b < actor_count s → carries s b (cursors_of w b) ≡ Some r → r.i ≡ j →
            (1 ≤ stands j (queues_of now x)) ⊎ ((no_out ≡ Some j) ⊎ ((b' : ℕ) × (p' : PendingInsert) × (b' < actor_count s) × (carries s b' (cursors_of now b') ≡ Some p') × (p'.i ≡ j)))
        whose j x b r e (inl own) exists is number =
            let same : Some p ≡ Some r = sym hand_was ∙ subst (λ (k : ℕ). carries s k (cursors_of w k) ≡ Some r) own is in
            let one : p ≡ r = cc in
            inl (landed_here j x (ap (λ (y : PendingInsert). y.i) one ∙ number) e)
        whose j x b r e (inr other) exists is number = inr (inr (b, r, exists, ap (carries s b) (moved.else b other) ∙ is, number))

        listed : (j x : ℕ) → off (states_of w j) ≡ Some x → (1 ≤ stands j (queues_of w x)) ⊎ ((out ≡ Some j) ⊎ ((b : ℕ) × (r : PendingInsert) × (b < actor_count s) × (carries s b (cursors_of w b) ≡ Some r) × (r.i ≡ j))) →
            (1 ≤ stands j (queues_of now x)) ⊎ ((no_out ≡ Some j) ⊎ ((b : ℕ) × (r : PendingInsert) × (b < actor_count s) × (carries s b (cursors_of now b) ≡ Some r) × (r.i ≡ j)))
        listed j x e (inl some) = inl (let g = grows j x in omega arith)
        listed j x e (inr (inl removed)) = absurd (let clash : Some j ≡ None = sym removed ∙ out_none in cc)
        listed j x e (inr (inr held)) = whose j x held.0 held.1 e (decide held.0 a) held.2 held.3 held.4

        new_entry : (j n u : ℕ) → op ≡ Insert j n u → IsListed (states_of w j) n cpu (max u (queues_of w cpu).last)
        new_entry j n u e =
            let same : Insert p.i p.n p.due ≡ Insert j n u = sym op_is ∙ e in
            let number : p.i ≡ j = cc in
            let arming : p.n ≡ n = cc in
            let due : p.due ≡ u = cc in
            let mine : IsListed (states_of w p.i) p.n p.cpu (max p.due (queues_of w cpu).last) = listed_later (states_of w p.i) p.n p.cpu p.due (max p.due (queues_of w cpu).last) (max_left p.due (queues_of w cpu).last) (holds.carried.moves a p hand_was) in
            subst (λ (k : ℕ). IsListed (states_of w k) n cpu (max u (queues_of w cpu).last)) number (subst (λ (k : ℕ). IsListed (states_of w p.i) k cpu (max u (queues_of w cpu).last)) arming
            (subst (λ (k : ℕ). IsListed (states_of w p.i) p.n cpu (max k (queues_of w cpu).last)) due (subst (λ (k : ℕ). IsListed (states_of w p.i) p.n k (max p.due (queues_of w cpu).last)) (sym cpu_is) mine)))

        carried_now : IsCarried s (states_of now) (queues_of now) (cursors_of now) None
        carried_now =
            carried_queue s (states_of w) (queues_of w) (cursors_of w) out holds.carried (states_of now) (queues_of now) (cursors_of now) None a cpu q' to states queued moved
            (λ r e. absurd (let clash : Some r ≡ None = sym e ∙ hand_now in cc))
            (λ b r e it. (let other : p.i ≡ r.i → ⊥ = (λ same. not_own b r it (holds.carried.once b a r p e hand_was (sym same))) in let m = more r.i in let z = zero_if_other p.i r.i other in let before = holds.carried.apart b r cpu e in omega arith))
            (λ i x e. cc) (entries_on s ok w out holds a act cpu op q' reply change new_entry) (λ j x e. listed j x e (holds.carried.listed j x e))
