-- Every step keeps each listed arming in one queue or in one hand.
use Rattle.std.proofs.Common.{◌≡◌, ℕ, zero, suc, ◌+◌, ◌≤◌, ◌<◌, ◌⊎◌, Bool, true, false, cond, List, [], ◌∷◌, inl, inr, refl, sym, ap, subst, ◌∙◌, arith, eqb-true, Option, Some, None}
use Rattle.std.specs.Prelude.{◌==◌}
use Rattle.co_object.specs.declared.State.{State}
use Rattle.co_object.specs.declared.Arming.{Arming}
use Rattle.co_object.specs.Stand.{off, is_free_at, stand_of, listed_cpu, Listed, Deferred}
use Rattle.co_object.specs.Queue.{Waiting, Due, Queue as TimerQueue}
use Rattle.co_object.proofs.Each.{Each}
use Rattle.co_object.proofs.Passing.{passing, one_if}
use Rattle.co_object.proofs.PassageOnce.{stands}
use Rattle.co_program.specs.declared.Script.{Script}
use Rattle.co_program.specs.Actors.{actor_count}
use Rattle.co_program.specs.Cursor.{Cursor}
use Rattle.co_program.specs.declared.PendingInsert.{PendingInsert}
use Rattle.co_world.proofs.kept.Invariant.{IsListed, IsCarried, carries}
use Rattle.co_object.proofs.EntriesKept.{EntriesFit}
use Rattle.co_world.proofs.basics.Changes.{IsAt, decide, at_all}
use Rattle.co_world.proofs.kept.Lanes.{entries_all, entries_both, entries_stand}

-- ---- where a listed arming is

pub off_listed : (state : State) (arming : Arming) → state.armed ≡ Some arming → is_free_at state.run arming.cpu ≡ true → off state ≡ Some arming.cpu
off_listed state arming armed free = ap (λ o. listed_cpu (stand_of o state.run)) armed ∙ ap (λ b. listed_cpu (cond b (Listed arming.cpu) (Deferred arming.cpu))) free

pub listed_off : (state : State) (n cpu t : ℕ) → IsListed state n cpu t → off state ≡ Some cpu
listed_off state n cpu t h = off_listed state h.arming h.armed (subst (λ (x : ℕ). is_free_at state.run x ≡ true) (sym h.place) h.free) ∙ ap Some h.place

pub listed_later : (state : State) (n cpu t u : ℕ) → t ≤ u → IsListed state n cpu t → IsListed state n cpu u
listed_later state n cpu t u later h = record { arming = h.arming; armed = h.armed; number = h.number; place = h.place; due = (let d = h.due in omega arith); free = h.free }

-- an arming as the state has it
pub listed_arming : (state : State) (arming : Arming) (cpu : ℕ) → state.armed ≡ Some arming → off state ≡ Some cpu → IsListed state arming.n arming.cpu arming.due × (arming.cpu ≡ cpu)
listed_arming state arming cpu armed is = go (is_free_at state.run arming.cpu) refl (sym (ap (λ o. listed_cpu (stand_of o state.run)) armed) ∙ is) where
  go : (b : Bool) → is_free_at state.run arming.cpu ≡ b → listed_cpu (cond b (Listed arming.cpu) (Deferred arming.cpu)) ≡ Some cpu → IsListed state arming.n arming.cpu arming.due × (arming.cpu ≡ cpu)
  go true free h = (record { arming = arming; armed = armed; number = refl; place = refl; due = omega arith; free = free }, cc)
  go false free h = cc

-- an entry of a callout that stands in a list
each_found : {X : Type 0} (key : X → ℕ) (P : X → Type 0) (i : ℕ) (xs : List X) → Each P xs → 1 ≤ passing (λ x. key x == i) xs → (x : X) × (key x ≡ i) × P x
each_found key P i [] h stands = absurd (omega arith)
each_found key P i (x ∷ xs) h stands = go (key x == i) refl (λ rest. each_found key P i xs h.1 rest) where
  go : (b : Bool) → (key x == i) ≡ b → (1 ≤ passing (λ x. key x == i) xs → (x : _) × (key x ≡ i) × P x) → (x : _) × (key x ≡ i) × P x
  go true is rest = (x, eqb-true (key x) i is, h.0)
  go false is rest = rest (let zero_here : one_if (λ x'. key x' == i) x ≡ 0 = ap (λ (b : Bool). cond b 1 0) is in omega arith)

one_of : (x y z : ℕ) → 1 ≤ x + y + z → (1 ≤ x) ⊎ ((1 ≤ y) ⊎ (1 ≤ z))
one_of x y z h = grind arith

-- an entry of a callout that stands in a queue
pub entry_found : (P : ℕ → ℕ → ℕ → Type 0) (i : ℕ) (q : TimerQueue) → EntriesFit P q → 1 ≤ stands i q → (n : ℕ) × (t : ℕ) × P i n t
entry_found P i q fit h = go (one_of (passing (λ (w : Waiting). w.i == i) q.content) (passing (λ (d : Due). d.i == i) q.expired) (passing (λ (d : Due). d.i == i) q.urgent) h) where
  go : (1 ≤ passing (λ (w : Waiting). w.i == i) q.content) ⊎ ((1 ≤ passing (λ (d : Due). d.i == i) q.expired) ⊎ (1 ≤ passing (λ (d : Due). d.i == i) q.urgent)) → (n : ℕ) × (t : ℕ) × P i n t
  go (inl k) = let found = each_found (λ (w : Waiting). w.i) (λ w. P w.i w.n w.t) i q.content fit.content k in (found.0.n, found.0.t, subst (λ (x : ℕ). P x found.0.n found.0.t) found.1 found.2)
  go (inr (inl k)) = let found = each_found (λ (d : Due). d.i) (λ d. P d.i d.n q.last) i q.expired fit.expired k in (found.0.n, q.last, subst (λ (x : ℕ). P x found.0.n q.last) found.1 found.2)
  go (inr (inr k)) = let found = each_found (λ (d : Due). d.i) (λ d. P d.i d.n q.last) i q.urgent fit.urgent k in (found.0.n, q.last, subst (λ (x : ℕ). P x found.0.n q.last) found.1 found.2)

-- no callout has just been removed
abbrev pub no_out : Option ℕ
no_out = None

zero_or : (n : ℕ) → (1 ≤ n → ⊥) → n ≡ 0
zero_or n h = go n h where
  go : (n : ℕ) → (1 ≤ n → ⊥) → n ≡ 0
  go zero h = refl
  go (suc n) h = absurd (h (omega arith))

module _ (s : Script) (states : ℕ → State) (queues : ℕ → TimerQueue) (cursors : ℕ → Cursor) (out : Option ℕ) (carried : IsCarried s states queues cursors out) where
  -- a callout that no arming lists stands nowhere, and else in that queue alone
  pub stands_listed : (i cpu : ℕ) → 1 ≤ stands i (queues cpu) → off (states i) ≡ Some cpu
  stands_listed i cpu h = let found = entry_found (λ j n t. IsListed (states j) n cpu t) i (queues cpu) (carried.entries cpu) h in listed_off (states i) found.0 cpu found.1 found.2

  pub unlisted : (i : ℕ) → off (states i) ≡ None → (cpu : ℕ) → stands i (queues cpu) ≡ 0
  unlisted i is cpu = zero_or (stands i (queues cpu)) (λ h. (let there : off (states i) ≡ Some cpu = stands_listed i cpu h in cc))

  pub elsewhere : (i cpu x : ℕ) → off (states i) ≡ Some cpu → (x ≡ cpu → ⊥) → stands i (queues x) ≡ 0
  elsewhere i cpu x is other = zero_or (stands i (queues x)) (λ h. (let there : off (states i) ≡ Some x = stands_listed i x h in other cc))

  -- nobody else has the callout, in hand or in a queue
  pub record Nobody (a i : ℕ) : Type 0 where
    pub hands : (b : ℕ) (p : PendingInsert) → (b ≡ a → ⊥) → carries s b (cursors b) ≡ Some p → p.i ≡ i → ⊥
    pub rests : (cpu : ℕ) → stands i (queues cpu) ≡ 0

  -- ---- a callout changes its state

  module _ (after : ℕ → State) (cursors' : ℕ → Cursor) (a i : ℕ) (state : State) (to : Cursor) (here : IsAt states i state after) (at : IsAt cursors a to cursors')
      (may : a < actor_count s)
      (only : (p : PendingInsert) → carries s a (cursors a) ≡ Some p → p.i ≡ i)
      (gone : (j : ℕ) → out ≡ Some j → j ≡ i)
      (fits : ((n cpu t : ℕ) → IsListed (states i) n cpu t → IsListed state n cpu t) ⊎ Nobody a i)
      (hand : (carries s a to ≡ None) ⊎ ((p : PendingInsert) × (carries s a to ≡ Some p) × (p.i ≡ i) × IsListed state p.n p.cpu p.due × Nobody a i))
      (stays : (cpu : ℕ) → off state ≡ Some cpu → (1 ≤ stands i (queues cpu)) ⊎ (((p : PendingInsert) × (carries s a to ≡ Some p) × (p.i ≡ i))
      ⊎ ((b : ℕ) × (p : PendingInsert) × (b ≡ a → ⊥) × (b < actor_count s) × (carries s b (cursors b) ≡ Some p) × (p.i ≡ i)))) where
    -- what an actor has in hand now, it had, or it is the callout's new arming
    abbrev New : PendingInsert → Type 0
    New p = (p.i ≡ i) × IsListed state p.n p.cpu p.due × Nobody a i

    abbrev Was : ℕ → Cursor → Type 0
    Was b c = (p : PendingInsert) → carries s b c ≡ Some p → ((b ≡ a → ⊥) × (carries s b (cursors b) ≡ Some p)) ⊎ ((b ≡ a) × New p)

    was_new : Was a to
    was_new p is = go hand where
      go : (carries s a to ≡ None) ⊎ ((r : PendingInsert) × (carries s a to ≡ Some r) × (r.i ≡ i) × IsListed state r.n r.cpu r.due × Nobody a i) → ((a ≡ a → ⊥) × (carries s a (cursors a) ≡ Some p)) ⊎ ((a ≡ a) × New p)
      go (inl none) = cc
      go (inr has) =
          let same : has.0 ≡ p = cc (sym has.1 ∙ is) in
          inr (refl, subst New same (has.2, has.3, has.4))

    was : (b : ℕ) → Was b (cursors' b)
    was = at_all Was cursors a to cursors' at was_new (λ b other p is. inl (other, is))

    states_else : (j : ℕ) → (j ≡ i → ⊥) → after j ≡ states j
    states_else = here.else

    listed_on : (b : ℕ) (p : PendingInsert) → (b ≡ a → ⊥) → carries s b (cursors b) ≡ Some p → IsListed (after p.i) p.n p.cpu p.due
    listed_on b p other is = go (decide p.i i) fits where
      before : IsListed (states p.i) p.n p.cpu p.due
      before = carried.moves b p is

      go : (p.i ≡ i) ⊎ (p.i ≡ i → ⊥) → ((n cpu t : ℕ) → IsListed (states i) n cpu t → IsListed state n cpu t) ⊎ Nobody a i → IsListed (after p.i) p.n p.cpu p.due
      go (inl same) (inl keeps) = subst (λ (k : ℕ). IsListed (after k) p.n p.cpu p.due) (sym same) (subst (λ (x : State). IsListed x p.n p.cpu p.due) (sym here.here) (keeps p.n p.cpu p.due (subst (λ (k : ℕ). IsListed (states k) p.n p.cpu p.due) same before)))
      go (inl same) (inr nobody) = absurd (nobody.hands b p other is same)
      go (inr else) f = subst (λ (x : State). IsListed x p.n p.cpu p.due) (sym (states_else p.i else)) before

    moves_now : (b : ℕ) (p : PendingInsert) → carries s b (cursors' b) ≡ Some p → IsListed (after p.i) p.n p.cpu p.due
    moves_now b p is = go (was b p is) where
      go : ((b ≡ a → ⊥) × (carries s b (cursors b) ≡ Some p)) ⊎ ((b ≡ a) × New p) → IsListed (after p.i) p.n p.cpu p.due
      go (inl old) = listed_on b p old.0 old.1
      go (inr new) = subst (λ (k : ℕ). IsListed (after k) p.n p.cpu p.due) (sym new.1.0) (subst (λ (x : State). IsListed x p.n p.cpu p.due) (sym here.here) new.1.1)

    once_now : (b d : ℕ) (p r : PendingInsert) → carries s b (cursors' b) ≡ Some p → carries s d (cursors' d) ≡ Some r → p.i ≡ r.i → b ≡ d
    once_now b d p r is it same = go (was b p is) (was d r it) where
      go : ((b ≡ a → ⊥) × (carries s b (cursors b) ≡ Some p)) ⊎ ((b ≡ a) × New p) → ((d ≡ a → ⊥) × (carries s d (cursors d) ≡ Some r)) ⊎ ((d ≡ a) × New r) → b ≡ d
      go (inl old) (inl other) = carried.once b d p r old.1 other.1 same
      go (inl old) (inr new) = absurd (new.1.2.hands b p old.0 old.1 (same ∙ new.1.0))
      go (inr new) (inl old) = absurd (new.1.2.hands d r old.0 old.1 (sym same ∙ new.1.0))
      go (inr new) (inr other) = new.0 ∙ sym other.0

    apart_now : (b : ℕ) (p : PendingInsert) (cpu : ℕ) → carries s b (cursors' b) ≡ Some p → stands p.i (queues cpu) ≡ 0
    apart_now b p cpu is = go (was b p is) where
      go : ((b ≡ a → ⊥) × (carries s b (cursors b) ≡ Some p)) ⊎ ((b ≡ a) × New p) → stands p.i (queues cpu) ≡ 0
      go (inl old) = carried.apart b p cpu old.1
      go (inr new) = subst (λ (k : ℕ). stands k (queues cpu) ≡ 0) (sym new.1.0) (new.1.2.rests cpu)

    entries_now : (cpu : ℕ) → EntriesFit (λ j n t. IsListed (after j) n cpu t) (queues cpu)
    entries_now cpu =
        entries_all (λ j n t. IsListed (states j) n cpu t × (1 ≤ stands j (queues cpu))) (λ j n t. IsListed (after j) n cpu t) (λ j n t h. go j n t h (decide j i) fits) (queues cpu)
        (entries_both (λ j n t. IsListed (states j) n cpu t) (λ j n t. 1 ≤ stands j (queues cpu)) (queues cpu) (carried.entries cpu) (entries_stand (queues cpu))) where
          go : (j n t : ℕ) → IsListed (states j) n cpu t × (1 ≤ stands j (queues cpu)) → (j ≡ i) ⊎ (j ≡ i → ⊥) → ((n cpu t : ℕ) → IsListed (states i) n cpu t → IsListed state n cpu t) ⊎ Nobody a i → IsListed (after j) n cpu t
          go j n t h (inl same) (inl keeps) = subst (λ (k : ℕ). IsListed (after k) n cpu t) (sym same) (subst (λ (x : State). IsListed x n cpu t) (sym here.here) (keeps n cpu t (subst (λ (k : ℕ). IsListed (states k) n cpu t) same h.0)))
          go j n t h (inl same) (inr nobody) = absurd (let none : stands j (queues cpu) ≡ 0 = subst (λ (k : ℕ). stands k (queues cpu) ≡ 0) (sym same) (nobody.rests cpu) in let some = h.1 in omega arith)
          go j n t h (inr else) f = subst (λ (x : State). IsListed x n cpu t) (sym (states_else j else)) h.0

    abbrev InHand : ℕ → Type 0
    InHand j = (b : ℕ) × (p : PendingInsert) × (b < actor_count s) × (carries s b (cursors' b) ≡ Some p) × (p.i ≡ j)

    in_hand_here : (p : PendingInsert) (j : ℕ) → carries s a to ≡ Some p → p.i ≡ j → InHand j
    in_hand_here p j is number = (a, p, may, ap (carries s a) at.here ∙ is, number)

    in_hand_else : (b : ℕ) (p : PendingInsert) (j : ℕ) → (b ≡ a → ⊥) → b < actor_count s → carries s b (cursors b) ≡ Some p → p.i ≡ j → InHand j
    in_hand_else b p j other exists is number = (b, p, exists, ap (carries s b) (at.else b other) ∙ is, number)

    listed_now : (j cpu : ℕ) → off (after j) ≡ Some cpu → (1 ≤ stands j (queues cpu)) ⊎ ((no_out ≡ Some j) ⊎ InHand j)
    listed_now j cpu is = at_number (decide j i) where
      here_now : (j ≡ i) → (1 ≤ stands i (queues cpu)) ⊎ (((p : PendingInsert) × (carries s a to ≡ Some p) × (p.i ≡ i)) ⊎ ((b : ℕ) × (p : PendingInsert) × (b ≡ a → ⊥) × (b < actor_count s) × (carries s b (cursors b) ≡ Some p) × (p.i ≡ i))) →
          (1 ≤ stands j (queues cpu)) ⊎ ((no_out ≡ Some j) ⊎ InHand j)
      here_now same (inl some) = inl (subst (λ (k : ℕ). 1 ≤ stands k (queues cpu)) (sym same) some)
      here_now same (inr (inl own)) = inr (inr (in_hand_here own.0 j own.1 (own.2 ∙ sym same)))
      here_now same (inr (inr other)) = inr (inr (in_hand_else other.0 other.1 j other.2 other.3 other.4 (other.5 ∙ sym same)))

      else_now : (j ≡ i → ⊥) → (1 ≤ stands j (queues cpu)) ⊎ ((out ≡ Some j) ⊎ ((b : ℕ) × (p : PendingInsert) × (b < actor_count s) × (carries s b (cursors b) ≡ Some p) × (p.i ≡ j))) →
          (1 ≤ stands j (queues cpu)) ⊎ ((no_out ≡ Some j) ⊎ InHand j)
      else_now other (inl some) = inl some
      else_now other (inr (inl removed)) = absurd (other (gone j removed))
      else_now other (inr (inr has)) = whose (decide has.0 a) where
        whose : (has.0 ≡ a) ⊎ (has.0 ≡ a → ⊥) → (1 ≤ stands j (queues cpu)) ⊎ ((no_out ≡ Some j) ⊎ InHand j)
        whose (inl own) = absurd (other (sym has.4 ∙ only has.1 (subst (λ (b : ℕ). carries s b (cursors b) ≡ Some has.1) own has.3)))
        whose (inr else) = inr (inr (in_hand_else has.0 has.1 j else has.2 has.3 has.4))

      at_number : (j ≡ i) ⊎ (j ≡ i → ⊥) → (1 ≤ stands j (queues cpu)) ⊎ ((no_out ≡ Some j) ⊎ InHand j)
      at_number (inl same) = here_now same (stays cpu (sym (ap off (ap after same ∙ here.here)) ∙ is))
      at_number (inr other) = else_now other (carried.listed j cpu (sym (ap off (states_else j other)) ∙ is))

    pub carried_state : IsCarried s after queues cursors' None
    carried_state = record { moves = moves_now; once = once_now; apart = apart_now; away = λ j cpu is. cc; entries = entries_now; listed = listed_now }

  -- ---- a queue changes

  module _ (after : ℕ → State) (queues' : ℕ → TimerQueue) (cursors' : ℕ → Cursor) (out' : Option ℕ) (a cpu : ℕ) (q' : TimerQueue) (to : Cursor)
      (same : (j : ℕ) → after j ≡ states j) (here : IsAt queues cpu q' queues') (at : IsAt cursors a to cursors')
      (hand : (p : PendingInsert) → carries s a to ≡ Some p → (carries s a (cursors a) ≡ Some p)
      ⊎ (IsListed (states p.i) p.n p.cpu p.due × ((b : ℕ) (r : PendingInsert) → (b ≡ a → ⊥) → carries s b (cursors b) ≡ Some r → r.i ≡ p.i → ⊥) × ((x : ℕ) → stands p.i (queues' x) ≡ 0)))
      (apart : (b : ℕ) (p : PendingInsert) → carries s b (cursors b) ≡ Some p → carries s b (cursors' b) ≡ Some p → stands p.i q' ≡ 0)
      (away : (i x : ℕ) → out' ≡ Some i → stands i (queues' x) ≡ 0)
      (entries : EntriesFit (λ i n t. IsListed (states i) n cpu t) q')
      (listed : (i x : ℕ) → off (states i) ≡ Some x →
      (1 ≤ stands i (queues' x)) ⊎ ((out' ≡ Some i) ⊎ ((b : ℕ) × (p : PendingInsert) × (b < actor_count s) × (carries s b (cursors' b) ≡ Some p) × (p.i ≡ i)))) where
    abbrev Got : PendingInsert → Type 0
    Got p = IsListed (states p.i) p.n p.cpu p.due × ((b : ℕ) (r : PendingInsert) → (b ≡ a → ⊥) → carries s b (cursors b) ≡ Some r → r.i ≡ p.i → ⊥) × ((x : ℕ) → stands p.i (queues' x) ≡ 0)

    abbrev Had : ℕ → Cursor → Type 0
    Had b c = (p : PendingInsert) → carries s b c ≡ Some p → (carries s b (cursors b) ≡ Some p) ⊎ ((b ≡ a) × Got p)

    had_new : Had a to
    had_new p is = go (hand p is) where
      go : (carries s a (cursors a) ≡ Some p) ⊎ Got p → (carries s a (cursors a) ≡ Some p) ⊎ ((a ≡ a) × Got p)
      go (inl old) = inl old
      go (inr new) = inr (refl, new)

    had : (b : ℕ) → Had b (cursors' b)
    had = at_all Had cursors a to cursors' at had_new (λ b other p is. inl is)

    states_same : (j n x t : ℕ) → IsListed (states j) n x t → IsListed (after j) n x t
    states_same j n x t h = subst (λ (z : State). IsListed z n x t) (sym (same j)) h

    moves_kept : (b : ℕ) (p : PendingInsert) → carries s b (cursors' b) ≡ Some p → IsListed (after p.i) p.n p.cpu p.due
    moves_kept b p is = go (had b p is) where
      go : (carries s b (cursors b) ≡ Some p) ⊎ ((b ≡ a) × Got p) → IsListed (after p.i) p.n p.cpu p.due
      go (inl old) = states_same p.i p.n p.cpu p.due (carried.moves b p old)
      go (inr new) = states_same p.i p.n p.cpu p.due new.1.0

    new_alone : (d : ℕ) (r p : PendingInsert) → Got p → carries s d (cursors d) ≡ Some r → r.i ≡ p.i → d ≡ a
    new_alone d r p new is number = go (decide d a) where
      go : (d ≡ a) ⊎ (d ≡ a → ⊥) → d ≡ a
      go (inl own) = own
      go (inr other) = absurd (new.1 d r other is number)

    once_kept : (b d : ℕ) (p r : PendingInsert) → carries s b (cursors' b) ≡ Some p → carries s d (cursors' d) ≡ Some r → p.i ≡ r.i → b ≡ d
    once_kept b d p r is it number = go (had b p is) (had d r it) where
      go : (carries s b (cursors b) ≡ Some p) ⊎ ((b ≡ a) × Got p) → (carries s d (cursors d) ≡ Some r) ⊎ ((d ≡ a) × Got r) → b ≡ d
      go (inl old) (inl other) = carried.once b d p r old other number
      go (inl old) (inr new) = new_alone b p r new.1 old number ∙ sym new.0
      go (inr new) (inl old) = new.0 ∙ sym (new_alone d r p new.1 old (sym number))
      go (inr new) (inr other) = new.0 ∙ sym other.0

    apart_kept : (b : ℕ) (p : PendingInsert) (x : ℕ) → carries s b (cursors' b) ≡ Some p → stands p.i (queues' x) ≡ 0
    apart_kept b p x is = go (had b p is) where
      go : (carries s b (cursors b) ≡ Some p) ⊎ ((b ≡ a) × Got p) → stands p.i (queues' x) ≡ 0
      go (inl old) = at_all (λ k (q : TimerQueue). stands p.i q ≡ 0) queues cpu q' queues' here (apart b p old is) (λ k other. carried.apart b p k old) x
      go (inr new) = new.1.2 x

    entries_kept : (x : ℕ) → EntriesFit (λ j n t. IsListed (after j) n x t) (queues' x)
    entries_kept x =
        entries_all (λ j n t. IsListed (states j) n x t) (λ j n t. IsListed (after j) n x t) (λ j n t h. states_same j n x t h) (queues' x)
        (at_all (λ k (q : TimerQueue). EntriesFit (λ j n t. IsListed (states j) n k t) q) queues cpu q' queues' here entries (λ k other. carried.entries k) x)

    pub carried_queue : IsCarried s after queues' cursors' out'
    carried_queue = record { moves = moves_kept; once = once_kept; apart = apart_kept; away = away; entries = entries_kept; listed = λ i x is. listed i x (sym (ap off (same i)) ∙ is) }
