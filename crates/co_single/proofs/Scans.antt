-- What a scan leaves of each callout's entries in a queue whose expired list is empty: what is due has come due, once.
use Rattle.std.proofs.Common.{◌≡◌, ℕ, ◌≤◌, Bool, true, false, cond, not, ◌==◌, List, [], ◌∷◌, ◌++◌, map, length, max, refl, ap, sym, subst, ◌∙◌, arith, nat_le, nat_lt}
use Rattle.std.specs.List.{filter}
use Rattle.std.specs.declared.option.Option.{Option}
use Rattle.std.specs.declared.option.Option.TheVariants.{Some}
use Rattle.std.proofs.lemmas.Bool.Decides.{nat_tests}
use Rattle.co_object.specs.declared.state.Arming.{Arming}
use Rattle.co_object.specs.Queue.{Waiting, Due, Queue}
use Rattle.co_object.specs.Scan.{in_order, put_in_order, comes_first, due_by, as_due, is_direct, scanned}
use Rattle.co_object.proofs.EntriesKept.{max_left}
use Rattle.co_object.proofs.PassageOnce.{later}
use Rattle.co_queue.proofs.Lists.{filter-filter, filter-map}
use Rattle.co_single.specs.Alarms.{alarm_of, due_once}
use Rattle.co_single.specs.Rest.{IsListed, ArmingStands, nowhere, listed, due, entries_of, come}
use Rattle.co_single.proofs.Queues.{filter-in, filter-out}

module _ (m last : ℕ) (p : Waiting → Bool) where
  put-out : (x : Waiting) (ys : List Waiting) → p x ≡ false → filter p (put_in_order m last x ys) ≡ filter p ys
  put-out x [] h = ap (λ b. cond b (x ∷ []) []) h
  put-out x (y ∷ ys) h = at_test (comes_first m last x y) (put-out x ys h) where
    at_test : (b : Bool) → filter p (put_in_order m last x ys) ≡ filter p ys → filter p (cond b (x ∷ y ∷ ys) (y ∷ put_in_order m last x ys)) ≡ filter p (y ∷ ys)
    at_test true rest = ap (λ b. cond b (x ∷ filter p (y ∷ ys)) (filter p (y ∷ ys))) h
    at_test false rest = ap (λ zs. cond (p y) (y ∷ zs) zs) rest

  put-in : (x : Waiting) (ys : List Waiting) → p x ≡ true → filter p ys ≡ [] → filter p (put_in_order m last x ys) ≡ x ∷ []
  put-in x [] h g = ap (λ b. cond b (x ∷ []) []) h
  put-in x (y ∷ ys) h g = at_y (p y) refl (λ k. put-in x ys h k) where
    at_y : (b : Bool) → p y ≡ b → (filter p ys ≡ [] → filter p (put_in_order m last x ys) ≡ x ∷ []) → filter p (put_in_order m last x (y ∷ ys)) ≡ x ∷ []
    at_y true is rest = let f = ap (λ b. cond b (y ∷ filter p ys) (filter p ys)) is in let e = sym f ∙ g in cc
    at_y false is rest = at_test (comes_first m last x y) where
      none : filter p ys ≡ []
      none = sym (ap (λ b. cond b (y ∷ filter p ys) (filter p ys)) is) ∙ g

      at_test : (b : Bool) → filter p (cond b (x ∷ y ∷ ys) (y ∷ put_in_order m last x ys)) ≡ x ∷ []
      at_test true = ap (λ b. cond b (x ∷ filter p (y ∷ ys)) (filter p (y ∷ ys))) h ∙ ap (λ zs. x ∷ zs) g
      at_test false = ap (λ b. cond b (y ∷ filter p (put_in_order m last x ys)) (filter p (put_in_order m last x ys))) is ∙ rest none

  -- the order in which a scan takes entries out keeps none, and keeps one
  order-none : (xs : List Waiting) → filter p xs ≡ [] → filter p (in_order m last xs) ≡ []
  order-none [] h = refl
  order-none (x ∷ xs) h = at_test (p x) refl h (λ k. order-none xs k) where
    at_test : (b : Bool) → p x ≡ b → cond b (x ∷ filter p xs) (filter p xs) ≡ [] → (filter p xs ≡ [] → filter p (in_order m last xs) ≡ []) → filter p (put_in_order m last x (in_order m last xs)) ≡ []
    at_test true is h rest = cc
    at_test false is h rest = put-out x (in_order m last xs) is ∙ rest h

  order-one : (w : Waiting) (xs : List Waiting) → filter p xs ≡ w ∷ [] → filter p (in_order m last xs) ≡ w ∷ []
  order-one w [] h = cc
  order-one w (x ∷ xs) h = at_test (p x) refl h (λ k. order-one w xs k) where
    first : Waiting → List Waiting → Waiting
    first d [] = d
    first d (y ∷ ys) = y

    behind : List Waiting → List Waiting
    behind [] = []
    behind (y ∷ ys) = ys

    at_test : (b : Bool) → p x ≡ b → cond b (x ∷ filter p xs) (filter p xs) ≡ w ∷ [] → (filter p xs ≡ w ∷ [] → filter p (in_order m last xs) ≡ w ∷ []) → filter p (put_in_order m last x (in_order m last xs)) ≡ w ∷ []
    at_test true is h rest = put-in x (in_order m last xs) is (order-none xs (ap behind h)) ∙ ap (λ y. y ∷ []) (ap (first x) h)
    at_test false is h rest = put-out x (in_order m last xs) is ∙ rest h

le_true : (a b : ℕ) → a ≤ b → nat_le a b ≡ true
le_true a b h = grind (arith, nat_tests, h)

max_below : (a b c : ℕ) → a ≤ c → b ≤ c → max a b ≤ c
max_below a b c h k = omega (arith, h, k)

no_later : (at scan time t : ℕ) → t ≡ max at scan → scan ≤ time → nat_le t time ≡ false → nat_le at time ≡ false
no_later at scan time t is before late = go (nat_le at time) refl where
  go : (b : Bool) → nat_le at time ≡ b → b ≡ false
  go false h = refl
  go true h = let reached : at ≤ time = grind (arith, nat_tests, h) in
      let low : t ≤ time = subst (λ x. x ≤ time) (sym is) (max_below at scan time reached before) in
      let e = le_true t time low in cc

module _ (m : ℕ) (direct : List Bool) (q : Queue) (time : ℕ) (after : q.last ≤ time) (plain : (i : ℕ) → is_direct direct i ≡ false) (none : q.expired ≡ []) where
  abbrev v : Queue
  v = scanned m direct q time

  all_plain : (ws : List Waiting) → filter (λ w. not (is_direct direct w.i)) ws ≡ ws
  all_plain [] = refl
  all_plain (w ∷ ws) = ap (λ b. cond (not b) (w ∷ filter (λ w. not (is_direct direct w.i)) ws) (filter (λ w. not (is_direct direct w.i)) ws)) (plain w.i) ∙ ap (λ zs. w ∷ zs) (all_plain ws)

  none_direct : (ws : List Waiting) → filter (λ w. is_direct direct w.i) ws ≡ []
  none_direct [] = refl
  none_direct (w ∷ ws) = ap (λ b. cond b (w ∷ filter (λ w. is_direct direct w.i) ws) (filter (λ w. is_direct direct w.i) ws)) (plain w.i) ∙ none_direct ws

  pub expired_is : v.expired ≡ map as_due (due_by m q time)
  expired_is = ap (λ l. l ++ map as_due (filter (λ w. not (is_direct direct w.i)) (due_by m q time))) none ∙ ap (map as_due) (all_plain (due_by m q time))

  pub urgent_is : q.urgent ≡ [] → v.urgent ≡ []
  urgent_is h = ap (λ l. l ++ map as_due (filter (λ w. is_direct direct w.i) (due_by m q time))) h ∙ ap (map as_due) (none_direct (due_by m q time))

  come_is : (i : ℕ) → come v i ≡ map as_due (filter (λ w. w.i == i) (due_by m q time))
  come_is i = ap (filter (λ (d : Due). d.i == i)) expired_is ∙ filter-map as_due (λ (d : Due). d.i == i) (due_by m q time)

  stands_is : (i : ℕ) → entries_of v i ≡ filter (λ w. nat_lt time w.t) (entries_of q i)
  stands_is i = filter-filter (λ w. w.i == i) (λ w. nat_lt time w.t) q.content

  due_is : (i : ℕ) → filter (λ w. w.i == i) (filter (λ w. nat_le w.t time) q.content) ≡ filter (λ w. nat_le w.t time) (entries_of q i)
  due_is i = filter-filter (λ w. w.i == i) (λ w. nat_le w.t time) q.content

  none_comes : (i : ℕ) → filter (λ w. nat_le w.t time) (entries_of q i) ≡ [] → come v i ≡ []
  none_comes i h = come_is i ∙ ap (map as_due) (order-none m q.last (λ w. w.i == i) (filter (λ w. nat_le w.t time) q.content) (due_is i ∙ h))

  one_comes : (i : ℕ) (w : Waiting) → filter (λ w. nat_le w.t time) (entries_of q i) ≡ w ∷ [] → come v i ≡ as_due w ∷ []
  one_comes i w h = come_is i ∙ ap (map as_due) (order-one m q.last (λ w. w.i == i) w (filter (λ w. nat_le w.t time) q.content) (due_is i ∙ h))

  -- callout i's arming has its place after the scan, and has come due once where it is due
  pub record IsSorted (i : ℕ) (o : Option Arming) : Type 0 where
    pub placed : ArmingStands v i o
    pub once : length (come v i) ≡ due_once (alarm_of o) time

  listed_then : (i : ℕ) (a : Arming) (l : IsListed q i a) (b : Bool) → nat_le l.entry.t time ≡ b → IsSorted i (Some a)
  listed_then i a l true h =
      let w = l.entry in
      let comes : come v i ≡ as_due w ∷ [] = one_comes i w (ap (filter (λ (w : Waiting). nat_le w.t time)) l.stands ∙ filter-in (λ (w : Waiting). nat_le w.t time) w h) in
      let reached : w.t ≤ time = grind (arith, nat_tests, h) in
      let left : a.due ≤ max a.due l.scan = max_left a.due l.scan in
      let is = l.time in
      let over : a.due ≤ time = omega (arith, reached, left, is) in record {
        placed = due a (record {
          entry = as_due w;
          none_stands = stands_is i ∙ (ap (filter (λ (w : Waiting). nat_lt time w.t)) l.stands ∙ filter-out (λ (w : Waiting). nat_lt time w.t) w (later time w.t ∙ ap not h));
          comes = comes;
          number = l.number;
          due = over;
        });
        once = ap (λ (ds : List Due). length ds) comes ∙ sym (ap (λ b. cond {A = ℕ} b 1 0) (le_true a.due time over));
      }
  listed_then i a l false h =
      let w = l.entry in
      let comes : come v i ≡ [] = none_comes i (ap (filter (λ (w : Waiting). nat_le w.t time)) l.stands ∙ filter-out (λ (w : Waiting). nat_le w.t time) w h) in
      let passed = l.passed in
      let before : l.scan ≤ time = omega (arith, passed, after) in record {
        placed = listed a (record {
          entry = w;
          scan = l.scan;
          stands = stands_is i ∙ (ap (filter (λ (w : Waiting). nat_lt time w.t)) l.stands ∙ filter-in (λ (w : Waiting). nat_lt time w.t) w (later time w.t ∙ ap not h));
          none_come = comes;
          number = l.number;
          time = l.time;
          passed = before;
        });
        once = ap (λ (ds : List Due). length ds) comes ∙ sym (ap (λ b. cond {A = ℕ} b 1 0) (no_later a.due l.scan time w.t l.time before h));
      }

  pub sorted : (i : ℕ) (o : Option Arming) → ArmingStands q i o → IsSorted i o
  sorted i o (nowhere s c) =
      let comes : come v i ≡ [] = none_comes i (ap (filter (λ (w : Waiting). nat_le w.t time)) s) in record {
        placed = nowhere (stands_is i ∙ ap (filter (λ (w : Waiting). nat_lt time w.t)) s) comes;
        once = ap (λ (ds : List Due). length ds) comes;
      }
  sorted i o (listed a l) = listed_then i a l (nat_le l.entry.t time) refl
  sorted i o (due a h) = let e = sym (ap (filter (λ (d : Due). d.i == i)) none) ∙ h.comes in absurd (cc)
