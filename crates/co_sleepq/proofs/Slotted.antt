-- A book's slots and its buckets go on together.
use Rattle.std.proofs.Common.{◌≡◌, ◌≢◌, ℕ, zero, suc, ◌+◌, ◌<◌, ◌≤◌, ◌==◌, ◌&&◌, Bool, true, false, not, cond, List, [], ◌∷◌, ◌++◌, length, get_or, set, map, refl, ap, sym, ◌∙◌, subst, arith, is_some, inl, inr}
use Rattle.std.specs.Prelude.{if◌then◌else◌}
use Rattle.std.specs.List.{Contains, filter, find}
use Rattle.std.specs.Option.{IfNone, IfSome}
use Rattle.std.specs.declared.option.Option.{Option}
use Rattle.std.specs.declared.option.Option.TheVariants.{Some, None}
use Rattle.std.proofs.lemmas.Bool.{cases_eq, eq-eqb}
use Rattle.std.proofs.lemmas.Bool.Decides.{nat_tests}
use Rattle.std.proofs.lemmas.List.{get_or-set_same, get_or-set_other, get_or_past, length-set}
use Rattle.co_sleepq.specs.declared.sleep.Sleep.{Sleep}
use Rattle.co_sleepq.specs.Sleepers.{is_asleep, on, elsewhere, without}
use Rattle.co_sleepq.specs.Slots.{AreBuckets, AreSlots, BucketView, bucket_at, channel_bucket, bucket_sleeps, no_bucket, sleeps_in, slot_at}
use Rattle.co_sleepq.specs.Book.{IsBook}
use Rattle.co_sleepq.proofs.Placed.{Each, any_in, begun_in, each_contained, each_contains, each_filter, each_in, few_in, filter_no, filter_yes, found, found_each, keep, kept_at, kept_in, none_found, none_in, room_in, some_is}

test_same : (m n : ℕ) → m ≡ n → (m == n) ≡ true
test_same m n h = eq-eqb m n h

test_other : (m n : ℕ) → m ≢ n → (m == n) ≡ false
test_other m n h = grind (arith, nat_tests)

equal : (m n : ℕ) → (m == n) ≡ true → m ≡ n
equal m n h = grind (arith, nat_tests)

none-some : {A : Type 0} (a : A) → None ≡ Some a → ⊥
none-some a h = cc

true_false : true ≡ false → ⊥
true_false h = cc

-- ---- two filters

module _ (p q : Sleep → Bool) where
  spared_step : (x : Sleep) (xs : List Sleep) (a b : Bool) → p x ≡ a → q x ≡ b → (q x ≡ true → p x ≡ true) → filter q (filter p xs) ≡ filter q xs → filter q (filter p (x ∷ xs)) ≡ filter q (x ∷ xs)
  spared_step x xs true true h g spares rest = ap (filter q) (filter_yes p x xs h) ∙ (filter_yes q x (filter p xs) g ∙ (ap (λ l. x ∷ l) rest ∙ sym (filter_yes q x xs g)))
  spared_step x xs true false h g spares rest = ap (filter q) (filter_yes p x xs h) ∙ (filter_no q x (filter p xs) g ∙ (rest ∙ sym (filter_no q x xs g)))
  spared_step x xs false true h g spares rest = absurd (true_false (sym (spares g) ∙ h))
  spared_step x xs false false h g spares rest = ap (filter q) (filter_no p x xs h) ∙ (rest ∙ sym (filter_no q x xs g))

  -- a filter that spares all that another keeps
  filter_spared : (xs : List Sleep) → Each (λ y. q y ≡ true → p y ≡ true) xs → filter q (filter p xs) ≡ filter q xs
  filter_spared [] e = refl
  filter_spared (x ∷ xs) e = spared_step x xs (p x) (q x) refl refl e.0 (filter_spared xs e.1)

  swap_step : (x : Sleep) (xs : List Sleep) (a b : Bool) → p x ≡ a → q x ≡ b → filter p (filter q xs) ≡ filter q (filter p xs) → filter p (filter q (x ∷ xs)) ≡ filter q (filter p (x ∷ xs))
  swap_step x xs true true h g rest =
      ap (filter p) (filter_yes q x xs g)
      ∙ (filter_yes p x (filter q xs) h ∙ (ap (λ l. x ∷ l) rest ∙ (sym (filter_yes q x (filter p xs) g) ∙ ap (filter q) (sym (filter_yes p x xs h)))))
  swap_step x xs true false h g rest = ap (filter p) (filter_no q x xs g) ∙ (rest ∙ (sym (filter_no q x (filter p xs) g) ∙ ap (filter q) (sym (filter_yes p x xs h))))
  swap_step x xs false true h g rest = ap (filter p) (filter_yes q x xs g) ∙ (filter_no p x (filter q xs) h ∙ (rest ∙ ap (filter q) (sym (filter_no p x xs h))))
  swap_step x xs false false h g rest = ap (filter p) (filter_no q x xs g) ∙ (rest ∙ ap (filter q) (sym (filter_no p x xs h)))

  filter_swap : (xs : List Sleep) → filter p (filter q xs) ≡ filter q (filter p xs)
  filter_swap [] = refl
  filter_swap (x ∷ xs) = swap_step x xs (p x) (q x) refl refl (filter_swap xs)

  find_step : (x : Sleep) (xs : List Sleep) (a b : Bool) → p x ≡ a → q x ≡ b → (q x ≡ true → p x ≡ true) → find q (filter p xs) ≡ find q xs → find q (filter p (x ∷ xs)) ≡ find q (x ∷ xs)
  find_step x xs true b h g spares rest = ap (find q) (filter_yes p x xs h) ∙ ap (λ o. cond (q x) (Some x) o) rest
  find_step x xs false true h g spares rest = absurd (true_false (sym (spares g) ∙ h))
  find_step x xs false false h g spares rest = ap (find q) (filter_no p x xs h) ∙ (rest ∙ sym (ap (λ c. cond c (Some x) (find q xs)) g))

  find_spared : (xs : List Sleep) → ((x : Sleep) → q x ≡ true → p x ≡ true) → find q (filter p xs) ≡ find q xs
  find_spared [] e = refl
  find_spared (x ∷ xs) e = find_step x xs (p x) (q x) refl refl (e x) (find_spared xs e)

each_all : (P : Sleep → Type 0) (xs : List Sleep) → ((x : Sleep) → P x) → Each P xs
each_all P [] h = tt
each_all P (x ∷ xs) h = (h x, each_all P xs h)

filter_snoc : (p : Sleep → Bool) (xs : List Sleep) (x : Sleep) → filter p (xs ++ x ∷ []) ≡ filter p xs ++ filter p (x ∷ [])
filter_snoc p [] x = refl
filter_snoc p (y ∷ ys) x = go (p y) refl (filter_snoc p ys x) where
  go : (b : Bool) → p y ≡ b → filter p (ys ++ x ∷ []) ≡ filter p ys ++ filter p (x ∷ []) → filter p (y ∷ (ys ++ x ∷ [])) ≡ filter p (y ∷ ys) ++ filter p (x ∷ [])
  go true h rest = filter_yes p y (ys ++ x ∷ []) h ∙ (ap (λ l. y ∷ l) rest ∙ ap (λ l. l ++ filter p (x ∷ [])) (sym (filter_yes p y ys h)))
  go false h rest = filter_no p y (ys ++ x ∷ []) h ∙ (rest ∙ ap (λ l. l ++ filter p (x ∷ [])) (sym (filter_no p y ys h)))

append_none : (xs : List Sleep) → xs ≡ xs ++ []
append_none [] = refl
append_none (x ∷ xs) = ap (λ l. x ∷ l) (append_none xs)

filter_few : (p : Sleep → Bool) (xs : List Sleep) → length (filter p xs) ≤ length xs
filter_few p [] = omega arith
filter_few p (x ∷ xs) = go (p x) refl (filter_few p xs) where
  go : (b : Bool) → p x ≡ b → length (filter p xs) ≤ length xs → length (filter p (x ∷ xs)) ≤ length (x ∷ xs)
  go true h rest = let e = ap length (filter_yes p x xs h) in omega (arith, e, rest)
  go false h rest = let e = ap length (filter_no p x xs h) in omega (arith, e, rest)

-- ---- slots

abbrev pub Slots : Type 0
Slots = List (Option Sleep)

within : (slots : Slots) (i : ℕ) (x : Sleep) → slot_at slots i ≡ Some x → i < length slots
within slots i x at = grind (arith, get_or_past)

-- some sleeps are gone
pub fewer_slots : (size next : ℕ) (olds news : Slots) → AreSlots size next olds → length news ≡ length olds → ((i : ℕ) (x : Sleep) → slot_at news i ≡ Some x → slot_at olds i ≡ Some x) → AreSlots size next news
fewer_slots size next olds news a long was = record {
  own = λ i x at. a.own i x (was i x at);
  apart = λ i j x y at bt same. a.apart i j x y (was i x at) (was j y bt) same;
  given = λ i x at. a.given i x (was i x at);
  size_is = long ∙ a.size_is;
}

keep_was : (p : Sleep → Bool) (o : Option Sleep) (x : Sleep) → keep p o ≡ Some x → o ≡ Some x
keep_was p None x h = h
keep_was p (Some y) x h = go (p y) h where
  go : (b : Bool) → cond b (Some y) None ≡ Some x → Some y ≡ Some x
  go true h = h
  go false h = absurd (none-some x h)

map_length : (p : Sleep → Bool) (slots : Slots) → length (map (keep p) slots) ≡ length slots
map_length p [] = refl
map_length p (o ∷ os) = let h = map_length p os in omega (arith, h)

kept_slots : (size next : ℕ) (p : Sleep → Bool) (slots : Slots) → AreSlots size next slots → AreSlots size next (map (keep p) slots)
kept_slots size next p slots a = fewer_slots size next slots (map (keep p) slots) a (map_length p slots) (λ i x at. keep_was p (slot_at slots i) x (sym (kept_at p slots i) ∙ at))

-- who sleeps
pub asleep_is : (size next : ℕ) (slots : Slots) (i : ℕ) → AreSlots size next slots → is_asleep (sleeps_in slots) i ≡ is_some (slot_at slots i)
asleep_is size next slots i a = go (slot_at slots i) refl where
  go : (o : Option Sleep) → slot_at slots i ≡ o → is_asleep (sleeps_in slots) i ≡ is_some (slot_at slots i)
  go (Some x) at = any_in (λ y. y.i == i) slots i x at (test_same x.i i (a.own i x at)) ∙ sym (ap is_some at)
  go None at =
      none_in (λ y. y.i == i) slots (λ j y bt. test_other y.i i (λ e.
      let is : j ≡ i = sym (a.own j y bt) ∙ e in
      none-some y (sym at ∙ (ap (slot_at slots) (sym is) ∙ bt))))
      ∙ sym (ap is_some at)

pub awake_none : (size next : ℕ) (slots : Slots) (i : ℕ) → AreSlots size next slots → is_asleep (sleeps_in slots) i ≡ false → slot_at slots i ≡ None
awake_none size next slots i a awake = go (slot_at slots i) refl where
  go : (o : Option Sleep) → slot_at slots i ≡ o → slot_at slots i ≡ None
  go None at = at
  go (Some x) at = absurd (true_false (sym (ap is_some at) ∙ (sym (asleep_is size next slots i a) ∙ awake)))

-- those of a part who sleep
part_asleep : (size next : ℕ) (p : Sleep → Bool) (slots : Slots) (i : ℕ) → AreSlots size next slots → is_asleep (filter p (sleeps_in slots)) i ≡ is_some (keep p (slot_at slots i))
part_asleep size next p slots i a =
    ap (λ l. is_asleep l i) (sym (kept_in p slots (map (keep p) slots) (kept_at p slots)))
    ∙ (asleep_is size next (map (keep p) slots) i (kept_slots size next p slots a)
    ∙ ap is_some (kept_at p slots i))

-- the slot of a sleep
pub slot_of : (size next : ℕ) (slots : Slots) (x : Sleep) → AreSlots size next slots → Contains (sleeps_in slots) x → slot_at slots x.i ≡ Some x
slot_of size next slots x a c =
    each_contains (λ y. slot_at slots y.i ≡ Some y) (sleeps_in slots) x
    (each_in (λ y. slot_at slots y.i ≡ Some y) slots (λ i y at. ap (slot_at slots) (a.own i y at) ∙ at)) c

pub below_size : (size next : ℕ) (slots : Slots) (x : Sleep) → AreSlots size next slots → Contains (sleeps_in slots) x → x.i < size
below_size size next slots x a c = let low = within slots x.i x (slot_of size next slots x a c) in omega (arith, low, a.size_is)

-- no other sleep has its number
numbered : (size next : ℕ) (slots : Slots) (x : Sleep) → AreSlots size next slots → Contains (sleeps_in slots) x → Each (λ y. y.s ≡ x.s → y ≡ x) (sleeps_in slots)
numbered size next slots x a c =
    let at = slot_of size next slots x a c in
    each_in (λ y. y.s ≡ x.s → y ≡ x) slots (λ j y bt same.
    let is : j ≡ x.i = a.apart j x.i y x bt at same in
    some_is y x (sym bt ∙ (ap (slot_at slots) is ∙ at)))

-- it ends
ended_at : (size next : ℕ) (slots : Slots) (x : Sleep) → AreSlots size next slots → slot_at slots x.i ≡ Some x → (j : ℕ) → slot_at (set slots x.i None) j ≡ keep (λ y. not (y.s == x.s)) (slot_at slots j)
ended_at size next slots x a at j = elim (cases_eq j x.i) [
  | inl here ↦ subst (λ k. slot_at (set slots x.i None) k ≡ keep (λ y. not (y.s == x.s)) (slot_at slots k)) (sym here) (
      get_or-set_same slots x.i None None (within slots x.i x at)
      ∙ sym (ap (keep (λ y. not (y.s == x.s))) at ∙ ap (λ b. cond (not b) (Some x) None) (test_same x.s x.s refl)))
  | inr there ↦ get_or-set_other slots x.i j None None there ∙ spared (slot_at slots j) refl there
] where
  spared : (o : Option Sleep) → slot_at slots j ≡ o → j ≢ x.i → slot_at slots j ≡ keep (λ y. not (y.s == x.s)) (slot_at slots j)
  spared None bt there = bt ∙ sym (ap (keep (λ y. not (y.s == x.s))) bt)
  spared (Some y) bt there =
      bt
      ∙ sym (ap (keep (λ z. not (z.s == x.s))) bt ∙ ap (λ b. cond (not b) (Some y) None) (test_other y.s x.s (λ same. there (a.apart j x.i y x bt at same))))

pub ended_in : (size next : ℕ) (slots : Slots) (x : Sleep) → AreSlots size next slots → Contains (sleeps_in slots) x → sleeps_in (set slots x.i None) ≡ without x.s (sleeps_in slots)
ended_in size next slots x a c = kept_in (λ y. not (y.s == x.s)) slots (set slots x.i None) (ended_at size next slots x a (slot_of size next slots x a c))

ended_slots : (size next : ℕ) (slots : Slots) (x : Sleep) → AreSlots size next slots → Contains (sleeps_in slots) x → AreSlots size next (set slots x.i None)
ended_slots size next slots x a c =
    fewer_slots size next slots (set slots x.i None) a (length-set slots x.i None)
    (λ j y at. keep_was (λ z. not (z.s == x.s)) (slot_at slots j) y (sym (ended_at size next slots x a (slot_of size next slots x a c) j) ∙ at))

-- all on a channel end
woken_where : (p : Sleep → Bool) (o : Option Sleep) → (if is_some (keep p o) then None else o) ≡ keep (λ y. not (p y)) o
woken_where p None = refl
woken_where p (Some y) = go (p y) where
  go : (b : Bool) → (if is_some (cond b (Some y) None) then None else Some y) ≡ cond (not b) (Some y) None
  go true = refl
  go false = refl

woken_at : (size next chan : ℕ) (olds news : Slots) (gone : List Sleep) → AreSlots size next olds → gone ≡ on chan (sleeps_in olds) → ((i : ℕ) → slot_at news i ≡ (if is_asleep gone i then None else slot_at olds i))
    → (i : ℕ) → slot_at news i ≡ keep (λ y. not (y.chan == chan)) (slot_at olds i)
woken_at size next chan olds news gone a all woken i =
    woken i
    ∙ (ap (λ b. if b then None else slot_at olds i) (ap (λ l. is_asleep l i) all ∙ part_asleep size next (λ y. y.chan == chan) olds i a)
    ∙ woken_where (λ y. y.chan == chan) (slot_at olds i))

pub woken_in : (size next chan : ℕ) (olds news : Slots) (gone : List Sleep) → AreSlots size next olds → gone ≡ on chan (sleeps_in olds) → ((i : ℕ) → slot_at news i ≡ (if is_asleep gone i then None else slot_at olds i))
    → sleeps_in news ≡ elsewhere chan (sleeps_in olds)
woken_in size next chan olds news gone a all woken = kept_in (λ y. not (y.chan == chan)) olds news (woken_at size next chan olds news gone a all woken)

-- one begins
begun_slots : (size next : ℕ) (slots : Slots) (x : Sleep) → AreSlots size next slots → x.i < size → x.s ≡ next → AreSlots size (next + 1) (set slots x.i (Some x))
begun_slots size next slots x a low new = record {
  own = λ j y at. elim (cases_eq j x.i) [
    | inl here ↦ ap (λ (z : Sleep). z.i) (sym (at_new j y here at)) ∙ sym here
    | inr there ↦ a.own j y (at_old j y there at)
  ];
  apart = λ j k y z at bt same. elim (cases_eq j x.i) [
    | inl here ↦ elim (cases_eq k x.i) [
      | inl too ↦ here ∙ sym too
      | inr there ↦ let old = a.given k z (at_old k z there bt) in let e = ap (λ (w : Sleep). w.s) (at_new j y here at) in absurd (omega (arith, old, e, same, new))
    ]
    | inr there ↦ elim (cases_eq k x.i) [
      | inl here ↦ let old = a.given j y (at_old j y there at) in let e = ap (λ (w : Sleep). w.s) (at_new k z here bt) in absurd (omega (arith, old, e, same, new))
      | inr too ↦ a.apart j k y z (at_old j y there at) (at_old k z too bt) same
    ]
  ];
  given = λ j y at. elim (cases_eq j x.i) [
    | inl here ↦ let e = ap (λ (w : Sleep). w.s) (at_new j y here at) in omega (arith, e, new)
    | inr there ↦ let old = a.given j y (at_old j y there at) in omega (arith, old)
  ];
  size_is = length-set slots x.i (Some x) ∙ a.size_is;
} where
  at_new : (j : ℕ) (y : Sleep) → j ≡ x.i → slot_at (set slots x.i (Some x)) j ≡ Some y → x ≡ y
  at_new j y here at = some_is x y (sym (get_or-set_same slots x.i (Some x) None (omega (arith, low, a.size_is))) ∙ (ap (slot_at (set slots x.i (Some x))) (sym here) ∙ at))

  at_old : (j : ℕ) (y : Sleep) → j ≢ x.i → slot_at (set slots x.i (Some x)) j ≡ Some y → slot_at slots j ≡ Some y
  at_old j y there at = sym (get_or-set_other slots x.i j (Some x) None there) ∙ at

-- ---- buckets

module _ (size : ℕ) (sleeps : List Sleep) (buckets : List BucketView) (a : AreBuckets size sleeps buckets) (k : ℕ) (low : k < 256) where
  changed_buckets : (news : List Sleep) (b : BucketView) → b.sleeps ≡ bucket_sleeps k news → b.room ≡ (bucket_at buckets k).room → ((j : ℕ) → j ≢ k → bucket_sleeps j news ≡ bucket_sleeps j sleeps) → AreBuckets size news (set buckets k b)
  changed_buckets news b is room others = record {
    count = length-set buckets k b ∙ a.count;
    each = λ j less. elim (cases_eq j k) [
      | inl here ↦ subst (λ n. (bucket_at (set buckets k b) n).sleeps ≡ bucket_sleeps n news) (sym here) (ap (λ (v : BucketView). v.sleeps) at ∙ is)
      | inr there ↦ ap (λ (v : BucketView). v.sleeps) (get_or-set_other buckets k j b no_bucket there) ∙ (a.each j less ∙ sym (others j there))
    ];
    room = λ j less. elim (cases_eq j k) [
      | inl here ↦ subst (λ n. size ≤ (bucket_at (set buckets k b) n).room) (sym here) (let r = ap (λ (v : BucketView). v.room) at in let was = a.room k low in omega (arith, r, room, was))
      | inr there ↦ let r = ap (λ (v : BucketView). v.room) (get_or-set_other buckets k j b no_bucket there) in let was = a.room j less in omega (arith, r, was)
    ];
  } where
    at : bucket_at (set buckets k b) k ≡ b
    at = get_or-set_same buckets k b no_bucket (omega (arith, low, a.count))

  -- some leave this bucket
  pub left_buckets : (p : Sleep → Bool) (b : BucketView) → b ≡ record (bucket_at buckets k) { sleeps = filter p (bucket_at buckets k).sleeps }
      → Each (λ y. (channel_bucket y.chan ≡ k → ⊥) → p y ≡ true) sleeps → AreBuckets size (filter p sleeps) (set buckets k b)
  left_buckets p b is spares =
      changed_buckets (filter p sleeps) b
      (ap (λ (v : BucketView). v.sleeps) is ∙ (ap (filter p) (a.each k low) ∙ filter_swap p (λ y. channel_bucket y.chan == k) sleeps))
      (ap (λ (v : BucketView). v.room) is)
      (λ j there. filter_spared p (λ y. channel_bucket y.chan == j) sleeps (spared_at j there sleeps spares))
    where
      spared_at : (j : ℕ) → j ≢ k → (xs : List Sleep) → Each (λ y. (channel_bucket y.chan ≡ k → ⊥) → p y ≡ true) xs → Each (λ y. (channel_bucket y.chan == j) ≡ true → p y ≡ true) xs
      spared_at j there [] e = tt
      spared_at j there (x ∷ xs) e = (λ in_j. e.0 (λ in_k. there (sym (equal (channel_bucket x.chan) j in_j) ∙ in_k)), spared_at j there xs e.1)

  -- one comes into it
  pub more_buckets : (x : Sleep) (b : BucketView) → k ≡ channel_bucket x.chan → b ≡ record (bucket_at buckets k) { sleeps = (bucket_at buckets k).sleeps ++ x ∷ [] } → AreBuckets size (sleeps ++ x ∷ []) (set buckets k b)
  more_buckets x b its is =
      changed_buckets (sleeps ++ x ∷ []) b
      (ap (λ (v : BucketView). v.sleeps) is
      ∙ (ap (λ l. l ++ x ∷ []) (a.each k low)
      ∙ sym (filter_snoc (λ y. channel_bucket y.chan == k) sleeps x ∙ ap (λ l. bucket_sleeps k sleeps ++ l) (filter_yes (λ y. channel_bucket y.chan == k) x [] (test_same (channel_bucket x.chan) k (sym its))))))
      (ap (λ (v : BucketView). v.room) is)
      (λ j there.
      filter_snoc (λ y. channel_bucket y.chan == j) sleeps x
      ∙ (ap (λ l. bucket_sleeps j sleeps ++ l) (filter_no (λ y. channel_bucket y.chan == j) x [] (test_other (channel_bucket x.chan) j (λ e. there (sym e ∙ sym its))))
      ∙ sym (append_none (bucket_sleeps j sleeps))))

-- on a channel are those of its bucket who are on it
same_bucket : (chan : ℕ) (x : Sleep) → (x.chan == chan) ≡ true → (channel_bucket x.chan == channel_bucket chan) ≡ true
same_bucket chan x h = test_same (channel_bucket x.chan) (channel_bucket chan) (ap channel_bucket (equal x.chan chan h))

pub on_bucket : (chan : ℕ) (sleeps : List Sleep) → on chan (bucket_sleeps (channel_bucket chan) sleeps) ≡ on chan sleeps
on_bucket chan sleeps = filter_spared (λ y. channel_bucket y.chan == channel_bucket chan) (λ y. y.chan == chan) sleeps (each_all (λ y. (y.chan == chan) ≡ true → (channel_bucket y.chan == channel_bucket chan) ≡ true) sleeps (same_bucket chan))

pub find_bucket : (chan : ℕ) (sleeps : List Sleep) → find (λ y. y.chan == chan) (bucket_sleeps (channel_bucket chan) sleeps) ≡ find (λ y. y.chan == chan) sleeps
find_bucket chan sleeps = find_spared (λ y. channel_bucket y.chan == channel_bucket chan) (λ y. y.chan == chan) sleeps (same_bucket chan)

-- ---- a book

pub begun_list : (size next : ℕ) (slots : Slots) (x : Sleep) → AreSlots size next slots → x.i < size → x.s ≡ next → slot_at slots x.i ≡ None → sleeps_in (set slots x.i (Some x)) ≡ sleeps_in slots ++ x ∷ []
begun_list size next slots x a low new none = begun_in slots x.i x (omega (arith, low, a.size_is)) none (λ j y at. let old = a.given j y at in omega (arith, old, new))

pub begun_book : (size next : ℕ) (slots : Slots) (buckets : List BucketView) (x : Sleep) (k : ℕ) (b : BucketView) → IsBook size next slots buckets → x.i < size → x.s ≡ next → slot_at slots x.i ≡ None → k < 256 → k ≡ channel_bucket x.chan
    → b ≡ record (bucket_at buckets k) { sleeps = (bucket_at buckets k).sleeps ++ x ∷ [] } → IsBook size (next + 1) (set slots x.i (Some x)) (set buckets k b)
begun_book size next slots buckets x k b book low new none less its is = record {
  slots_are = begun_slots size next slots x book.slots_are low new;
  buckets_are =
      subst (λ l. AreBuckets size l (set buckets k b)) (sym (begun_list size next slots x book.slots_are low new none))
      (more_buckets size (sleeps_in slots) buckets book.buckets_are k less x b its is);
  few = book.few;
}

-- there is room for it
pub bucket_room : (size next : ℕ) (slots : Slots) (buckets : List BucketView) (i k : ℕ) → IsBook size next slots buckets → i < size → slot_at slots i ≡ None → k < 256 → length (bucket_at buckets k).sleeps < (bucket_at buckets k).room
bucket_room size next slots buckets i k book low none less =
    let all = room_in slots i (omega (arith, low, book.slots_are.size_is)) none in
    let part = filter_few (λ y. channel_bucket y.chan == k) (sleeps_in slots) in
    let is = ap length (book.buckets_are.each k less) in
    let room = book.buckets_are.room k less in
    omega (arith, all, part, is, room, book.slots_are.size_is)

pub bucket_few : (size next : ℕ) (slots : Slots) (buckets : List BucketView) (k : ℕ) → IsBook size next slots buckets → k < 256 → length (bucket_at buckets k).sleeps ≤ 1024
bucket_few size next slots buckets k book less =
    let all = few_in slots in
    let part = filter_few (λ y. channel_bucket y.chan == k) (sleeps_in slots) in
    let is = ap length (book.buckets_are.each k less) in
    omega (arith, all, part, is, book.slots_are.size_is, book.few)

pub ended_book : (size next : ℕ) (slots : Slots) (buckets : List BucketView) (x : Sleep) (k : ℕ) (b : BucketView) → IsBook size next slots buckets → Contains (sleeps_in slots) x → k < 256 → k ≡ channel_bucket x.chan
    → b ≡ record (bucket_at buckets k) { sleeps = without x.s (bucket_at buckets k).sleeps } → IsBook size next (set slots x.i None) (set buckets k b)
ended_book size next slots buckets x k b book inside less its is = record {
  slots_are = ended_slots size next slots x book.slots_are inside;
  buckets_are =
      subst (λ l. AreBuckets size l (set buckets k b)) (sym (ended_in size next slots x book.slots_are inside))
      (left_buckets size (sleeps_in slots) buckets book.buckets_are k less (λ y. not (y.s == x.s)) b is (spared (sleeps_in slots) (numbered size next slots x book.slots_are inside)));
  few = book.few;
} where
  spared : (xs : List Sleep) → Each (λ y. y.s ≡ x.s → y ≡ x) xs → Each (λ y. (channel_bucket y.chan ≡ k → ⊥) → not (y.s == x.s) ≡ true) xs
  spared [] e = tt
  spared (y ∷ ys) e = (λ other. ap not (test_other y.s x.s (λ same. other (ap (λ (z : Sleep). channel_bucket z.chan) (e.0 same) ∙ sym its))), spared ys e.1)

pub woken_book : (size next chan : ℕ) (olds news : Slots) (buckets : List BucketView) (gone : List Sleep) (k : ℕ) (b : BucketView) → IsBook size next olds buckets → gone ≡ on chan (sleeps_in olds)
    → ((i : ℕ) → slot_at news i ≡ (if is_asleep gone i then None else slot_at olds i)) → length news ≡ length olds → k < 256 → k ≡ channel_bucket chan
    → b ≡ record (bucket_at buckets k) { sleeps = elsewhere chan (bucket_at buckets k).sleeps } → IsBook size next news (set buckets k b)
woken_book size next chan olds news buckets gone k b book all woken long less its is = record {
  slots_are = fewer_slots size next olds news book.slots_are long (λ i x at. keep_was (λ y. not (y.chan == chan)) (slot_at olds i) x (sym (woken_at size next chan olds news gone book.slots_are all woken i) ∙ at));
  buckets_are =
      subst (λ l. AreBuckets size l (set buckets k b)) (sym (woken_in size next chan olds news gone book.slots_are all woken))
      (left_buckets size (sleeps_in olds) buckets book.buckets_are k less (λ y. not (y.chan == chan)) b is
      (each_all (λ y. (channel_bucket y.chan ≡ k → ⊥) → not (y.chan == chan) ≡ true) (sleeps_in olds) (λ y other. ap not (test_other y.chan chan (λ same. other (ap channel_bucket same ∙ sym its))))));
  few = book.few;
}

-- ---- what is found

pub found_inside : (size next : ℕ) (slots : Slots) (p : Sleep → Bool) (o : Option Sleep) → AreSlots size next slots → o ≡ find p (sleeps_in slots) → IfSome o (λ x. Contains (sleeps_in slots) x × (x.i < size))
found_inside size next slots p None a h = tt
found_inside size next slots p (Some x) a h =
    let c = found_each p (Contains (sleeps_in slots)) (sleeps_in slots) x (sym h) (each_contained (sleeps_in slots)) in
    (c, below_size size next slots x a c)

-- the sleep of a number
pub found_number : (size next : ℕ) (slots : Slots) (p : Sleep → Bool) (i : ℕ) (x : Sleep) → AreSlots size next slots → slot_at slots i ≡ Some x → p x ≡ true → ((y : Sleep) → p y ≡ true → y.s ≡ x.s) → find p (sleeps_in slots) ≡ Some x
found_number size next slots p i x a at passes number =
    found p (sleeps_in slots) x (any_in p slots i x at passes)
    (each_in (λ y. p y ≡ true → y ≡ x) slots (λ j y bt same.
    some_is y x (sym bt ∙ (ap (slot_at slots) (a.apart j i y x bt at (number y same)) ∙ at))))

pub no_number : (slots : Slots) (p : Sleep → Bool) → ((i : ℕ) (x : Sleep) → slot_at slots i ≡ Some x → p x ≡ false) → find p (sleeps_in slots) ≡ None
no_number slots p none = none_found p (sleeps_in slots) (none_in p slots none)

-- ---- what contracts see

pub bucket_is : {xs ys : List Sleep} {m n : ℕ} → xs ≡ ys → m ≡ n → ◌≡◌ {A = BucketView} (record { sleeps = xs; room = m }) (record { sleeps = ys; room = n })
bucket_is e f = λ i. record { sleeps = e i; room = f i }

-- what a pass over the slots finds
pub timed_is : (size next s : ℕ) (slots : Slots) (o : Option Sleep) → AreSlots size next slots → IfSome o (λ x. (i : ℕ) × (slot_at slots i ≡ Some x) × ((x.s == s && x.timed) ≡ true))
    → IfNone o ((i : ℕ) (x : Sleep) → slot_at slots i ≡ Some x → (x.s == s && x.timed) ≡ false) → o ≡ find (λ x. x.s == s && x.timed) (sleeps_in slots)
timed_is size next s slots None a some none = sym (no_number slots (λ x. x.s == s && x.timed) none)
timed_is size next s slots (Some x) a some none =
    sym (found_number size next slots (λ y. y.s == s && y.timed) some.0 x a some.1 some.2 (λ y passes. number y passes ∙ sym (number x some.2)))
  where
    first_true : (a b : Bool) → (a && b) ≡ true → a ≡ true
    first_true true b h = refl
    first_true false b h = h

    number : (y : Sleep) → (y.s == s && y.timed) ≡ true → y.s ≡ s
    number y h = equal y.s s (first_true (y.s == s) y.timed h)

each_index : (P : Sleep → Type 0) (xs : List Sleep) → Each P xs → (k : ℕ) (d : Sleep) → k < length xs → P (get_or xs k d)
each_index P [] e k d low = absurd (omega (arith, low))
each_index P (x ∷ xs) e zero d low = e.0
each_index P (x ∷ xs) e (suc k) d low = each_index P xs e.1 k d (omega (arith, low))

-- those of a bucket are sleepers
pub bucket_below : (size next : ℕ) (slots : Slots) (buckets : List BucketView) (k : ℕ) → IsBook size next slots buckets → k < 256 → (j : ℕ) (d : Sleep) → j < length (bucket_at buckets k).sleeps → (get_or (bucket_at buckets k).sleeps j d).i < size
bucket_below size next slots buckets k book less =
    subst (λ l. (j : ℕ) (d : Sleep) → j < length l → (get_or l j d).i < size) (sym (book.buckets_are.each k less))
    (each_index (λ x. x.i < size) (bucket_sleeps k (sleeps_in slots))
    (each_filter (λ x. x.i < size) (λ y. channel_bucket y.chan == k) (sleeps_in slots)
    (each_in (λ x. x.i < size) slots (λ i x at. let low = within slots i x at in omega (arith, low, book.slots_are.own i x at, book.slots_are.size_is)))))
