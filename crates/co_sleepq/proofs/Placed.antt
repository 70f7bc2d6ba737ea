-- Sleeps by rising number.
use Rattle.std.proofs.Common.{◌≡◌, ℕ, zero, suc, ◌+◌, ◌<◌, ◌≤◌, ◌||◌, Bool, true, false, cond, List, [], ◌∷◌, ◌++◌, length, set, map, refl, ap, sym, ◌∙◌, subst, arith}
use Rattle.std.specs.Prelude.{nat_lt}
use Rattle.std.specs.List.{Contains, filter, find, list_any}
use Rattle.std.specs.declared.option.Option.{Option}
use Rattle.std.specs.declared.option.Option.TheVariants.{Some, None}
use Rattle.std.proofs.lemmas.Bool.{ltb-true, lt-ltb}
use Rattle.std.proofs.lemmas.Bool.Decides.{nat_tests}
use Rattle.co_sleepq.specs.declared.sleep.Sleep.{Sleep}
use Rattle.co_sleepq.specs.Slots.{put_in_order, sleeps_in, slot_at}

not_lt : (m n : ℕ) → n ≤ m → nat_lt m n ≡ false
not_lt m n h = grind (arith, nat_tests)

placed_front : (x y : Sleep) (ys : List Sleep) → x.s < y.s → put_in_order x (y ∷ ys) ≡ x ∷ y ∷ ys
placed_front x y ys h = ap (λ b. cond b (x ∷ y ∷ ys) (y ∷ put_in_order x ys)) (lt-ltb x.s y.s h)

placed_behind : (x y : Sleep) (ys : List Sleep) → y.s ≤ x.s → put_in_order x (y ∷ ys) ≡ y ∷ put_in_order x ys
placed_behind x y ys h = ap (λ b. cond b (x ∷ y ∷ ys) (y ∷ put_in_order x ys)) (not_lt x.s y.s h)

below : (m n : ℕ) (P : Type 0) → (m < n → P) → (n ≤ m → P) → P
below m n P low high = go (nat_lt m n) refl where
  go : (b : Bool) → nat_lt m n ≡ b → P
  go true h = low (ltb-true m n h)
  go false h = high (grind (arith, nat_tests))

none-some : {A : Type 0} (a : A) → None ≡ Some a → ⊥
none-some a h = cc

some-none : {A : Type 0} (a : A) → Some a ≡ None → ⊥
some-none a h = cc

pub some_is : {A : Type 0} (a b : A) → Some a ≡ Some b → a ≡ b
some_is a b h = cc

-- ---- what holds of each

abbrev pub Each : (Sleep → Type 0) → List Sleep → Type 0
Each P [] = Unit {0}
Each P (x ∷ xs) = P x × Each P xs

pub each_weaker : (P Q : Sleep → Type 0) (xs : List Sleep) → ((x : Sleep) → P x → Q x) → Each P xs → Each Q xs
each_weaker P Q [] h e = tt
each_weaker P Q (x ∷ xs) h e = (h x e.0, each_weaker P Q xs h e.1)

pub each_contains : (P : Sleep → Type 0) (xs : List Sleep) (x : Sleep) → Each P xs → Contains xs x → P x
each_contains P [] x e c = absurd (omega (arith, c.1))
each_contains P (y ∷ ys) x e (zero, low, is) = subst P is e.0
each_contains P (y ∷ ys) x e (suc k, low, is) = each_contains P ys x e.1 (k, omega (arith, low), is)

pub each_contained : (xs : List Sleep) → Each (Contains xs) xs
each_contained [] = tt
each_contained (x ∷ xs) = ((0, omega arith, refl), each_weaker (Contains xs) (Contains (x ∷ xs)) xs (λ y c. (suc c.0, omega (arith, c.1), c.2)) (each_contained xs))

kept_each : (P : Sleep → Type 0) (x : Sleep) (ys : List Sleep) (b : Bool) → P x → Each P ys → Each P (cond b (x ∷ ys) ys)
kept_each P x ys true h e = (h, e)
kept_each P x ys false h e = e

pub each_filter : (P : Sleep → Type 0) (p : Sleep → Bool) (xs : List Sleep) → Each P xs → Each P (filter p xs)
each_filter P p [] e = tt
each_filter P p (x ∷ xs) e = kept_each P x (filter p xs) (p x) e.0 (each_filter P p xs e.1)

each_placed : (P : Sleep → Type 0) (x : Sleep) (ys : List Sleep) → P x → Each P ys → Each P (put_in_order x ys)
each_placed P x [] h e = (h, tt)
each_placed P x (y ∷ ys) h e = below x.s y.s (Each P (put_in_order x (y ∷ ys)))
    (λ less. subst (Each P) (sym (placed_front x y ys less)) (h, e))
    (λ more. subst (Each P) (sym (placed_behind x y ys more)) (e.0, each_placed P x ys h e.1))

pub each_in : (P : Sleep → Type 0) (slots : List (Option Sleep)) → ((i : ℕ) (x : Sleep) → slot_at slots i ≡ Some x → P x) → Each P (sleeps_in slots)
each_in P [] h = tt
each_in P (None ∷ os) h = each_in P os (λ i x at. h (suc i) x at)
each_in P (Some x ∷ os) h = each_placed P x (sleeps_in os) (h 0 x refl) (each_in P os (λ i y at. h (suc i) y at))

-- ---- whether one passes a test

either_true : (a b : Bool) → a ≡ true → (a || b) ≡ true
either_true a b h = ap (λ c. c || b) h

or_true : (a b : Bool) → b ≡ true → (a || b) ≡ true
or_true true b h = refl
or_true false b h = h

or_false : (a b : Bool) → a ≡ false → b ≡ false → (a || b) ≡ false
or_false a b g h = ap (λ c. c || b) g ∙ h

in_turn : (a b c : Bool) → (a || (b || c)) ≡ (b || (a || c))
in_turn true true c = refl
in_turn true false c = refl
in_turn false true c = refl
in_turn false false c = refl

module _ (p : Sleep → Bool) where
  any_placed : (x : Sleep) (ys : List Sleep) → list_any p (put_in_order x ys) ≡ (p x || list_any p ys)
  any_placed x [] = refl
  any_placed x (y ∷ ys) = below x.s y.s (list_any p (put_in_order x (y ∷ ys)) ≡ (p x || list_any p (y ∷ ys)))
      (λ less. ap (list_any p) (placed_front x y ys less))
      (λ more. ap (list_any p) (placed_behind x y ys more) ∙ (ap (λ b. p y || b) (any_placed x ys) ∙ in_turn (p y) (p x) (list_any p ys)))

  pub any_in : (slots : List (Option Sleep)) (i : ℕ) (x : Sleep) → slot_at slots i ≡ Some x → p x ≡ true → list_any p (sleeps_in slots) ≡ true
  any_in [] i x at passes = absurd (none-some x at)
  any_in (None ∷ os) zero x at passes = absurd (none-some x at)
  any_in (Some y ∷ os) zero x at passes = any_placed y (sleeps_in os) ∙ either_true (p y) (list_any p (sleeps_in os)) (ap p (some_is y x at) ∙ passes)
  any_in (None ∷ os) (suc i) x at passes = any_in os i x at passes
  any_in (Some y ∷ os) (suc i) x at passes = any_placed y (sleeps_in os) ∙ or_true (p y) (list_any p (sleeps_in os)) (any_in os i x at passes)

  pub none_in : (slots : List (Option Sleep)) → ((i : ℕ) (x : Sleep) → slot_at slots i ≡ Some x → p x ≡ false) → list_any p (sleeps_in slots) ≡ false
  none_in [] h = refl
  none_in (None ∷ os) h = none_in os (λ i x at. h (suc i) x at)
  none_in (Some y ∷ os) h = any_placed y (sleeps_in os) ∙ or_false (p y) (list_any p (sleeps_in os)) (h 0 y refl) (none_in os (λ i x at. h (suc i) x at))

  rest_true : (a b : Bool) → a ≡ false → (a || b) ≡ true → b ≡ true
  rest_true a b g h = sym (ap (λ c. c || b) g) ∙ h

  rest_false : (a b : Bool) → (a || b) ≡ false → (a ≡ false) × (b ≡ false)
  rest_false false b h = (refl, h)
  rest_false true b h = absurd (cc)

  -- the one that passes is found
  pub found : (xs : List Sleep) (x : Sleep) → list_any p xs ≡ true → Each (λ y. p y ≡ true → y ≡ x) xs → find p xs ≡ Some x
  found [] x any e = absurd (cc)
  found (y ∷ ys) x any e = go (p y) refl (λ rest. found ys x rest e.1) where
    go : (b : Bool) → p y ≡ b → (list_any p ys ≡ true → find p ys ≡ Some x) → find p (y ∷ ys) ≡ Some x
    go true h rest = ap (λ b. cond b (Some y) (find p ys)) h ∙ ap Some (e.0 h)
    go false h rest = ap (λ b. cond b (Some y) (find p ys)) h ∙ rest (rest_true (p y) (list_any p ys) h any)

  pub none_found : (xs : List Sleep) → list_any p xs ≡ false → find p xs ≡ None
  none_found [] any = refl
  none_found (y ∷ ys) any = let r = rest_false (p y) (list_any p ys) any in ap (λ b. cond b (Some y) (find p ys)) r.0 ∙ none_found ys r.1

  -- what is found
  pub found_each : (P : Sleep → Type 0) (xs : List Sleep) (x : Sleep) → find p xs ≡ Some x → Each P xs → P x
  found_each P [] x h e = absurd (none-some x h)
  found_each P (y ∷ ys) x h e = go (p y) refl (λ rest. found_each P ys x rest e.1) where
    go : (b : Bool) → p y ≡ b → (find p ys ≡ Some x → P x) → P x
    go true g rest = subst P (some_is y x (sym (ap (λ b. cond b (Some y) (find p ys)) g) ∙ h)) e.0
    go false g rest = rest (sym (ap (λ b. cond b (Some y) (find p ys)) g) ∙ h)

  pub filter_yes : (x : Sleep) (ys : List Sleep) → p x ≡ true → filter p (x ∷ ys) ≡ x ∷ filter p ys
  filter_yes x ys h = ap (λ b. cond b (x ∷ filter p ys) (filter p ys)) h

  pub filter_no : (x : Sleep) (ys : List Sleep) → p x ≡ false → filter p (x ∷ ys) ≡ filter p ys
  filter_no x ys h = ap (λ b. cond b (x ∷ filter p ys) (filter p ys)) h

-- ---- sleeps that leave

abbrev Rising : List Sleep → Type 0
Rising [] = Unit {0}
Rising (x ∷ xs) = Each (λ y. x.s ≤ y.s) xs × Rising xs

rising_placed : (x : Sleep) (ys : List Sleep) → Rising ys → Rising (put_in_order x ys)
rising_placed x [] r = (tt, tt)
rising_placed x (y ∷ ys) r = below x.s y.s (Rising (put_in_order x (y ∷ ys)))
    (λ less. subst Rising (sym (placed_front x y ys less)) ((omega (arith, less), each_weaker (λ z. y.s ≤ z.s) (λ z. x.s ≤ z.s) ys (λ z h. omega (arith, h, less)) r.0), r))
    (λ more. subst Rising (sym (placed_behind x y ys more)) (each_placed (λ z. y.s ≤ z.s) x ys more r.0, rising_placed x ys r.1))

rising_in : (slots : List (Option Sleep)) → Rising (sleeps_in slots)
rising_in [] = tt
rising_in (None ∷ os) = rising_in os
rising_in (Some x ∷ os) = rising_placed x (sleeps_in os) (rising_in os)

placed_first : (x : Sleep) (ys : List Sleep) → Each (λ y. x.s < y.s) ys → put_in_order x ys ≡ x ∷ ys
placed_first x [] e = refl
placed_first x (y ∷ ys) e = placed_front x y ys e.0

filter_placed_yes : (p : Sleep → Bool) (x : Sleep) (ys : List Sleep) → Rising ys → p x ≡ true → filter p (put_in_order x ys) ≡ put_in_order x (filter p ys)
filter_placed_yes p x [] r h = filter_yes p x [] h
filter_placed_yes p x (y ∷ ys) r h = below x.s y.s (filter p (put_in_order x (y ∷ ys)) ≡ put_in_order x (filter p (y ∷ ys)))
    (λ less.
    let all : Each (λ z. x.s < z.s) (y ∷ ys) = (less, each_weaker (λ z. y.s ≤ z.s) (λ z. x.s < z.s) ys (λ z g. omega (arith, g, less)) r.0) in
    ap (filter p) (placed_front x y ys less) ∙ (filter_yes p x (y ∷ ys) h ∙ sym (placed_first x (filter p (y ∷ ys)) (each_filter (λ z. x.s < z.s) p (y ∷ ys) all))))
    (λ more. ap (filter p) (placed_behind x y ys more) ∙ rest more (filter_placed_yes p x ys r.1 h) (p y) refl)
  where
    rest : y.s ≤ x.s → filter p (put_in_order x ys) ≡ put_in_order x (filter p ys) → (b : Bool) → p y ≡ b → filter p (y ∷ put_in_order x ys) ≡ put_in_order x (filter p (y ∷ ys))
    rest more tail true g =
        filter_yes p y (put_in_order x ys) g
        ∙ (ap (λ l. y ∷ l) tail
        ∙ (sym (placed_behind x y (filter p ys) more)
        ∙ ap (put_in_order x) (sym (filter_yes p y ys g))))
    rest more tail false g = filter_no p y (put_in_order x ys) g ∙ (tail ∙ ap (put_in_order x) (sym (filter_no p y ys g)))

filter_placed_no : (p : Sleep → Bool) (x : Sleep) (ys : List Sleep) → p x ≡ false → filter p (put_in_order x ys) ≡ filter p ys
filter_placed_no p x [] h = filter_no p x [] h
filter_placed_no p x (y ∷ ys) h = below x.s y.s (filter p (put_in_order x (y ∷ ys)) ≡ filter p (y ∷ ys))
    (λ less. ap (filter p) (placed_front x y ys less) ∙ filter_no p x (y ∷ ys) h)
    (λ more. ap (filter p) (placed_behind x y ys more) ∙ ap (λ l. cond (p y) (y ∷ l) l) (filter_placed_no p x ys h))

-- a slot whose sleep passes
abbrev pub keep : (Sleep → Bool) → Option Sleep → Option Sleep
keep p None = None
keep p (Some x) = cond (p x) (Some x) None

filter_in : (p : Sleep → Bool) (slots : List (Option Sleep)) → filter p (sleeps_in slots) ≡ sleeps_in (map (keep p) slots)
filter_in p [] = refl
filter_in p (None ∷ os) = filter_in p os
filter_in p (Some x ∷ os) = go (p x) refl (filter_in p os) where
  go : (b : Bool) → p x ≡ b → filter p (sleeps_in os) ≡ sleeps_in (map (keep p) os) → filter p (put_in_order x (sleeps_in os)) ≡ sleeps_in (keep p (Some x) ∷ map (keep p) os)
  go true h rest =
      filter_placed_yes p x (sleeps_in os) (rising_in os) h
      ∙ (ap (put_in_order x) rest ∙ sym (ap (λ b. sleeps_in (cond b (Some x) None ∷ map (keep p) os)) h))
  go false h rest =
      filter_placed_no p x (sleeps_in os) h
      ∙ (rest ∙ sym (ap (λ b. sleeps_in (cond b (Some x) None ∷ map (keep p) os)) h))

-- slots that give the same have the same sleeps
empty_in : (slots : List (Option Sleep)) → ((i : ℕ) → slot_at slots i ≡ None) → sleeps_in slots ≡ []
empty_in [] h = refl
empty_in (None ∷ os) h = empty_in os (λ i. h (suc i))
empty_in (Some x ∷ os) h = absurd (some-none x (h 0))

behind : (o : Option Sleep) (xs ys : List (Option Sleep)) → sleeps_in xs ≡ sleeps_in ys → sleeps_in (o ∷ xs) ≡ sleeps_in (o ∷ ys)
behind None xs ys h = h
behind (Some x) xs ys h = ap (put_in_order x) h

same_in : (xs ys : List (Option Sleep)) → ((i : ℕ) → slot_at xs i ≡ slot_at ys i) → sleeps_in xs ≡ sleeps_in ys
same_in [] ys h = sym (empty_in ys (λ i. sym (h i)))
same_in (x ∷ xs) [] h = empty_in (x ∷ xs) h
same_in (x ∷ xs) (y ∷ ys) h =
    let is : x ≡ y = h 0 in
    behind x xs ys (same_in xs ys (λ i. h (suc i))) ∙ ap (λ v. sleeps_in (v ∷ ys)) is

pub kept_at : (p : Sleep → Bool) (slots : List (Option Sleep)) (i : ℕ) → slot_at (map (keep p) slots) i ≡ keep p (slot_at slots i)
kept_at p [] i = refl
kept_at p (o ∷ os) zero = refl
kept_at p (o ∷ os) (suc i) = kept_at p os i

pub kept_in : (p : Sleep → Bool) (olds news : List (Option Sleep)) → ((i : ℕ) → slot_at news i ≡ keep p (slot_at olds i)) → sleeps_in news ≡ filter p (sleeps_in olds)
kept_in p olds news h = same_in news (map (keep p) olds) (λ i. h i ∙ sym (kept_at p olds i)) ∙ sym (filter_in p olds)

-- ---- a sleep that begins

placed_last : (x : Sleep) (ys : List Sleep) → Each (λ y. y.s < x.s) ys → put_in_order x ys ≡ ys ++ x ∷ []
placed_last x [] e = refl
placed_last x (y ∷ ys) e = let h = e.0 in placed_behind x y ys (omega (arith, h)) ∙ ap (λ l. y ∷ l) (placed_last x ys e.1)

placed_snoc : (y x : Sleep) (zs : List Sleep) → y.s < x.s → put_in_order y (zs ++ x ∷ []) ≡ put_in_order y zs ++ x ∷ []
placed_snoc y x [] h = placed_front y x [] h
placed_snoc y x (z ∷ zs) h = below y.s z.s (put_in_order y (z ∷ (zs ++ x ∷ [])) ≡ put_in_order y (z ∷ zs) ++ x ∷ [])
    (λ less. placed_front y z (zs ++ x ∷ []) less ∙ ap (λ l. l ++ x ∷ []) (sym (placed_front y z zs less)))
    (λ more. placed_behind y z (zs ++ x ∷ []) more ∙ (ap (λ l. z ∷ l) (placed_snoc y x zs h) ∙ ap (λ l. l ++ x ∷ []) (sym (placed_behind y z zs more))))

pub begun_in : (slots : List (Option Sleep)) (i : ℕ) (x : Sleep) → i < length slots → slot_at slots i ≡ None → ((j : ℕ) (y : Sleep) → slot_at slots j ≡ Some y → y.s < x.s)
    → sleeps_in (set slots i (Some x)) ≡ sleeps_in slots ++ x ∷ []
begun_in [] i x low none before = absurd (omega (arith, low))
begun_in (None ∷ os) zero x low none before = placed_last x (sleeps_in os) (each_in (λ y. y.s < x.s) os (λ j y at. before (suc j) y at))
begun_in (Some y ∷ os) zero x low none before = absurd (some-none y none)
begun_in (None ∷ os) (suc i) x low none before = begun_in os i x (omega (arith, low)) none (λ j y at. before (suc j) y at)
begun_in (Some y ∷ os) (suc i) x low none before =
    ap (put_in_order y) (begun_in os i x (omega (arith, low)) none (λ j z at. before (suc j) z at))
    ∙ placed_snoc y x (sleeps_in os) (before 0 y refl)

-- ---- how many sleep

placed_length : (x : Sleep) (ys : List Sleep) → length (put_in_order x ys) ≡ length ys + 1
placed_length x [] = refl
placed_length x (y ∷ ys) = below x.s y.s (length (put_in_order x (y ∷ ys)) ≡ length (y ∷ ys) + 1)
    (λ less. ap length (placed_front x y ys less) ∙ omega arith)
    (λ more. ap length (placed_behind x y ys more) ∙ omega (arith, placed_length x ys))

pub few_in : (slots : List (Option Sleep)) → length (sleeps_in slots) ≤ length slots
few_in [] = omega arith
few_in (None ∷ os) = omega (arith, few_in os)
few_in (Some x ∷ os) = omega (arith, few_in os, placed_length x (sleeps_in os))

-- where somebody is awake there is room
pub room_in : (slots : List (Option Sleep)) (i : ℕ) → i < length slots → slot_at slots i ≡ None → length (sleeps_in slots) < length slots
room_in [] i low none = absurd (omega (arith, low))
room_in (None ∷ os) i low none = omega (arith, few_in os)
room_in (Some x ∷ os) zero low none = absurd (some-none x none)
room_in (Some x ∷ os) (suc i) low none = omega (arith, room_in os i (omega (arith, low)) none, placed_length x (sleeps_in os))
