-- Items at their places in a list.
use Rattle.std.proofs.Common.{◌≡◌, ◌≢◌, ℕ, zero, suc, ◌+◌, ◌<◌, ◌≤◌, ◌++◌, take, List, [], ◌∷◌, length, map, set, Some, refl, sym, ap, ◌∙◌, subst, arith}
use Rattle.std.specs.Prelude.{slice_get, slice_index_or}
use Rattle.std.specs.List.{All}
use Rattle.std.proofs.lemmas.List.{take_more}
use Rattle.std.proofs.lemmas.List.Elements.{All-head, All-tail, All-cons, All-append}

module _ {A : Type 0} where
  pub get_or_of : (xs : List A) (k : ℕ) (d x : A) → slice_get xs k ≡ Some x → slice_index_or xs k d ≡ x
  get_or_of [] k d x e = absurd (cc)
  get_or_of (y ∷ xs) zero d x e = cc
  get_or_of (y ∷ xs) (suc k) d x e = get_or_of xs k d x e

  pub get_here : (xs : List A) (k : ℕ) (x : A) → k < length xs → x ≡ slice_index_or xs k x → slice_get xs k ≡ Some x
  get_here [] k x below e = absurd (omega arith)
  get_here (y ∷ xs) zero x below e = ap Some (sym e)
  get_here (y ∷ xs) (suc k) x below e = get_here xs k x (omega arith) e

  pub set_set : (xs : List A) (k : ℕ) (a b : A) → set (set xs k a) k b ≡ set xs k b
  set_set [] k a b = refl
  set_set (x ∷ xs) zero a b = refl
  set_set (x ∷ xs) (suc k) a b = ap (λ (l : List A). x ∷ l) (set_set xs k a b)

  pub set_same : (xs : List A) (k : ℕ) (a : A) → slice_get xs k ≡ Some a → set xs k a ≡ xs
  set_same [] k a e = refl
  set_same (x ∷ xs) zero a e = let same : x ≡ a = cc in ap (λ (y : A). y ∷ xs) (sym same)
  set_same (x ∷ xs) (suc k) a e = ap (λ (l : List A). x ∷ l) (set_same xs k a e)

  pub all_at : (P : A → Type 0) (xs : List A) (k : ℕ) (a : A) → All P xs → slice_get xs k ≡ Some a → P a
  all_at P [] k a all e = absurd (cc)
  all_at P (x ∷ xs) zero a all e = let same : x ≡ a = cc in subst P same (All-head P x xs all)
  all_at P (x ∷ xs) (suc k) a all e = all_at P xs k a (All-tail P x xs all) e

  pub all_set : (P : A → Type 0) (xs : List A) (k : ℕ) (a : A) → All P xs → P a → All P (set xs k a)
  all_set P [] k a all p = all
  all_set P (x ∷ xs) zero a all p = All-cons P a xs p (All-tail P x xs all)
  all_set P (x ∷ xs) (suc k) a all p = All-cons P x (set xs k a) (All-head P x xs all) (all_set P xs k a (All-tail P x xs all) p)

module _ {A B : Type 0} (f : A → B) where
  pub set_map : (xs : List A) (k : ℕ) (a : A) → map f (set xs k a) ≡ set (map f xs) k (f a)
  set_map [] k a = refl
  set_map (x ∷ xs) zero a = refl
  set_map (x ∷ xs) (suc k) a = ap (λ (l : List B). f x ∷ l) (set_map xs k a)

  pub get_map : (xs : List A) (k : ℕ) (a : A) → slice_get xs k ≡ Some a → slice_get (map f xs) k ≡ Some (f a)
  get_map [] k a e = absurd (cc)
  get_map (x ∷ xs) zero a e = let same : x ≡ a = cc in ap (λ (y : A). Some (f y)) same
  get_map (x ∷ xs) (suc k) a e = get_map xs k a e

  pub got_map : (xs : List A) (k : ℕ) (b : B) → slice_get (map f xs) k ≡ Some b → (a : A) × (slice_get xs k ≡ Some a) × (f a ≡ b)
  got_map [] k b e = absurd (cc)
  got_map (x ∷ xs) zero b e = (x, refl, cc)
  got_map (x ∷ xs) (suc k) b e = got_map xs k b e

module _ {A : Type 0} where
  pub get_set : (xs : List A) (k : ℕ) (a : A) → k < length xs → slice_get (set xs k a) k ≡ Some a
  get_set [] k a below = absurd (omega arith)
  get_set (x ∷ xs) zero a below = refl
  get_set (x ∷ xs) (suc k) a below = get_set xs k a (omega arith)

  pub get_else : (xs : List A) (k j : ℕ) (a : A) → j ≢ k → slice_get (set xs k a) j ≡ slice_get xs j
  get_else [] k j a away = refl
  get_else (x ∷ xs) zero zero a away = absurd (away refl)
  get_else (x ∷ xs) zero (suc j) a away = refl
  get_else (x ∷ xs) (suc k) zero a away = refl
  get_else (x ∷ xs) (suc k) (suc j) a away = get_else xs k j a (λ e. away (ap suc e))

  pub get_mid : (xs : List A) (x : A) (ys : List A) → slice_get (xs ++ x ∷ ys) (length xs) ≡ Some x
  get_mid [] x ys = refl
  get_mid (y ∷ xs) x ys = get_mid xs x ys

  pub item_at : (xs : List A) (x y : A) (rest all : List A) → xs ++ x ∷ rest ≡ all → slice_get all (length xs) ≡ Some y → x ≡ y
  item_at xs x y rest all is at = let here : Some x ≡ Some y = sym (get_mid xs x rest) ∙ (ap (λ (l : List A). slice_get l (length xs)) is ∙ at) in cc

module _ {A B : Type 0} (f : A → B) where
  pub map_more : (xs : List A) (x : A) → map f (xs ++ x ∷ []) ≡ map f xs ++ f x ∷ []
  map_more [] x = refl
  map_more (y ∷ xs) x = ap (λ (l : List B). f y ∷ l) (map_more xs x)

module _ {A : Type 0} (P : A → Type 0) where
  pub all_more : (xs : List A) (x : A) → All P xs → P x → All P (xs ++ x ∷ [])
  all_more xs x all p = All-append P xs (x ∷ []) all (All-cons P x [] p (λ k d below. absurd (omega arith)))

  pub all_taken : (xs : List A) (j : ℕ) (x : A) → j < length xs → All P (take j xs) → x ≡ slice_index_or xs j x → P x → All P (take (j + 1) xs)
  all_taken xs j x below all here p = subst (All P) (sym (take_more xs j x below)) (all_more (take j xs) (slice_index_or xs j x) all (subst P here p))

  pub all_of_taken : (xs : List A) (n : ℕ) → length xs ≤ n → All P (take n xs) → All P xs
  all_of_taken [] n le all = λ k d below. absurd (omega arith)
  all_of_taken (x ∷ xs) zero le all = absurd (omega arith)
  all_of_taken (x ∷ xs) (suc n) le all = All-cons P x xs (All-head P x (take n xs) all) (all_of_taken xs n (omega arith) (All-tail P x (take n xs) all))

module _ {A : Type 0} where
  pub index_set : (xs : List A) (k : ℕ) (a d : A) → k < length xs → slice_index_or (set xs k a) k d ≡ a
  index_set [] k a d below = absurd (omega arith)
  index_set (x ∷ xs) zero a d below = refl
  index_set (x ∷ xs) (suc k) a d below = index_set xs k a d (omega arith)

  pub index_else : (xs : List A) (k j : ℕ) (a d : A) → j ≢ k → slice_index_or (set xs k a) j d ≡ slice_index_or xs j d
  index_else [] k j a d away = refl
  index_else (x ∷ xs) zero zero a d away = absurd (away refl)
  index_else (x ∷ xs) zero (suc j) a d away = refl
  index_else (x ∷ xs) (suc k) zero a d away = refl
  index_else (x ∷ xs) (suc k) (suc j) a d away = index_else xs k j a d (λ e. away (ap suc e))

-- each item as its number says, and one more
pub each_place : {A : Type 0} (P : ℕ → A → Type 0) (xs : List A) (x : A) → ((k : ℕ) (y : A) → slice_get xs k ≡ Some y → P k y) → P (length xs) x → (k : ℕ) (y : A) → slice_get (xs ++ x ∷ []) k ≡ Some y → P k y
each_place P [] x each is zero y at = let same : x ≡ y = cc in subst (P zero) same is
each_place P [] x each is (suc k) y at = absurd (cc)
each_place P (z ∷ xs) x each is zero y at = each zero y at
each_place P (z ∷ xs) x each is (suc k) y at = each_place (λ j v. P (suc j) v) xs x (λ j v h. each (suc j) v h) is k y at
