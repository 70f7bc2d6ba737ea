-- The first time of the lists is that of the queue.
use Rattle.std.proofs.Common.{◌≡◌, ℕ, zero, suc, ◌+◌, ◌<◌, ◌≤◌, Bool, true, false, not, ◌&&◌, ◌||◌, ◌==◌, List, [], ◌∷◌, ◌++◌, map, refl, ap, ◌∙◌, arith, length, nat_lt, slice_index}
use Rattle.std.specs.Prelude.{is_some}
use Rattle.std.specs.List.{list_any, flat_map, range_with_len}
use Rattle.std.specs.declared.option.Option.{Option}
use Rattle.std.specs.declared.option.Option.TheVariants.{Some, None}
use Rattle.std.proofs.lemmas.Bool.Decides.{nat_tests}
use Rattle.co_object.proofs.Each.{each-all}
use Rattle.co_object.proofs.Numbers.{same_itself}
use Rattle.co_queue.specs.Timers.{Timers}
use Rattle.co_queue.proofs.Lists.{any-map, false-each}
use Rattle.co_bucket.specs.Earliest.{has_come, IsEarliest, IsEarliestAt, IsFirst}
use Rattle.co_bucket.specs.Rings.{first_of}
use Rattle.co_bucket.specs.Wheel.{entry_at, due_at, listed, AreTimely}
use Rattle.co_bucket.proofs.Elements.{each-of}
use Rattle.co_bucket.proofs.Listed.{ahead, any-flat_map, each-map, found-flat_map}

none-flat_map : {X : Type 0} (f : ℕ → List X) (a c : ℕ) → ((k : ℕ) → k < a + c → f k ≡ []) → flat_map f (range_with_len a c) ≡ []
none-flat_map f a zero h = refl
none-flat_map f a (suc c) h = ap (λ xs. xs ++ flat_map f (range_with_len (a + 1) c)) (h a (omega arith)) ∙ none-flat_map f (a + 1) c (λ k low. h k (omega arith))

or_left : (b c : Bool) → b ≡ true → (b || c) ≡ true
or_left b c e = ap (λ b. b || c) e

or_right : (b c : Bool) → c ≡ true → (b || c) ≡ true
or_right true c e = refl
or_right false c e = e

module _ (size m : ℕ) (direct : List Bool) (n t : List ℕ) (last : ℕ) (lists : ℕ → List ℕ) where
  abbrev here : Timers
  here = listed size m direct n t last lists

  -- where something has come due
  pub earliest-come : AreTimely m t last lists → 1 ≤ length here.expired + length here.urgent → IsEarliestAt here last
  earliest-come timely some = (
    ahead size m direct n t last lists timely,
    or_right (list_any (λ e. e.t == last) here.content) (has_come here && last == last) (ap (λ b. b && last == last) come ∙ same_itself last last refl),
  ) where
    few : nat_lt (length here.expired + length here.urgent) 1 ≡ false
    few = grind (arith, nat_tests, some)

    come : has_come here ≡ true
    come = ap not few

  -- where nothing has
  pub earliest-waits : (o : Option ℕ) → IsFirst m t lists o → lists m ≡ [] → lists (m + 1) ≡ [] → IsEarliest here o
  earliest-waits None h e u = (
    none-flat_map (λ k. map (entry_at n t) (lists k)) 0 m (λ k low. ap (map (entry_at n t)) (h k (omega (arith, low)))),
    ap (map (due_at n)) e,
    ap (map (due_at n)) u,
  )
  earliest-waits (Some v) h e u = (
    any-flat_map (λ e. nat_lt e.t v) (λ k. map (entry_at n t) (lists k)) 0 m (λ k low high. false-each (λ e. nat_lt e.t v) (map (entry_at n t) (lists k))
        (each-map (λ e. nat_lt e.t v ≡ false) (entry_at n t) (lists k) (each-all (λ x. v ≤ slice_index t x) (λ x. nat_lt (slice_index t x) v ≡ false) (λ x g. later (slice_index t x) v g) (lists k) (each-of (λ x. v ≤ slice_index t x) (lists k) (h.before k (omega (arith, high))))))),
    or_left (list_any (λ e. e.t == v) here.content) (has_come here && v == last)
        (found-flat_map (λ e. e.t == v) (λ k. map (entry_at n t) (lists k)) 0 m h.bucket (omega arith) (let l = h.below in omega (arith, l)) (any-map (entry_at n t) (λ e. e.t == v) (lists h.bucket) ∙ h.there)),
  ) where
    later : (a b : ℕ) → b ≤ a → nat_lt a b ≡ false
    later a b h = grind (arith, nat_tests)

pub come-in : (n xs : List ℕ) (o : Option ℕ) → o ≡ first_of xs → is_some o ≡ true → 1 ≤ length (map (due_at n) xs)
come-in n [] o e h = let none = ap is_some e in cc
come-in n (x ∷ xs) o e h = omega arith

pub none-in : (xs : List ℕ) (o : Option ℕ) → o ≡ first_of xs → is_some o ≡ false → xs ≡ []
none-in [] o e h = refl
none-in (x ∷ xs) o e h = let some = ap is_some e in cc
