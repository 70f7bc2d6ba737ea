-- How often numbers stand in a list, and how many they are.
use Rattle.std.proofs.Common.{◌≡◌, ◌≢◌, ℕ, zero, suc, ◌+◌, Bool, true, false, cond, eqb, List, [], ◌∷◌, length, get_or, refl, ap, sym, ◌∙◌, arith, inl, inr}
use Rattle.std.specs.Prelude.{not}
use Rattle.std.specs.List.{count_by}
use Rattle.std.proofs.lemmas.List.Sums.{sum_by-cons}
use Rattle.std.proofs.lemmas.Bool.{cases_eq, eq-eqb, ne_eqb}
use Rattle.co_object.specs.declared.note.Entry.{Entry}
use Rattle.co_single.specs.Alarms.{but, times_in, gos, all_gos}

-- i stands once at the head
pub times-head : (i : ℕ) (ws : List ℕ) → times_in i (i ∷ ws) ≡ 1 + times_in i ws
times-head i ws = ap (λ b. cond b 1 0 + times_in i ws) (eq-eqb i i refl)

pub times-other : (i j : ℕ) (ws : List ℕ) → j ≢ i → times_in j (i ∷ ws) ≡ times_in j ws
times-other i j ws h = ap (λ b. cond b 1 0 + times_in j ws) (ne_eqb i j (λ e. h (sym e))) ∙ omega arith

abbrev one-of : Bool → ℕ
one-of b = cond b 1 0

-- nothing is left out of a list in which i does not stand
pub but-same : (i : ℕ) (ws : List ℕ) → times_in i ws ≡ 0 → but i ws ≡ ws
but-same i [] h = refl
but-same i (w ∷ ws) h = go (eqb w i) refl (but-same i ws) where
  go : (b : Bool) → eqb w i ≡ b → (times_in i ws ≡ 0 → but i ws ≡ ws) → but i (w ∷ ws) ≡ w ∷ ws
  go true e more = absurd (let g : one-of (eqb w i) ≡ one-of true = ap one-of e in omega (arith, g, h))
  go false e more =
      let g : one-of (eqb w i) ≡ one-of false = ap one-of e in
      let rest : times_in i ws ≡ 0 = omega (arith, g, h) in
      ap (λ b. cond (not b) (w ∷ but i ws) (but i ws)) e ∙ ap (λ l. w ∷ l) (more rest)

-- the numbers of a list that are not 0, each less by 1
lowered : List ℕ → List ℕ
lowered [] = []
lowered (zero ∷ ws) = lowered ws
lowered (suc k ∷ ws) = k ∷ lowered ws

eqb-suc : (k i : ℕ) → eqb (suc k) (suc i) ≡ eqb k i
eqb-suc k i = elim (cases_eq k i) [
  | inl same ↦ eq-eqb (suc k) (suc i) (ap suc same) ∙ sym (eq-eqb k i same)
  | inr differs ↦ ne_eqb (suc k) (suc i) (λ e. differs (omega (arith, e))) ∙ sym (ne_eqb k i differs)
]

times-lowered : (i : ℕ) (ws : List ℕ) → times_in i (lowered ws) ≡ times_in (suc i) ws
unfolding lowered
times-lowered i [] = refl
times-lowered i (zero ∷ ws) = times-lowered i ws ∙ sym (times-other zero (suc i) ws (λ e. absurd (omega (arith, e))))
times-lowered i (suc k ∷ ws) = ap (λ b. cond b 1 0 + times_in i (lowered ws)) (sym (eqb-suc k i)) ∙ ap (λ n. cond (eqb (suc k) (suc i)) 1 0 + n) (times-lowered i ws)

length-lowered : (ws : List ℕ) → length ws ≡ times_in zero ws + length (lowered ws)
unfolding lowered
length-lowered [] = refl
length-lowered (zero ∷ ws) = let t = times-head zero ws in let r = length-lowered ws in omega (arith, t, r)
length-lowered (suc k ∷ ws) =
    let t = times-other (suc k) zero ws (λ e. absurd (omega (arith, e))) in
    let r = length-lowered ws in
    omega (arith, t, r)

empty : (ws : List ℕ) → ((i : ℕ) → times_in i ws ≡ 0) → length ws ≡ 0
empty [] h = refl
empty (w ∷ ws) h = absurd (omega (arith, h w, times-head w ws))

-- a list in which each place of xs that passes a test stands once, and nothing else
pub counted : {X : Type 0} (f : X → Bool) (d : X) (xs : List X) (ws : List ℕ) → f d ≡ false → ((i : ℕ) → times_in i ws ≡ cond (f (get_or xs i d)) 1 0) → length ws ≡ count_by f xs
counted f d [] ws h each = empty ws (λ i. each i ∙ ap (λ b. cond b 1 0) h)
counted f d (x ∷ xs) ws h each =
    let rest = counted f d xs (lowered ws) h (λ i. times-lowered i ws ∙ each (suc i)) in
    let first : times_in zero ws ≡ cond (f x) 1 0 = each zero in
    length-lowered ws ∙ (ap (λ n. n + length (lowered ws)) first ∙ (ap (λ n. cond (f x) 1 0 + n) rest ∙ sym (sum_by-cons (λ y. cond (f y) 1 0) x xs)))

-- histories in which each callout that passes a test has fired once more
pub all_gos-more : {X : Type 0} (f : X → Bool) (d : X) (xs : List X) (Gs Hs : List (List Entry)) → length Gs ≡ length xs → length Hs ≡ length xs → ((i : ℕ) → gos (get_or Hs i []) ≡ gos (get_or Gs i []) + cond (f (get_or xs i d)) 1 0) → all_gos Hs ≡ all_gos Gs + count_by f xs
all_gos-more f d [] [] [] g h each = refl
all_gos-more f d [] [] (H ∷ Hs) g h each = absurd (omega (arith, h))
all_gos-more f d [] (G ∷ Gs) Hs g h each = absurd (omega (arith, g))
all_gos-more f d (x ∷ xs) [] Hs g h each = absurd (omega (arith, g))
all_gos-more f d (x ∷ xs) (G ∷ Gs) [] g h each = absurd (omega (arith, h))
all_gos-more f d (x ∷ xs) (G ∷ Gs) (H ∷ Hs) g h each =
    let rest = all_gos-more f d xs Gs Hs (omega (arith, g)) (omega (arith, h)) (λ i. each (suc i)) in
    let sum = sum_by-cons (λ y. cond (f y) 1 0) x xs in
    let first : gos H ≡ gos G + cond (f x) 1 0 = each zero in
    omega (arith, first, rest, sum)

pub all_gos-same : (Gs Hs : List (List Entry)) → length Hs ≡ length Gs → ((i : ℕ) → gos (get_or Hs i []) ≡ gos (get_or Gs i [])) → all_gos Hs ≡ all_gos Gs
all_gos-same [] [] h each = refl
all_gos-same [] (H ∷ Hs) h each = absurd (omega (arith, h))
all_gos-same (G ∷ Gs) [] h each = absurd (omega (arith, h))
all_gos-same (G ∷ Gs) (H ∷ Hs) h each =
    let rest = all_gos-same Gs Hs (omega (arith, h)) (λ i. each (suc i)) in
    omega (arith, each zero, rest)

pub all_gos-none : (Hs : List (List Entry)) → ((i : ℕ) → gos (get_or Hs i []) ≡ 0) → all_gos Hs ≡ 0
all_gos-none [] each = refl
all_gos-none (H ∷ Hs) each = omega (arith, each zero, all_gos-none Hs (λ i. each (suc i)))
