-- The numbers of the sleepers' last timed sleeps go on with the slots.
use Rattle.std.proofs.Common.{◌≡◌, ◌≢◌, ℕ, ◌+◌, ◌<◌, ◌≤◌, ◌==◌, ◌&&◌, Bool, true, false, List, length, set, replicate, refl, ap, sym, subst, ◌∙◌, arith, inl, inr}
use Rattle.std.specs.Prelude.{if◌then◌else◌}
use Rattle.std.specs.declared.option.Option.{Option}
use Rattle.std.specs.declared.option.Option.TheVariants.{Some, None}
use Rattle.std.proofs.lemmas.Bool.{cases_eq, cases_lt}
use Rattle.std.proofs.lemmas.Bool.Decides.{nat_tests}
use Rattle.std.proofs.lemmas.List.{get_or-set_same, get_or-set_other, get_or-replicate, get_or_past, length-replicate, length-set}
use Rattle.co_sleepq.specs.declared.sleep.Sleep.{Sleep}
use Rattle.co_sleepq.specs.Sleepers.{is_asleep}
use Rattle.co_sleepq.specs.Slots.{AreLast, AreSlots, last_at, later, slot_at}
use Rattle.co_sleepq.proofs.Placed.{some_is}
use Rattle.co_sleepq.proofs.Slotted.{Slots}

none-some : {A : Type 0} (a : A) → None ≡ Some a → ⊥
none-some a h = cc

-- some sleeps are gone
fewer_last : (size next : ℕ) (olds news : Slots) (last : List ℕ) → AreLast size next olds last → ((i : ℕ) (x : Sleep) → slot_at news i ≡ Some x → slot_at olds i ≡ Some x) → AreLast size next news last
fewer_last size next olds news last a was = record {
  own = λ i j x at number. a.own i j x (was j x at) number;
  given = a.given;
  size_is = a.size_is;
}

pub woken_last : (size next : ℕ) (olds news : Slots) (last : List ℕ) (gone : List Sleep) → AreLast size next olds last → ((i : ℕ) → slot_at news i ≡ (if is_asleep gone i then None else slot_at olds i)) → AreLast size next news last
woken_last size next olds news last gone a woken = fewer_last size next olds news last a (λ i x at. was (is_asleep gone i) (slot_at olds i) x (sym (woken i) ∙ at)) where
  was : (b : Bool) (o : Option Sleep) (x : Sleep) → (if b then None else o) ≡ Some x → o ≡ Some x
  was true o x h = absurd (none-some x h)
  was false o x h = h

pub ended_last : (size next : ℕ) (slots : Slots) (last : List ℕ) (k : ℕ) → AreLast size next slots last → AreLast size next (set slots k None) last
ended_last size next slots last k a = fewer_last size next slots (set slots k None) last a was where
  was : (j : ℕ) (x : Sleep) → slot_at (set slots k None) j ≡ Some x → slot_at slots j ≡ Some x
  was j x at = elim (cases_eq j k) [
    | inl here ↦ absurd (none-some x (sym (elim (cases_lt k (length slots)) [
      | inl low ↦ get_or-set_same slots k None None low
      | inr past ↦ get_or_past (set slots k None) k None (let long = length-set slots k None in omega (arith, past, long))
    ]) ∙ (ap (slot_at (set slots k None)) (sym here) ∙ at)))
    | inr there ↦ sym (get_or-set_other slots k j None None there) ∙ at
  ]

-- one begins
pub begun_last : (size next : ℕ) (slots : Slots) (last : List ℕ) (x : Sleep) → AreSlots size next slots → AreLast size next slots last → x.i < size → x.s ≡ next
    → AreLast size (next + 1) (set slots x.i (Some x)) (set last x.i (later x.timed x.s (last_at last x.i)))
begun_last size next slots last x slots_are a low new = record {
  own = λ i j y at number. elim (cases_eq i x.i) [
    | inl here ↦ its j y at (x.timed) refl (number ∙ (ap (last_at news) here ∙ put)) ∙ sym here
    | inr there ↦ old i j y at (number ∙ get_or-set_other last x.i i v 0 there)
  ];
  given = λ i. elim (cases_eq i x.i) [
    | inl here ↦ subst (λ n. last_at news n ≤ next + 1) (sym here) (few (x.timed) refl)
    | inr there ↦ let e = get_or-set_other last x.i i v 0 there in let was = a.given i in omega (arith, e, was)
  ];
  size_is = length-set last x.i v ∙ a.size_is;
} where
  v : ℕ
  v = later x.timed x.s (last_at last x.i)

  news : List ℕ
  news = set last x.i v

  put : last_at news x.i ≡ v
  put = get_or-set_same last x.i v 0 (omega (arith, low, a.size_is))

  at_new : (j : ℕ) (y : Sleep) → j ≡ x.i → slot_at (set slots x.i (Some x)) j ≡ Some y → x ≡ y
  at_new j y here at = some_is x y (sym (get_or-set_same slots x.i (Some x) None (omega (arith, low, slots_are.size_is))) ∙ (ap (slot_at (set slots x.i (Some x))) (sym here) ∙ at))

  at_old : (j : ℕ) (y : Sleep) → j ≢ x.i → slot_at (set slots x.i (Some x)) j ≡ Some y → slot_at slots j ≡ Some y
  at_old j y there at = sym (get_or-set_other slots x.i j (Some x) None there) ∙ at

  old : (i j : ℕ) (y : Sleep) → slot_at (set slots x.i (Some x)) j ≡ Some y → y.s + 1 ≡ last_at last i → j ≡ i
  old i j y at number = elim (cases_eq j x.i) [
    | inl here ↦ let e = ap (λ (z : Sleep). z.s) (at_new j y here at) in let was = a.given i in absurd (omega (arith, e, new, was, number))
    | inr there ↦ a.own i j y (at_old j y there at) number
  ]

  its : (j : ℕ) (y : Sleep) → slot_at (set slots x.i (Some x)) j ≡ Some y → (b : Bool) → x.timed ≡ b → y.s + 1 ≡ v → j ≡ x.i
  its j y at true h number = elim (cases_eq j x.i) [
    | inl here ↦ here
    | inr there ↦ let was = slots_are.given j y (at_old j y there at) in let n : y.s + 1 ≡ x.s + 1 = number ∙ ap (λ b. later b x.s (last_at last x.i)) h in absurd (omega (arith, was, n, new))
  ]
  its j y at false h number = old x.i j y at (number ∙ ap (λ b. later b x.s (last_at last x.i)) h)

  few : (b : Bool) → x.timed ≡ b → last_at news x.i ≤ next + 1
  few true h = let e : last_at news x.i ≡ x.s + 1 = put ∙ ap (λ b. later b x.s (last_at last x.i)) h in omega (arith, e, new)
  few false h = let e : last_at news x.i ≡ last_at last x.i = put ∙ ap (λ b. later b x.s (last_at last x.i)) h in let was = a.given x.i in omega (arith, e, was)

-- nobody has slept
pub no_last : (n : ℕ) → AreLast n 0 (replicate n None) (replicate n 0)
no_last n = record {
  own = λ i j x at number. absurd (none-some x (sym (empty j) ∙ at));
  given = λ i. let e = zero_at i in omega (arith, e);
  size_is = length-replicate n 0;
} where
  none : Option Sleep
  none = None

  never : ℕ
  never = 0

  empty : (i : ℕ) → slot_at (replicate n None) i ≡ None
  empty i = elim (cases_lt i n) [
    | inl low ↦ get_or-replicate n i None None low
    | inr past ↦ get_or_past (replicate n None) i None (let long : length (replicate n none) ≡ n = length-replicate n none in omega (arith, past, long))
  ]

  zero_at : (i : ℕ) → last_at (replicate n 0) i ≡ 0
  zero_at i = elim (cases_lt i n) [
    | inl low ↦ get_or-replicate n i 0 0 low
    | inr past ↦ get_or_past (replicate n 0) i 0 (let long : length (replicate n never) ≡ n = length-replicate n never in omega (arith, past, long))
  ]

-- where a sleeper's last timed sleep has this number no other's sleep has it
pub not_there : (slots : Slots) (last : List ℕ) (near s : ℕ) → ((j : ℕ) (x : Sleep) → slot_at slots j ≡ Some x → x.s + 1 ≡ last_at last near → j ≡ near) → s + 1 ≡ last_at last near
    → ((x : Sleep) → slot_at slots near ≡ Some x → (x.s == s && x.timed) ≡ false) → (i : ℕ) (x : Sleep) → slot_at slots i ≡ Some x → (x.s == s && x.timed) ≡ false
not_there slots last near s own number none i x at = go (x.s == s && x.timed) refl where
  first_true : (a b : Bool) → (a && b) ≡ true → a ≡ true
  first_true true b h = refl
  first_true false b h = h

  equal : (m n : ℕ) → (m == n) ≡ true → m ≡ n
  equal m n h = grind (arith, nat_tests)

  go : (b : Bool) → (x.s == s && x.timed) ≡ b → (x.s == s && x.timed) ≡ false
  go false h = h
  go true h =
      let same : x.s ≡ s = equal x.s s (first_true (x.s == s) x.timed h) in
      let here : i ≡ near = own i x at (ap (λ n. n + 1) same ∙ number) in
      none x (ap (slot_at slots) (sym here) ∙ at)
