-- Where runs of given lengths begin: the starts rise, and no number is in two runs.
use Rattle.std.proofs.Common.{◌≡◌, ℕ, zero, suc, ◌+◌, ◌-◌, ◌<◌, ◌≤◌, List, [], ◌∷◌, length, get_or, refl, ap, ◌∙◌, arith}
use Rattle.co_print.specs.Order.{starts_from}

pub length-starts : (a : ℕ) (ns : List ℕ) → length (starts_from a ns) ≡ length ns + 1
length-starts a [] = refl
length-starts a (n ∷ ns) = omega (arith, length-starts (a + n) ns)

first-start : (a : ℕ) (ns : List ℕ) → get_or (starts_from a ns) 0 0 ≡ a
first-start a [] = refl
first-start a (n ∷ ns) = refl

-- a run begins where the one before it ends
pub next-start : (a : ℕ) (ns : List ℕ) (i : ℕ) → i < length ns → get_or (starts_from a ns) (i + 1) 0 ≡ get_or (starts_from a ns) i 0 + get_or ns i 0
next-start a [] i inside = absurd (omega (arith, inside))
next-start a (n ∷ ns) zero inside = first-start (a + n) ns
next-start a (n ∷ ns) (suc i) inside =
    let next : suc i + 1 ≡ suc (i + 1) = omega arith in
    ap (λ k. get_or (starts_from a (n ∷ ns)) k 0) next ∙ next-start (a + n) ns i (omega (arith, inside))

pub starts-rise : (a : ℕ) (ns : List ℕ) (i more : ℕ) → i + more ≤ length ns → get_or (starts_from a ns) i 0 ≤ get_or (starts_from a ns) (i + more) 0
starts-rise a ns i zero inside =
    let same : i + 0 ≡ i = omega arith in
    rw same (omega arith)
starts-rise a ns i (suc more) inside =
    let next : i + suc more ≡ (i + more) + 1 = omega arith in
    let at : get_or (starts_from a ns) (i + suc more) 0 ≡ get_or (starts_from a ns) (i + more) 0 + get_or ns (i + more) 0 =
    ap (λ k. get_or (starts_from a ns) k 0) next ∙ next-start a ns (i + more) (omega (arith, inside)) in
    omega (arith, at, starts-rise a ns i more (omega (arith, inside)))

pub starts-upto : (a : ℕ) (ns : List ℕ) (i j : ℕ) → i ≤ j → j ≤ length ns → get_or (starts_from a ns) i 0 ≤ get_or (starts_from a ns) j 0
starts-upto a ns i j le inside =
    let same : i + (j - i) ≡ j = omega arith in
    let all : get_or (starts_from a ns) i 0 ≤ get_or (starts_from a ns) (i + (j - i)) 0 = starts-rise a ns i (j - i) (omega arith) in
    rw same at all

-- a number is in one run alone
pub same-run : (a : ℕ) (ns : List ℕ) (i j x y : ℕ) → i < length ns → j < length ns → x < get_or ns i 0 → y < get_or ns j 0
    → get_or (starts_from a ns) i 0 + x ≡ get_or (starts_from a ns) j 0 + y → i ≡ j
same-run a ns i j x y in_i in_j in_x in_y same =
    let left : i < j → get_or (starts_from a ns) (i + 1) 0 ≤ get_or (starts_from a ns) j 0 = λ less. starts-upto a ns (i + 1) j (omega arith) (omega arith) in
    let right : j < i → get_or (starts_from a ns) (j + 1) 0 ≤ get_or (starts_from a ns) i 0 = λ less. starts-upto a ns (j + 1) i (omega arith) (omega arith) in
    let next_i : get_or (starts_from a ns) (i + 1) 0 ≡ get_or (starts_from a ns) i 0 + get_or ns i 0 = next-start a ns i in_i in
    let next_j : get_or (starts_from a ns) (j + 1) 0 ≡ get_or (starts_from a ns) j 0 + get_or ns j 0 = next-start a ns j in_j in
    grind arith
