-- The bytes of a number, and what reads them.
use Rattle.std.proofs.Common.{ℕ, zero, suc, ◌≡◌, ◌<◌, ◌+◌, ◌-◌, ◌*◌, ◌/◌, ◌%◌, ◌^◌, List, [], ◌∷◌, ◌++◌, length, get_or, take, drop, min, bit_and, refl, sym, ap, ◌∙◌, arith}
use Rattle.std.proofs.Math.Nat.{pow-suc, mul_assoc}
use Rattle.std.proofs.lemmas.List.{get_or-drop, drop-drop}
use Rattle.std.proofs.lemmas.Nat.{mod-mul-add, mod_below, and_mask}
use Rattle.co_packed.proofs.Limits.{limit_pos, limit_low, few_bytes, below_width, same_width, bytes_bits}
use Rattle.std.specs.Int.{w64, to_le_bytes, from_le_bytes}
use Rattle.co_packed.specs.Numbers.{width, bytes_of, value, number_in}

value_none : (bs : List ℕ) → value zero bs ≡ 0
unfolding value
value_none bs = refl

value_next : (more : ℕ) (bs : List ℕ) → value (suc more) bs ≡ get_or bs 0 0 + 256 * value more (drop 1 bs)
unfolding value
value_next more bs = refl

bytes_next : (more n : ℕ) (rest : List ℕ) → bytes_of (suc more) n ++ rest ≡ n % 256 ∷ (bytes_of more (n / 256) ++ rest)
unfolding bytes_of
bytes_next more n rest = refl

bytes_none : (n : ℕ) → bytes_of zero n ≡ []
unfolding bytes_of
bytes_none n = refl

pub length_of_bytes : (more n : ℕ) → length (bytes_of more n) ≡ more
unfolding bytes_of
length_of_bytes zero n = refl
length_of_bytes (suc more) n = ap suc (length_of_bytes more (n / 256))

-- what reads at least the bytes of a number reads it, and above it what follows
value_again : (w more n : ℕ) (rest : List ℕ) → n < 256 ^ w → value (w + more) (bytes_of w n ++ rest) ≡ value more rest * 256 ^ w + n
value_again zero more n rest h = let e : 0 + more ≡ more = omega arith in rw (e, bytes_none n) (omega arith)
value_again (suc w) more n rest h =
    let e : suc w + more ≡ suc (w + more) = omega arith in
    let more_limit = pow-suc 256 w in
    let again = value_again w more (n / 256) rest (omega arith) in
    let turned = mul_assoc (value more rest) (256 ^ w) 256 in
    rw (e, bytes_next w n rest, value_next (w + more) (n % 256 ∷ (bytes_of w (n / 256) ++ rest)), again, more_limit) (omega arith)

-- eight bytes are a word
pub word_again : (n : ℕ) (rest : List ℕ) → n < 2 ^ 64 → value 8 (bytes_of 8 n ++ rest) ≡ n
word_again n rest h = value_again 8 0 n rest h ∙ rw (value_none rest) (omega arith)

-- what was written is read again, whatever follows
pub number_again : (n : ℕ) (rest : List ℕ) → n < 2 ^ 64 → number_in (width n) (bytes_of (width n) n ++ rest) ≡ n
unfolding number_in
number_again n rest h =
    let few = few_bytes n in
    let below = below_width n h in
    let e : width n + (8 - width n) ≡ 8 = omega arith in
    let again : value 8 (bytes_of (width n) n ++ rest) ≡ value (8 - width n) rest * 256 ^ width n + n = rw e at (value_again (width n) (8 - width n) n rest below) in
    rw (same_width n, again) (mod-mul-add (value (8 - width n) rest) (256 ^ width n) n below)

-- what is read is a number of 64 bits
pub number_long : (wide : ℕ) (bs : List ℕ) → number_in wide bs < 2 ^ 64
unfolding number_in
number_long wide bs = omega (arith, limit_low wide, mod_below (value 8 bs) (256 ^ min wide 8) (limit_pos (min wide 8)))

-- bytes that are alike, those that are missing too, are one number
pub same_value : (more : ℕ) (bs cs : List ℕ) → ((i : ℕ) → get_or bs i 0 ≡ get_or cs i 0) → value more bs ≡ value more cs
same_value zero bs cs h = rw (value_none bs, value_none cs) refl
same_value (suc more) bs cs h =
    let rest = same_value more (drop 1 bs) (drop 1 cs) (λ i. rw (get_or-drop 1 bs i 0, get_or-drop 1 cs i 0) (h (1 + i))) in
    rw (value_next more bs, value_next more cs, h 0, rest) refl

one_on : (more at next : ℕ) (bs : List ℕ) → next ≡ at + 1 → value (suc more) (drop at bs) ≡ get_or bs at 0 + 256 * value more (drop next bs)
one_on more at next bs e =
    let turned : at + 0 ≡ at = omega arith in
    let first : get_or (drop at bs) 0 0 ≡ get_or bs at 0 = get_or-drop at bs 0 0 ∙ ap (λ (k : ℕ). get_or bs k 0) turned in
    let rest : drop 1 (drop at bs) ≡ drop next bs = drop-drop 1 at bs ∙ ap (λ (k : ℕ). drop k bs) (sym e) in
    value_next more (drop at bs)
    ∙ ap (λ (x : ℕ). x + 256 * value more (drop 1 (drop at bs))) first
    ∙ ap (λ (xs : List ℕ). get_or bs at 0 + 256 * value more xs) rest

-- the bytes of a word, each with what it is worth
word_is : (bs : List ℕ) (at : ℕ) → value 8 (drop at bs) ≡ get_or bs at 0 + 256 * get_or bs (at + 1) 0 + 65536 * get_or bs (at + 2) 0 + 16777216 * get_or bs (at + 3) 0 + 4294967296 * get_or bs (at + 4) 0 + 1099511627776 * get_or bs (at + 5) 0 + 281474976710656 * get_or bs (at + 6) 0 + 72057594037927936 * get_or bs (at + 7) 0
word_is bs at = omega (arith, one_on 7 at (at + 1) bs (omega arith), one_on 6 (at + 1) (at + 2) bs (omega arith), one_on 5 (at + 2) (at + 3) bs (omega arith), one_on 4 (at + 3) (at + 4) bs (omega arith), one_on 3 (at + 4) (at + 5) bs (omega arith), one_on 2 (at + 5) (at + 6) bs (omega arith), one_on 1 (at + 6) (at + 7) bs (omega arith), one_on 0 (at + 7) (at + 8) bs (omega arith), value_none (drop (at + 8) bs))

-- the number of a word's bytes, whatever stands behind them
value_front : (more : ℕ) (bs : List ℕ) → value more (take more bs) ≡ value more bs
value_front zero bs = rw (value_none (take zero bs), value_none bs) refl
value_front (suc more) [] = refl
value_front (suc more) (b ∷ bs) = value_next more (b ∷ take more bs) ∙ ap (λ (n : ℕ). b + 256 * n) (value_front more bs) ∙ sym (value_next more (b ∷ bs))

word_of : (bs : List ℕ) → from_le_bytes w64 bs ≡ value 8 bs
word_of bs = omega (arith, word_is bs 0)

pub word_in_front : (word rest bs : List ℕ) (at : ℕ) → word ≡ take 8 rest → rest ≡ drop at bs → from_le_bytes w64 word ≡ value 8 (drop at bs)
word_in_front word rest bs at front is = word_of word ∙ ap (value 8) front ∙ value_front 8 rest ∙ ap (value 8) is

pub bytes_of_word : (n : ℕ) → to_le_bytes w64 n ≡ bytes_of 8 n
unfolding bytes_of
bytes_of_word n =
    let b : n / 256 / 256 ≡ n / 65536 = omega arith in
    let c : n / 65536 / 256 ≡ n / 16777216 = omega arith in
    let d : n / 16777216 / 256 ≡ n / 4294967296 = omega arith in
    let e : n / 4294967296 / 256 ≡ n / 1099511627776 = omega arith in
    let f : n / 1099511627776 / 256 ≡ n / 281474976710656 = omega arith in
    let g : n / 281474976710656 / 256 ≡ n / 72057594037927936 = omega arith in
    rw (b, c, d, e, f, g) refl

-- the lowest bytes of a number are the first of its bytes
pub first_bytes : (w more n : ℕ) → take w (bytes_of (w + more) n) ≡ bytes_of w n
unfolding bytes_of
first_bytes zero more n = refl
first_bytes (suc w) more n = let e : suc w + more ≡ suc (w + more) = omega arith in rw e (ap (λ (xs : List ℕ). n % 256 ∷ xs) (first_bytes w more (n / 256)))

-- the bits of so many bytes, for each width
abbrev pub masks : List ℕ
masks = 0 ∷ 255 ∷ 65535 ∷ 16777215 ∷ 4294967295 ∷ 1099511627775 ∷ 281474976710655 ∷ 72057594037927935 ∷ 18446744073709551615 ∷ 18446744073709551615 ∷ 18446744073709551615 ∷ 18446744073709551615 ∷ 18446744073709551615 ∷ 18446744073709551615 ∷ 18446744073709551615 ∷ 18446744073709551615 ∷ []

abbrev AreMasks : ℕ → List ℕ → Type 0
AreMasks k [] = Unit {0}
AreMasks k (m ∷ ms) = (m ≡ 2 ^ (8 * min k 8) - 1) × AreMasks (k + 1) ms

mask_within : (k i : ℕ) (ms : List ℕ) → AreMasks k ms → i < length ms → get_or ms i 0 ≡ 2 ^ (8 * min (k + i) 8) - 1
mask_within k i [] h within = absurd (omega arith)
mask_within k zero (m ∷ ms) h within = let e : k + 0 ≡ k = omega arith in rw e h.0
mask_within k (suc i) (m ∷ ms) h within = let e : k + suc i ≡ k + 1 + i = omega arith in rw e (mask_within (k + 1) i ms h.1 (omega arith))

are_masks : AreMasks 0 masks
are_masks = (refl, (refl, (refl, (refl, (refl, (refl, (refl, (refl, (refl, (refl, (refl, (refl, (refl, (refl, (refl, (refl, tt))))))))))))))))

pub masked : (word wide : ℕ) → wide < 16 → bit_and word (get_or masks wide 0) ≡ word % 256 ^ min wide 8
masked word wide h =
    let e : 0 + wide ≡ wide = omega arith in
    let is : get_or masks wide 0 ≡ 2 ^ (8 * min wide 8) - 1 = rw e at (mask_within 0 wide masks are_masks h) in
    rw (is, bytes_bits (min wide 8)) (and_mask word (8 * min wide 8))
