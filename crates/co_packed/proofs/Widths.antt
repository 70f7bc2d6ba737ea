-- The widths of the numbers of a row, and what reads the numbers by them.
use Rattle.std.proofs.Common.{ℕ, zero, suc, ◌≡◌, ◌<◌, ◌≤◌, ◌+◌, ◌-◌, ◌*◌, ◌/◌, ◌%◌, ◌^◌, List, [], ◌∷◌, ◌++◌, length, get_or, take, drop, replicate, refl, sym, ap, ◌∙◌, ⊎_elim, append-nil, arith}
use Rattle.std.proofs.lemmas.Bool.{cases_lt}
use Rattle.std.proofs.lemmas.List.{drop_more, take_more, take-take, take_at, length-take-le, drop-drop, flat_map_more, get_or_append_left, get_or_past, get_or-drop, get_or-replicate, length-replicate, drop-take}
use Rattle.std.proofs.Math.Nat.{pow-suc}
use Rattle.std.proofs.Math.Seq.{take-append-add, take-append_seam, take-add, drop-append_seam, get_or-append_right}
use Rattle.std.specs.List.{flat_map}
use Rattle.co_packed.proofs.Again.{first_bytes, same_value}
use Rattle.co_packed.proofs.Limits.{few_bytes}
use Rattle.co_packed.specs.Numbers.{width, bytes_of, value, number_in}
use Rattle.co_packed.specs.Rows.{widths, number_bytes, numbers_in, row_in, row_size, size_in}

pub widths_none : widths [] ≡ 0
unfolding widths
widths_none = refl

pub widths_some : (n : ℕ) (ns : List ℕ) → widths (n ∷ ns) ≡ width n + 16 * widths ns
unfolding widths
widths_some n ns = refl

-- one number before those
pub widths_before : (ns : List ℕ) (at : ℕ) → at < length ns → widths (drop at ns) ≡ width (get_or ns at 0) + 16 * widths (drop (at + 1) ns)
widths_before ns at h = rw (drop_more ns at 0 h) (widths_some (get_or ns at 0) (drop (at + 1) ns))

pub widths_below : (k : ℕ) (ns : List ℕ) → length ns ≤ k → widths ns < 16 ^ k
widths_below zero [] h = rw widths_none (omega arith)
widths_below zero (n ∷ ns) h = absurd (omega arith)
widths_below (suc k) [] h = rw widths_none (omega (arith, pow-suc 16 k, widths_below k [] (omega arith)))
widths_below (suc k) (n ∷ ns) h = rw (widths_some n ns) (omega (arith, widths_below k ns (omega arith), few_bytes n, pow-suc 16 k))

-- a word is put in the place of what was there
pub word_put : (old ys rest : List ℕ) (at : ℕ) → at ≤ length old → length ys ≡ 8 → take (at + 8) (take at old ++ (ys ++ rest)) ≡ take at old ++ ys
word_put old ys rest at within long =
    let front : length (take at old) ≡ at = length-take-le at old within in
    ap (λ (k : ℕ). take (k + 8) (take at old ++ (ys ++ rest))) (sym front)
    ∙ take-append-add (take at old) (ys ++ rest) 8
    ∙ ap (λ (k : ℕ). take at old ++ take k (ys ++ rest)) (sym long)
    ∙ ap (λ (xs : List ℕ). take at old ++ xs) (take-append_seam ys rest)

-- of a word's bytes those that a number needs stay
kept : (old new : List ℕ) (end w n : ℕ) → end ≤ length old → w ≤ 8 → take (end + 8) new ≡ take end old ++ bytes_of 8 n → take (end + w) new ≡ take end old ++ bytes_of w n
kept old new end w n within few put =
    let all : w + (8 - w) ≡ 8 = omega arith in
    let long : length (take end old) ≡ end = length-take-le end old within in
    let first : take w (bytes_of 8 n) ≡ bytes_of w n = rw all at (first_bytes w (8 - w) n) in
    sym (take-take (end + w) (end + 8) new (omega arith))
    ∙ ap (take (end + w)) put
    ∙ ap (λ (k : ℕ). take (k + w) (take end old ++ bytes_of 8 n)) (sym long)
    ∙ take-append-add (take end old) (bytes_of 8 n) w
    ∙ ap (λ (xs : List ℕ). take end old ++ xs) first

number_bytes_are : (n w : ℕ) → w ≡ width n → bytes_of w n ≡ number_bytes n
unfolding number_bytes
number_bytes_are n w e = rw e refl

-- one number more is put behind those before it
pub number_put : (old new front ns : List ℕ) (end at w : ℕ) → end ≤ length old → at < length ns → w ≡ width (get_or ns at 0)
    → take (end + 8) new ≡ take end old ++ bytes_of 8 (get_or ns at 0)
    → take end old ≡ front ++ flat_map number_bytes (take at ns)
    → take (end + w) new ≡ front ++ flat_map number_bytes (take (at + 1) ns)
number_put old new front ns end at w within more is put so_far =
    kept old new end w (get_or ns at 0) within (omega (arith, few_bytes (get_or ns at 0))) put
    ∙ ap (λ (xs : List ℕ). xs ++ bytes_of w (get_or ns at 0)) so_far
    ∙ ap (λ (xs : List ℕ). (front ++ flat_map number_bytes (take at ns)) ++ xs) (number_bytes_are (get_or ns at 0) w is)
    ∙ flat_map_more number_bytes front (take at ns) (get_or ns at 0)
    ∙ ap (λ (xs : List ℕ). front ++ flat_map number_bytes xs) (sym (take_more ns at 0 more))

-- four numbers more are put behind those before them
pub four_put : (old a b c new front ns : List ℕ) (at k wa wb wc wd : ℕ)
    → length old ≡ 136 → length a ≡ 136 → length b ≡ 136 → length c ≡ 136 → k + 4 ≤ length ns → at ≤ 104
    → wa ≡ width (get_or ns k 0) → wb ≡ width (get_or ns (k + 1) 0) → wc ≡ width (get_or ns (k + 2) 0) → wd ≡ width (get_or ns (k + 3) 0)
    → take (at + 8) a ≡ take at old ++ bytes_of 8 (get_or ns k 0)
    → take (at + wa + 8) b ≡ take (at + wa) a ++ bytes_of 8 (get_or ns (k + 1) 0)
    → take (at + wa + wb + 8) c ≡ take (at + wa + wb) b ++ bytes_of 8 (get_or ns (k + 2) 0)
    → take (at + wa + wb + wc + 8) new ≡ take (at + wa + wb + wc) c ++ bytes_of 8 (get_or ns (k + 3) 0)
    → take at old ≡ front ++ flat_map number_bytes (take k ns)
    → take (at + wa + wb + wc + wd) new ≡ front ++ flat_map number_bytes (take (k + 4) ns)
four_put old a b c new front ns at k wa wb wc wd lo la lb lc within low ea eb ec ed pa pb pc pd so_far =
    let fa : wa ≤ 8 = omega (arith, few_bytes (get_or ns k 0), ea) in
    let fb : wb ≤ 8 = omega (arith, few_bytes (get_or ns (k + 1) 0), eb) in
    let fc : wc ≤ 8 = omega (arith, few_bytes (get_or ns (k + 2) 0), ec) in
    let second : k + 1 + 1 ≡ k + 2 = omega arith in
    let third : k + 2 + 1 ≡ k + 3 = omega arith in
    let fourth : k + 3 + 1 ≡ k + 4 = omega arith in
    let ha = number_put old a front ns at k wa (omega arith) (omega arith) ea pa so_far in
    let hb = rw second at (number_put a b front ns (at + wa) (k + 1) wb (omega arith) (omega arith) eb pb ha) in
    let hc = rw third at (number_put b c front ns (at + wa + wb) (k + 2) wc (omega arith) (omega arith) ec pc hb) in
    rw fourth at (number_put c new front ns (at + wa + wb + wc) (k + 3) wd (omega arith) (omega arith) ed pd hc)

pub four_widths : (ns : List ℕ) (k : ℕ) → k + 4 ≤ length ns
    → widths (drop k ns) ≡ width (get_or ns k 0) + 16 * width (get_or ns (k + 1) 0) + 256 * width (get_or ns (k + 2) 0) + 4096 * width (get_or ns (k + 3) 0) + 65536 * widths (drop (k + 4) ns)
four_widths ns k h =
    let second : k + 1 + 1 ≡ k + 2 = omega arith in
    let third : k + 2 + 1 ≡ k + 3 = omega arith in
    let fourth : k + 3 + 1 ≡ k + 4 = omega arith in
    let b = rw second at (widths_before ns (k + 1) (omega arith)) in
    let c = rw third at (widths_before ns (k + 2) (omega arith)) in
    let d = rw fourth at (widths_before ns (k + 3) (omega arith)) in
    omega (arith, widths_before ns k (omega arith), b, c, d)

-- 0 takes no bytes
width_zero : width 0 ≡ 0
unfolding width lib.Count.count_leading_zeros
width_zero = refl

no_bytes : number_bytes 0 ≡ []
unfolding number_bytes bytes_of
no_bytes = ap (λ (k : ℕ). bytes_of k 0) width_zero

zero_put : (front ns : List ℕ) (k : ℕ) → k < length ns → get_or ns k 0 ≡ 0 → front ++ flat_map number_bytes (take k ns) ≡ front ++ flat_map number_bytes (take (k + 1) ns)
zero_put front ns k h e =
    sym (append-nil (front ++ flat_map number_bytes (take k ns)))
    ∙ ap (λ (xs : List ℕ). (front ++ flat_map number_bytes (take k ns)) ++ xs) (sym no_bytes ∙ ap number_bytes (sym e))
    ∙ flat_map_more number_bytes front (take k ns) (get_or ns k 0)
    ∙ ap (λ (xs : List ℕ). front ++ flat_map number_bytes xs) (sym (take_more ns k 0 h))

pub zeros_put : (front ns : List ℕ) (k : ℕ) → k + 4 ≤ length ns → get_or ns k 0 ≡ 0 → get_or ns (k + 1) 0 ≡ 0 → get_or ns (k + 2) 0 ≡ 0 → get_or ns (k + 3) 0 ≡ 0
    → front ++ flat_map number_bytes (take k ns) ≡ front ++ flat_map number_bytes (take (k + 4) ns)
zeros_put front ns k h a b c d =
    let second : k + 1 + 1 ≡ k + 2 = omega arith in
    let third : k + 2 + 1 ≡ k + 3 = omega arith in
    let fourth : k + 3 + 1 ≡ k + 4 = omega arith in
    zero_put front ns k (omega arith) a
    ∙ (zero_put front ns (k + 1) (omega arith) b ∙ ap (λ (j : ℕ). front ++ flat_map number_bytes (take j ns)) second)
    ∙ (zero_put front ns (k + 2) (omega arith) c ∙ ap (λ (j : ℕ). front ++ flat_map number_bytes (take j ns)) third)
    ∙ (zero_put front ns (k + 3) (omega arith) d ∙ ap (λ (j : ℕ). front ++ flat_map number_bytes (take j ns)) fourth)

pub zero_widths : (ns : List ℕ) (k : ℕ) → k + 4 ≤ length ns → get_or ns k 0 ≡ 0 → get_or ns (k + 1) 0 ≡ 0 → get_or ns (k + 2) 0 ≡ 0 → get_or ns (k + 3) 0 ≡ 0
    → widths (drop k ns) ≡ 65536 * widths (drop (k + 4) ns)
zero_widths ns k h a b c d =
    four_widths ns k h ∙ rw (a, b, c, d, width_zero) (omega arith)

-- the widths are put in front of the numbers
pub row_put : (old new front ns : List ℕ) (end ws : ℕ) → ws ≡ widths ns → 8 ≤ end → length front ≡ 8 → take end old ≡ front ++ flat_map number_bytes ns → take 8 new ≡ bytes_of 8 ws → drop 8 new ≡ drop 8 old
    → take end new ≡ bytes_of 8 (widths ns) ++ flat_map number_bytes ns
row_put old new front ns end ws is behind short put first rest =
    let e : 8 + (end - 8) ≡ end = omega arith in
    let cut : drop 8 (take (8 + (end - 8)) old) ≡ drop 8 (front ++ flat_map number_bytes ns) = ap (drop 8) (ap (λ (k : ℕ). take k old) e ∙ put) in
    let seam : drop 8 (front ++ flat_map number_bytes ns) ≡ flat_map number_bytes ns = ap (λ (k : ℕ). drop k (front ++ flat_map number_bytes ns)) (sym short) ∙ drop-append_seam front (flat_map number_bytes ns) in
    let numbers : take (end - 8) (drop 8 old) ≡ flat_map number_bytes ns = sym (drop-take 8 (end - 8) old) ∙ cut ∙ seam in
    ap (λ (k : ℕ). take k new) (sym e)
    ∙ take-add 8 (end - 8) new
    ∙ ap (λ (xs : List ℕ). xs ++ take (end - 8) (drop 8 new)) (first ∙ ap (bytes_of 8) is)
    ∙ ap (λ (xs : List ℕ). bytes_of 8 (widths ns) ++ xs) (ap (take (end - 8)) rest ∙ numbers)

pub numbers_none : (ws : ℕ) (bs : List ℕ) → numbers_in 0 ws bs ≡ []
unfolding numbers_in
numbers_none ws bs = refl

pub numbers_next : (count ws : ℕ) (bs : List ℕ) → numbers_in (suc count) ws bs ≡ number_in (ws % 16) bs ∷ numbers_in count (ws / 16) (drop (ws % 16) bs)
unfolding numbers_in
numbers_next count ws bs = refl

pub length_of_numbers : (count ws : ℕ) (bs : List ℕ) → length (numbers_in count ws bs) ≡ count
unfolding numbers_in
length_of_numbers zero ws bs = refl
length_of_numbers (suc count) ws bs = ap suc (length_of_numbers count (ws / 16) (drop (ws % 16) bs))

pub size_none : (ws : ℕ) → size_in 0 ws ≡ 0
unfolding size_in
size_none ws = refl

pub size_next : (count ws : ℕ) → size_in (suc count) ws ≡ ws % 16 + size_in count (ws / 16)
unfolding size_in
size_next count ws = refl

-- four numbers, one by one
pub four_numbers : (ws at : ℕ) (bs : List ℕ)
    → number_in (ws % 16) (drop at bs) ∷ number_in (ws / 16 % 16) (drop (at + ws % 16) bs) ∷ number_in (ws / 256 % 16) (drop (at + ws % 16 + ws / 16 % 16) bs) ∷ number_in (ws / 4096 % 16) (drop (at + ws % 16 + ws / 16 % 16 + ws / 256 % 16) bs) ∷ []
    ≡ numbers_in 4 ws (drop at bs)
four_numbers ws at bs =
    let second : ws / 16 / 16 ≡ ws / 256 = omega arith in
    let third : ws / 256 / 16 ≡ ws / 4096 = omega arith in
    sym (rw (
      numbers_next 3 ws (drop at bs),
      drop-drop (ws % 16) at bs,
      numbers_next 2 (ws / 16) (drop (at + ws % 16) bs),
      drop-drop (ws / 16 % 16) (at + ws % 16) bs,
      second,
      numbers_next 1 (ws / 256) (drop (at + ws % 16 + ws / 16 % 16) bs),
      drop-drop (ws / 256 % 16) (at + ws % 16 + ws / 16 % 16) bs,
      third,
      numbers_next 0 (ws / 4096) (drop (at + ws % 16 + ws / 16 % 16 + ws / 256 % 16) bs),
      numbers_none (ws / 4096 / 16) _,
    ) refl)

pub four_sizes : (ws : ℕ) → size_in 4 ws ≡ ws % 16 + ws / 16 % 16 + ws / 256 % 16 + ws / 4096 % 16
four_sizes ws = omega (arith, size_next 3 ws, size_next 2 (ws / 16), size_next 1 (ws / 16 / 16), size_next 0 (ws / 16 / 16 / 16), size_none (ws / 16 / 16 / 16 / 16))

-- four numbers, and those behind them
fours_next : (count ws : ℕ) (bs : List ℕ) → numbers_in (suc (suc (suc (suc count)))) ws bs ≡ numbers_in 4 ws bs ++ numbers_in count (ws / 65536) (drop (size_in 4 ws) bs)
fours_next count ws bs =
    let second : ws / 16 / 16 ≡ ws / 256 = omega arith in
    let third : ws / 256 / 16 ≡ ws / 4096 = omega arith in
    let fourth : ws / 4096 / 16 ≡ ws / 65536 = omega arith in
    rw (
      numbers_next (suc (suc (suc count))) ws bs,
      numbers_next 3 ws bs,
      numbers_next (suc (suc count)) (ws / 16) (drop (ws % 16) bs),
      numbers_next 2 (ws / 16) (drop (ws % 16) bs),
      drop-drop (ws / 16 % 16) (ws % 16) bs,
      second,
      numbers_next (suc count) (ws / 256) (drop (ws % 16 + ws / 16 % 16) bs),
      numbers_next 1 (ws / 256) (drop (ws % 16 + ws / 16 % 16) bs),
      drop-drop (ws / 256 % 16) (ws % 16 + ws / 16 % 16) bs,
      third,
      numbers_next count (ws / 4096) (drop (ws % 16 + ws / 16 % 16 + ws / 256 % 16) bs),
      numbers_next 0 (ws / 4096) (drop (ws % 16 + ws / 16 % 16 + ws / 256 % 16) bs),
      drop-drop (ws / 4096 % 16) (ws % 16 + ws / 16 % 16 + ws / 256 % 16) bs,
      fourth,
      numbers_none (ws / 65536) _,
      four_sizes ws,
    ) refl

sizes_next : (count ws : ℕ) → size_in (suc (suc (suc (suc count)))) ws ≡ size_in 4 ws + size_in count (ws / 65536)
sizes_next count ws =
    let e : ws / 16 / 16 / 16 / 16 ≡ ws / 65536 = omega arith in
    let last : size_in count (ws / 16 / 16 / 16 / 16) ≡ size_in count (ws / 65536) = ap (size_in count) e in
    omega (arith, size_next (suc (suc (suc count))) ws, size_next (suc (suc count)) (ws / 16), size_next (suc count) (ws / 16 / 16), size_next count (ws / 16 / 16 / 16), four_sizes ws, last)

abbrev pub four : List ℕ → List ℕ
four xs = get_or xs 0 0 ∷ get_or xs 1 0 ∷ get_or xs 2 0 ∷ get_or xs 3 0 ∷ []

four_items : (xs : List ℕ) → length xs ≡ 4 → four xs ≡ xs
four_items [] h = absurd (omega arith)
four_items (a ∷ []) h = absurd (omega arith)
four_items (a ∷ b ∷ []) h = absurd (omega arith)
four_items (a ∷ b ∷ c ∷ []) h = absurd (omega arith)
four_items (a ∷ b ∷ c ∷ d ∷ []) h = refl
four_items (a ∷ b ∷ c ∷ d ∷ e ∷ xs) h = absurd (omega arith)

four_read : (xs : List ℕ) (ws : ℕ) (bs : List ℕ) → xs ≡ numbers_in 4 ws bs → four xs ≡ numbers_in 4 ws bs
four_read xs ws bs is = rw is (four_items (numbers_in 4 ws bs) (length_of_numbers 4 ws bs))

-- sixteen numbers, by fours
pub row_of_fours : (ws : ℕ) (bs a b c d : List ℕ) (b_at c_at d_at : ℕ)
    → a ≡ numbers_in 4 ws (drop 8 bs) → b ≡ numbers_in 4 (ws / 65536) (drop b_at bs)
    → c ≡ numbers_in 4 (ws / 4294967296) (drop c_at bs) → d ≡ numbers_in 4 (ws / 281474976710656) (drop d_at bs)
    → b_at ≡ 8 + size_in 4 ws → c_at ≡ b_at + size_in 4 (ws / 65536) → d_at ≡ c_at + size_in 4 (ws / 4294967296)
    → four a ++ (four b ++ (four c ++ four d)) ≡ numbers_in 16 ws (drop 8 bs)
row_of_fours ws bs a b c d b_at c_at d_at a_is b_is c_is d_is b_on c_on d_on =
    let second : ws / 65536 / 65536 ≡ ws / 4294967296 = omega arith in
    let third : ws / 4294967296 / 65536 ≡ ws / 281474976710656 = omega arith in
    sym (rw (
      fours_next 12 ws (drop 8 bs),
      drop-drop (size_in 4 ws) 8 bs,
      ← b_on,
      fours_next 8 (ws / 65536) (drop b_at bs),
      drop-drop (size_in 4 (ws / 65536)) b_at bs,
      ← c_on,
      second,
      fours_next 4 (ws / 4294967296) (drop c_at bs),
      drop-drop (size_in 4 (ws / 4294967296)) c_at bs,
      ← d_on,
      third,
      ← four_read a ws (drop 8 bs) a_is,
      ← four_read b (ws / 65536) (drop b_at bs) b_is,
      ← four_read c (ws / 4294967296) (drop c_at bs) c_is,
      ← four_read d (ws / 281474976710656) (drop d_at bs) d_is,
    ) refl)

pub size_of_fours : (ws : ℕ) → size_in 16 ws ≡ size_in 4 ws + size_in 4 (ws / 65536) + size_in 4 (ws / 4294967296) + size_in 4 (ws / 281474976710656)
size_of_fours ws =
    let second : ws / 65536 / 65536 ≡ ws / 4294967296 = omega arith in
    let third : ws / 4294967296 / 65536 ≡ ws / 281474976710656 = omega arith in
    rw (sizes_next 12 ws, sizes_next 8 (ws / 65536), second, sizes_next 4 (ws / 4294967296), third) (omega arith)

pub front_of_row : (ws : ℕ) (bs : List ℕ) → numbers_in 4 ws bs ≡ take 4 (numbers_in 16 ws bs)
front_of_row ws bs = rw (fours_next 12 ws bs) (sym (take_at (numbers_in 4 ws bs) _ 4 (length_of_numbers 4 ws bs)))

-- bytes that are alike, those that are missing too, are one row
same_number : (wide : ℕ) (bs cs : List ℕ) → ((i : ℕ) → get_or bs i 0 ≡ get_or cs i 0) → number_in wide bs ≡ number_in wide cs
unfolding number_in
same_number wide bs cs h = rw (same_value 8 bs cs h) refl

same_left : (k : ℕ) (bs cs : List ℕ) → ((i : ℕ) → get_or bs i 0 ≡ get_or cs i 0) → (i : ℕ) → get_or (drop k bs) i 0 ≡ get_or (drop k cs) i 0
same_left k bs cs h i = get_or-drop k bs i 0 ∙ h (k + i) ∙ sym (get_or-drop k cs i 0)

same_numbers : (count ws : ℕ) (bs cs : List ℕ) → ((i : ℕ) → get_or bs i 0 ≡ get_or cs i 0) → numbers_in count ws bs ≡ numbers_in count ws cs
same_numbers zero ws bs cs h = rw (numbers_none ws bs, numbers_none ws cs) refl
same_numbers (suc count) ws bs cs h =
    rw (numbers_next count ws bs, numbers_next count ws cs, same_number (ws % 16) bs cs h, same_numbers count (ws / 16) (drop (ws % 16) bs) (drop (ws % 16) cs) (same_left (ws % 16) bs cs h)) refl

pub same_row : (bs cs : List ℕ) → ((i : ℕ) → get_or bs i 0 ≡ get_or cs i 0) → row_in bs ≡ row_in cs
unfolding row_in
same_row bs cs h = rw (same_value 8 bs cs h, same_numbers 16 (value 8 cs) (drop 8 bs) (drop 8 cs) (same_left 8 bs cs h)) refl

pub same_size : (bs cs : List ℕ) → ((i : ℕ) → get_or bs i 0 ≡ get_or cs i 0) → row_size bs ≡ row_size cs
unfolding row_size
same_size bs cs h = rw (same_value 8 bs cs h) refl

-- bytes with zeros behind them
pub zeros_behind : (bs zeros : List ℕ) → ((i : ℕ) → get_or zeros i 0 ≡ 0) → (i : ℕ) → get_or (bs ++ zeros) i 0 ≡ get_or bs i 0
zeros_behind bs zeros h i = ⊎_elim
    (λ (k : i < length bs). get_or_append_left bs zeros 0 i k)
    (λ (k : length bs ≤ i). get_or-append_right bs zeros i 0 k ∙ h (i - length bs) ∙ sym (get_or_past bs i 0 k))
    (cases_lt i (length bs))

pub zeros_left : (k i : ℕ) → get_or {A = ℕ} (drop k (replicate 256 0)) i 0 ≡ 0
zeros_left k i =
    let zeros : List ℕ = replicate 256 0 in
    get_or-drop k zeros i 0 ∙ ⊎_elim
    (λ (within : k + i < 256). get_or-replicate {A = ℕ} 256 (k + i) 0 0 within)
    (λ (past : 256 ≤ k + i). get_or_past zeros (k + i) 0 (omega (arith, length-replicate {A = ℕ} 256 0)))
    (cases_lt (k + i) 256)

-- of so few numbers
pub widths_low : (ns : List ℕ) → length ns ≤ 16 → widths ns < 2 ^ 64
widths_low ns h = widths_below 16 ns h
