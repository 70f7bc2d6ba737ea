-- A row that was written is read again, and so is what follows.
use Rattle.std.proofs.Common.{ℕ, zero, suc, ◌≡◌, ◌+◌, ◌/◌, ◌%◌, List, [], ◌∷◌, ◌++◌, length, drop, refl, sym, ap, ◌∙◌, append_assoc, length-append, arith}
use Rattle.std.proofs.lemmas.List.{drop_at}
use Rattle.std.specs.List.{flat_map, AllByRecursion}
use Rattle.co_packed.proofs.Again.{length_of_bytes, word_again, number_again, number_long}
use Rattle.co_packed.proofs.Limits.{few_bytes}
use Rattle.co_packed.proofs.Widths.{widths_some, widths_low, numbers_none, numbers_next, length_of_numbers, size_none, size_next}
use Rattle.co_packed.specs.Numbers.{width, bytes_of, value, number_in}
use Rattle.co_packed.specs.Rows.{widths, number_bytes, row_bytes, numbers_in, row_in, size_in, row_size, after_row, IsRow}
use Rattle.co_packed.specs.Typed.{IsLong}

first_again : (n : ℕ) (rest : List ℕ) → IsLong n → number_in (width n) (number_bytes n ++ rest) ≡ n
unfolding number_bytes
first_again n rest long = number_again n rest long

length_of_number : (n : ℕ) → length (number_bytes n) ≡ width n
unfolding number_bytes
length_of_number n = length_of_bytes (width n) n

behind_first : (n : ℕ) (rest : List ℕ) → drop (width n) (number_bytes n ++ rest) ≡ rest
behind_first n rest = drop_at (number_bytes n) rest (width n) (length_of_number n)

width_first : (n : ℕ) (ns : List ℕ) → widths (n ∷ ns) % 16 ≡ width n
width_first n ns = omega (arith, widths_some n ns, few_bytes n)

widths_behind : (n : ℕ) (ns : List ℕ) → widths (n ∷ ns) / 16 ≡ widths ns
widths_behind n ns = omega (arith, widths_some n ns, few_bytes n)

-- the numbers, by their widths
numbers_again : (ns rest : List ℕ) → AllByRecursion IsLong ns → numbers_in (length ns) (widths ns) (flat_map number_bytes ns ++ rest) ≡ ns
numbers_again [] rest h = numbers_none (widths []) rest
numbers_again (n ∷ ns) rest h =
    rw (append_assoc (number_bytes n) (flat_map number_bytes ns) rest)
    (numbers_next (length ns) (widths (n ∷ ns)) (number_bytes n ++ (flat_map number_bytes ns ++ rest))
    ∙ rw (width_first n ns, widths_behind n ns, first_again n (flat_map number_bytes ns ++ rest) h.0, behind_first n (flat_map number_bytes ns ++ rest), numbers_again ns rest h.1) refl)

size_again : (ns : List ℕ) → size_in (length ns) (widths ns) ≡ length (flat_map number_bytes ns)
size_again [] = size_none (widths [])
size_again (n ∷ ns) =
    size_next (length ns) (widths (n ∷ ns))
    ∙ rw (width_first n ns, widths_behind n ns, size_again ns, length-append (number_bytes n) (flat_map number_bytes ns), length_of_number n) refl

pub row_length : (ns : List ℕ) → length (row_bytes ns) ≡ 8 + length (flat_map number_bytes ns)
unfolding row_bytes
row_length ns = length-append (bytes_of 8 (widths ns)) (flat_map number_bytes ns) ∙ ap (λ (k : ℕ). k + length (flat_map number_bytes ns)) (length_of_bytes 8 (widths ns))

row_parts : (ns rest : List ℕ) → row_bytes ns ++ rest ≡ bytes_of 8 (widths ns) ++ (flat_map number_bytes ns ++ rest)
unfolding row_bytes
row_parts ns rest = append_assoc (bytes_of 8 (widths ns)) (flat_map number_bytes ns) rest

widths_again : (ns rest : List ℕ) → length ns ≡ 16 → value 8 (row_bytes ns ++ rest) ≡ widths ns
widths_again ns rest few = rw (row_parts ns rest) (word_again (widths ns) (flat_map number_bytes ns ++ rest) (widths_low ns (omega arith)))

numbers_behind : (ns rest : List ℕ) → drop 8 (row_bytes ns ++ rest) ≡ flat_map number_bytes ns ++ rest
numbers_behind ns rest = ap (drop 8) (row_parts ns rest) ∙ drop_at (bytes_of 8 (widths ns)) (flat_map number_bytes ns ++ rest) 8 (length_of_bytes 8 (widths ns))

-- a whole row
pub row_again : (ns rest : List ℕ) → IsRow ns → row_in (row_bytes ns ++ rest) ≡ ns
unfolding row_in
row_again ns rest h =
    let few : length ns ≡ 16 = h.0 in
    ap (λ (w : ℕ). numbers_in 16 w (drop 8 (row_bytes ns ++ rest))) (widths_again ns rest few)
    ∙ ap (numbers_in 16 (widths ns)) (numbers_behind ns rest)
    ∙ ap (λ (k : ℕ). numbers_in k (widths ns) (flat_map number_bytes ns ++ rest)) (sym few)
    ∙ numbers_again ns rest h.1

pub after_row_again : (ns rest : List ℕ) → length ns ≡ 16 → after_row (row_bytes ns ++ rest) ≡ rest
unfolding after_row row_size
after_row_again ns rest few =
    let sized : size_in 16 (widths ns) ≡ length (flat_map number_bytes ns) = ap (λ (k : ℕ). size_in k (widths ns)) (sym few) ∙ size_again ns in
    drop_at (row_bytes ns) rest (8 + size_in 16 (value 8 (row_bytes ns ++ rest))) (row_length ns ∙ ap (λ (k : ℕ). 8 + k) (sym sized ∙ ap (size_in 16) (sym (widths_again ns rest few))))

numbers_long : (count ws : ℕ) (bs : List ℕ) → AllByRecursion IsLong (numbers_in count ws bs)
numbers_long zero ws bs = rw (numbers_none ws bs) tt
numbers_long (suc count) ws bs = rw (numbers_next count ws bs) (number_long (ws % 16) bs, numbers_long count (ws / 16) (drop (ws % 16) bs))

-- what is read is a row
pub row_is_row : (bs : List ℕ) → IsRow (row_in bs)
unfolding row_in
row_is_row bs = (length_of_numbers 16 _ _, numbers_long 16 _ _)
