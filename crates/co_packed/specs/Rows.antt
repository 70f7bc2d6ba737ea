-- The bytes of a row of numbers, and the row that bytes begin with.
use Rattle.std.specs.Prelude.{ℕ, ◌≡◌, ◌<◌, ◌≤◌, zero, suc, ◌+◌, ◌*◌, ◌/◌, ◌%◌, List, [], ◌∷◌, ◌++◌, length, drop, take}
use Rattle.std.specs.List.{flat_map, AllByRecursion}
use Rattle.co_packed.specs.Typed.{IsLong}
use Rattle.co_packed.specs.Numbers.{width, bytes_of, value, number_in}

-- the widths of the numbers, four bits each, those of the first one lowest
unfoldable pub widths : List ℕ → ℕ
widths [] = 0
widths (n ∷ ns) = width n + 16 * widths ns

-- as many bytes as the number needs
unfoldable pub number_bytes : ℕ → List ℕ
number_bytes n = bytes_of (width n) n

-- the widths in eight bytes, and the numbers
unfoldable pub row_bytes : List ℕ → List ℕ
row_bytes ns = bytes_of 8 (widths ns) ++ flat_map number_bytes ns

-- as many numbers, by their widths
unfoldable pub numbers_in : ℕ → ℕ → List ℕ → List ℕ
numbers_in zero ws bs = []
numbers_in (suc count) ws bs = number_in (ws % 16) bs ∷ numbers_in count (ws / 16) (drop (ws % 16) bs)

-- the sixteen numbers that the bytes begin with
unfoldable pub row_in : List ℕ → List ℕ
row_in bs = numbers_in 16 (value 8 bs) (drop 8 bs)

-- the sum of as many widths
unfoldable pub size_in : ℕ → ℕ → ℕ
size_in zero ws = 0
size_in (suc count) ws = ws % 16 + size_in count (ws / 16)

-- how many bytes the row has that the bytes begin with
unfoldable pub row_size : List ℕ → ℕ
row_size bs = 8 + size_in 16 (value 8 bs)

-- the bytes after it
unfoldable pub after_row : List ℕ → List ℕ
after_row bs = drop (row_size bs) bs

-- a row has sixteen numbers, each of 64 bits
abbrev pub IsRow : List ℕ → Type 0
IsRow ns = (length ns ≡ 16) × AllByRecursion IsLong ns

-- The four numbers from `from` on have been put at `at`, behind those before them. Their widths are `low`, and they reach up to `end`.
pub record FourPut (ns : List ℕ) (from at : ℕ) (before after : List ℕ) (low end : ℕ) : Type 0 where
  pub widths : widths (drop from ns) ≡ low + 65536 * widths (drop (from + 4) ns)
  pub few : low < 65536
  pub written : (front : List ℕ) → take at before ≡ front ++ flat_map number_bytes (take from ns) → take end after ≡ front ++ flat_map number_bytes (take (from + 4) ns)
  pub behind : at ≤ end
  pub bounded : end ≤ at + 32
