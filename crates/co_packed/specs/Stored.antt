-- Rows of numbers one behind another as bytes, and where some of them start.
use Rattle.std.specs.Prelude.{ℕ, zero, suc, ◌≡◌, ◌*◌, ◌/◌, ◌%◌, ◌<◌, ◌≤◌, List, [], ◌∷◌, ◌++◌, length, get_or, take, drop, nat_lt, if◌then◌else◌}
use Rattle.std.specs.List.{flat_map}
use Rattle.co_packed.specs.Rows.{row_bytes, row_in, after_row}

-- as many rows, which the bytes begin with
unfoldable pub rows_in : ℕ → List ℕ → List (List ℕ)
rows_in zero bs = []
rows_in (suc count) bs = row_in bs ∷ rows_in count (after_row bs)

-- the bytes after them
unfoldable pub after_rows : ℕ → List ℕ → List ℕ
after_rows zero bs = bs
after_rows (suc count) bs = after_rows count (after_row bs)

-- where the rows 0, 2, 4 .. start, and the row that comes next
unfoldable pub marked : List ℕ → ℕ → ℕ → List ℕ
marked starts count end = if nat_lt (count / 2) (length starts) then starts else starts ++ end ∷ []

-- where the row starts that is the last one at or before this whose start is known
abbrev pub start_of : List ℕ → ℕ → ℕ
start_of starts at = get_or starts (at / 2) 0

-- the bytes from the row at a place on
abbrev pub rest_at : List ℕ → List ℕ → ℕ → List ℕ
rest_at bytes starts at = after_rows (at % 2) (drop (start_of starts at) bytes)

-- the bytes are those of so many rows, and each second start is known
pub record IsStored (bytes starts : List ℕ) (count : ℕ) : Type 0 where
  pub whole : bytes ≡ flat_map row_bytes (rows_in count bytes)
  pub places : (k : ℕ) → k < length starts → get_or starts k 0 ≡ length (flat_map row_bytes (take (2 * k) (rows_in count bytes)))
  pub few : (k : ℕ) → k < length starts → 2 * k ≤ count
  pub enough : count ≤ 2 * length starts
