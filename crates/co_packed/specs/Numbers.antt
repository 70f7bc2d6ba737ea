-- The bytes of a number, and the number that bytes begin with.
use Rattle.std.specs.Prelude.{ℕ, zero, suc, ◌+◌, ◌-◌, ◌*◌, ◌/◌, ◌%◌, ◌^◌, List, [], ◌∷◌, get_or, drop, min}
use Rattle.std.specs.Int.{w64, leading_zeros}

-- how many bytes a number needs: its bits, in whole bytes
unfoldable pub width : ℕ → ℕ
width n = (64 - leading_zeros w64 n + 7) / 8

-- its lowest bytes, so many of them, the lowest first
unfoldable pub bytes_of : ℕ → ℕ → List ℕ
bytes_of zero n = []
bytes_of (suc more) n = n % 256 ∷ bytes_of more (n / 256)

-- the number that so many bytes are. Bytes that are missing count as 0
unfoldable pub value : ℕ → List ℕ → ℕ
value zero bs = 0
value (suc more) bs = get_or bs 0 0 + 256 * value more (drop 1 bs)

-- the number of this width that the bytes begin with. Of more than eight bytes the first eight count
unfoldable pub number_in : ℕ → List ℕ → ℕ
number_in wide bs = value 8 bs % 256 ^ min wide 8
