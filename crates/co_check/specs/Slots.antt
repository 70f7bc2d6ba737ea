-- How the code keeps in one number which line has a note.
use Rattle.std.specs.Prelude.{◌≡◌, ℕ, zero, suc, Option, Some, None, refl}

-- the line below this number, if one is
abbrev pub slot_in : ℕ → Option ℕ
slot_in zero = None
slot_in (suc line) = Some line

abbrev pub above_of : Option ℕ → ℕ
above_of None = zero
above_of (Some line) = suc line

-- the number is that of its line
pub slot_back : (above : ℕ) → above_of (slot_in above) ≡ above
slot_back zero = refl
slot_back (suc line) = refl
