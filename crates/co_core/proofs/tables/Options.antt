-- An option with a value, and what is read of a list.
use Rattle.std.proofs.Common.{◌≡◌, ℕ, List, length, refl, sym, Option, Some, None}
use Rattle.std.specs.Prelude.{slice_get}
use Rattle.std.specs.Option.{option_copied}
use Rattle.std.specs.Slice.{IsItemAt}
use Rattle.std.proofs.lemmas.Option.{slice_get_past, slice_get_read}
use denote.Bor.{Bor}

pub some_is : {X : Type 0} (x y : X) → Some x ≡ Some y → x ≡ y
some_is x y h = cc

-- what a look at a number answers is the item there
pub item_read : {X : Type 0} (xs : List X) (i : ℕ) (r : Option (Bor X)) → IsItemAt xs i r → option_copied r ≡ slice_get xs i
item_read xs i None h = sym (slice_get_past xs i h.3)
item_read xs i (Some x) h = sym (slice_get_read xs (length xs) i x.now refl h.3.0 h.1)
