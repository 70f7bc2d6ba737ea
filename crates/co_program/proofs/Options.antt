-- An option with a value.
use Rattle.std.proofs.Common.{◌≡◌, Some, None}

pub none-some : {X : Type 0} (x : X) → None ≡ Some x → ⊥
none-some x h = cc

pub some-is : {X : Type 0} {x y : X} → Some x ≡ Some y → x ≡ y
some-is h = cc
