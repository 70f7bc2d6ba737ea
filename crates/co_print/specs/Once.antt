-- That lists are well formed has one proof at most, so that a struct can keep it.
use Rattle.std.specs.Prelude.{ℕ, List, [], ◌∷◌}
use Rattle.std.specs.Coded.{×_prop, Unit-prop, le_prop}
use Rattle.std.proofs.Props.{props}
use Rattle.co_object.specs.declared.Note.{Note}
use Rattle.co_object.specs.Lists.{IsRising, IsWellFormed}

IsRising-prop : (ns : List ℕ) → IsProp (IsRising ns)
IsRising-prop [] = Unit-prop
IsRising-prop (n ∷ []) = Unit-prop
IsRising-prop (m ∷ n ∷ ns) = ×_prop le_prop (IsRising-prop (n ∷ ns))

pub IsWellFormed-prop : (lists : List (List Note)) → IsProp (IsWellFormed lists)
IsWellFormed-prop lists = hlevel (props, IsRising-prop)
