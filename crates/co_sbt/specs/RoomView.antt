-- What contracts see of a list with room at its end.
use Rattle.std.specs.Prelude.{ℕ, List}

pub record RoomView (T : Type 0) : Type 0 where
  pub items : List T
  -- how many pushes take no memory
  pub spare : ℕ
