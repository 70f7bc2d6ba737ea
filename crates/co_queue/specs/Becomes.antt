-- A list that changes and takes no memory.
use Rattle.std.specs.Prelude.{◌≡◌, List, Vec, vec_capacity}

-- the list is now these items, in the room that it had
pub record Becomes {X Z : Type 0} (old new : Vec X Z) (xs : List X) : Type 0 where
  pub items : new.items ≡ xs
  pub room : vec_capacity new ≡ vec_capacity old
