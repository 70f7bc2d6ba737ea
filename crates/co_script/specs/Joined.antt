use Rattle.std.specs.Prelude.{◌≡◌, Result, Ok, List, map}
use Rattle.std.specs.List.{flat_map}

-- no part found too little memory, and all items of the parts stand one behind the other
pub record AreJoined {T E : Type 0} (parts : List (Result (List T) E)) (all : List T) : Type 0 where
  pub lists : List (List T)
  pub none_refused : parts ≡ map Ok lists
  pub joined : all ≡ flat_map (λ list. list) lists
