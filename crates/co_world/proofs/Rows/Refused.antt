-- Lists of notes that don't follow, next to those of the row in transit.
use Rattle.std.proofs.Common.{List, [], ◌∷◌, ◌++◌}
use Rattle.co_object.specs.declared.Note.{Note}
use Rattle.co_program.specs.Follows.{Follows}
use Rattle.co_world.proofs.Rows.InTransit.{script, histories, list0}

abbrev last : List Note → List Note
last [] = []
last (note ∷ []) = note ∷ []
last (note ∷ other ∷ notes) = other ∷ []

abbrev first : List Note → List Note
first [] = []
first (note ∷ notes) = note ∷ []

-- the landing is missing
pub landing_missing : Follows script histories 0 (first list0) → ⊥
landing_missing h = let over = h.whole in cc

-- the landing comes twice
pub landing_twice : Follows script histories 0 (list0 ++ last list0) → ⊥
landing_twice h = h.each.1.1.0.fits

-- the notes of another actor
pub of_another : Follows script histories 1 list0 → ⊥
of_another h = let other = h.each.0.fits.1 in cc
