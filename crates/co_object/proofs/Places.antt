-- Places that the test calls the same are the same.
use Rattle.std.proofs.Common.{◌≡◌, true, ap}
use Rattle.co_object.specs.declared.note.Place.{Place}
use Rattle.co_object.specs.declared.note.Place.TheVariants as at
use Rattle.co_object.specs.Lists.{same_place}
use Rattle.co_object.proofs.Numbers.{same_number}

pub same_place-eq : (p q : Place) → same_place p q ≡ true → p ≡ q
same_place-eq (at.Timer i) (at.Timer j) h = ap at.Timer (same_number i j h)
same_place-eq (at.Cpu i) (at.Cpu j) h = ap at.Cpu (same_number i j h)
same_place-eq (at.Actor i) (at.Actor j) h = ap at.Actor (same_number i j h)
same_place-eq (at.Timer i) (at.Cpu j) h = cc
same_place-eq (at.Timer i) (at.Actor j) h = cc
same_place-eq (at.Cpu i) (at.Timer j) h = cc
same_place-eq (at.Cpu i) (at.Actor j) h = cc
same_place-eq (at.Actor i) (at.Timer j) h = cc
same_place-eq (at.Actor i) (at.Cpu j) h = cc
