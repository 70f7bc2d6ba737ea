use Rattle.co_service.specs.Booted.{ArePlaces}
use Rattle.co_service.proofs.boot.make_places.Given as goal

abbrev pub invariant-loop-place : goal.invariant-loop-place
invariant-loop-place g l = ArePlaces l.params l.place l.actors l.made.lives l.made.keepers.items l.made.seats.items
