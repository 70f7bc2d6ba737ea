use Rattle.std.proofs.Common.{◌≡◌, ℕ, ◌<◌, length}
use Rattle.std.specs.Prelude.{slice_get}
use Rattle.std.specs.declared.option.Option.TheVariants.{Some}
use Rattle.co_service.specs.Booted.{AreLeft, booted}
use Rattle.co_service.proofs.joining.join_all.Given as goal

abbrev pub invariant-loop-actor : goal.invariant-loop-actor
invariant-loop-actor l =
    record {
      count : length l.all ≡ l.actor;
      each : (j : ℕ) → j < l.actor → slice_get l.all j ≡ Some (booted l.places l.params j);
      timers : AreLeft l.params l.places.timers l.actors l.actor l.timers.items;
      cpus : AreLeft l.params l.places.cpus l.actors l.actor l.cpus.items;
    }
