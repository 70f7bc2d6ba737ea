use Rattle.std.proofs.Common.{◌≡◌, ℕ, ◌++◌, length}
use Rattle.std.specs.Prelude.{slice_get}
use Rattle.std.specs.declared.option.Option.TheVariants.{Some}
use Rattle.std.specs.Vec.Iter.{into_iter_items, into_iter_len}
use Rattle.co_service.specs.declared.desk_parts.DeskParts.{DeskParts}
use Rattle.co_service.specs.Booted.{AreFirstKeepers, IsDeskParts}
use Rattle.co_service.proofs.desk_parts.make_all_parts.Given as goal

abbrev pub invariant-loop-journal : goal.invariant-loop-journal
invariant-loop-journal l =
    record {
      yields : l.yielded ++ into_iter_items l.journal-iterator ≡ into_iter_items l.initial.journal-iterator;
      left : length (into_iter_items l.journal-iterator) ≡ into_iter_len l.journal-iterator;
      at : l.cpu ≡ length l.yielded;
      here : AreFirstKeepers l.places.timers l.params l.cpu l.here.items;
      count : length l.all_parts.items ≡ l.cpu;
      each : (k : ℕ) (b : DeskParts) → slice_get l.all_parts.items k ≡ Some b → IsDeskParts l.places l.params k b.wheel b.keepers.items b.journal;
    }
