use Rattle.std.proofs.Common.{◌≡◌, ◌++◌, [], ◌∷◌, length, vec_len}
use Rattle.std.specs.Vec.Iter.{into_iter_items, into_iter_len}
use Rattle.co_service.specs.Booted.{IsOpened, AreSeated}
use Rattle.co_service.proofs.boot.add_place.Given as goal

abbrev pub invariant-loop-pass : goal.invariant-loop-pass
invariant-loop-pass g l =
    record {
      yields : l.yielded ++ into_iter_items l.pass-iterator ≡ into_iter_items l.initial.pass-iterator;
      left : length (into_iter_items l.pass-iterator) ≡ into_iter_len l.pass-iterator;
      at : l.actor ≡ length l.yielded;
      keeper : l.keeper ≡ record l.initial.keeper { history = l.keeper.history };
      opened : IsOpened l.params l.place l.actor l.keeper.history;
      seats : AreSeated l.params l.lives (l.life ∷ []) (vec_len l.initial.seats) l.actor l.seats.items;
    }
