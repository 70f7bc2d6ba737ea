use Rattle.std.proofs.Common.{◌≡◌, ◌++◌, length, map}
use Rattle.std.specs.Vec.Iter.{into_iter_items, into_iter_len}
use Rattle.std.specs.declared.option.Option.TheVariants.{Some}
use Rattle.co_timers.proofs.posts.seated.Given as goal

abbrev pub invariant-loop-one : goal.invariant-loop-one
invariant-loop-one l =
    record {
      yields : l.yielded ++ into_iter_items l.one-iterator ≡ into_iter_items l.initial.one-iterator;
      left : length (into_iter_items l.one-iterator) ≡ into_iter_len l.one-iterator;
      here : l.seats ≡ map Some l.yielded;
    }
