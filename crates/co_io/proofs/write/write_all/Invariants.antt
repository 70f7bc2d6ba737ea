-- The front of the bytes that is gone from `rest` was appended.
use Rattle.std.proofs.Common.{◌≡◌, ◌≤◌, List, ℕ, ◌++◌, length}
use Rattle.std.specs.Io.KnownBytes.{Appends}
use Rattle.co_io.specs.Room.{Fills}
use Rattle.co_io.proofs.write.write_all.Given as goal

abbrev pub invariant-loop-rest : goal.invariant-loop-rest
invariant-loop-rest g l = record {
  done : List ℕ;
  split : l.bytes ≡ done ++ l.rest;
  appended : Appends (g.K.Sink.held l.initial.sink) (g.K.Sink.held l.sink) done;
  filled : Fills (g.K.Sink.room l.initial.sink) (g.K.Sink.room l.sink) (length done);
  faults : g.K.Sink.faults l.initial.sink ≤ g.K.Sink.faults l.sink;
  idle : g.K.Sink.idle l.initial.sink ≤ g.K.Sink.idle l.sink;
}

abbrev pub decreases-loop-rest : goal.decreases-loop-rest
decreases-loop-rest g l = length l.rest
