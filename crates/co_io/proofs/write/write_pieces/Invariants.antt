-- The pieces before the index were written.
use Rattle.std.proofs.Common.{length, take, ◌≤◌}
use Rattle.std.specs.List.{concat}
use Rattle.std.specs.Io.KnownBytes.{Appends}
use Rattle.co_io.specs.Room.{Fills}
use Rattle.co_io.proofs.write.write_pieces.Given as goal

abbrev pub invariant-loop-piece : goal.invariant-loop-piece
invariant-loop-piece g l = record {
  appended : Appends (g.K.Sink.held l.initial.sink) (g.K.Sink.held l.sink) (concat (take l.piece-index l.pieces));
  filled : Fills (g.K.Sink.room l.initial.sink) (g.K.Sink.room l.sink) (length (concat (take l.piece-index l.pieces)));
  faults : g.K.Sink.faults l.initial.sink ≤ g.K.Sink.faults l.sink;
  idle : g.K.Sink.idle l.initial.sink ≤ g.K.Sink.idle l.sink;
}
