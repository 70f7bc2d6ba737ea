-- Each piece comes after those before it; after want of memory all are gone, the last one too.
use Rattle.std.proofs.Common.{Result, Ok, Err, OnErr, arith}
use Rattle.std.proofs.lemmas.Grind.{common_steps}
use Rattle.std.proofs.KnownBytes.{Consumes-trans}
use Rattle.co_io.proofs.read.read_all.Goals as goal

on_err : {X E P : Type 0} (r : Result X E) → P → OnErr r P
on_err (Ok x) p = tt
on_err (Err e) p = p

-- the piece that found no memory is lost too
pub returns-in_err-extend_from_slice-in-Ok-clause-err : goal.returns-in_err-extend_from_slice-in-Ok-clause-err
returns-in_err-extend_from_slice-in-Ok-clause-err g c =
    on_err c.from_residual.result (_, Consumes-trans _ _ _ _ _ c.loop-piece.invariant.consumed c.in-Ok.ensures.bytes.0)

pub loop-piece-preserved : goal.loop-piece-preserved
loop-piece-preserved g c = record {
  most = grind (arith, common_steps);
  consumed = grind (arith, common_steps);
  faults = omega arith;
}

pub loop-piece-smaller : goal.loop-piece-smaller
loop-piece-smaller g c = grind (arith, common_steps)
