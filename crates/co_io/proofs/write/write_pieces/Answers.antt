-- One more piece comes after those that are written.
use Rattle.std.proofs.Common.{rules, ◌≡◌, ◌∙◌, sym, subst, arith, length, Result, Ok, Err, OnErr}
use Rattle.co_io.proofs.Turns.{concat_more, filled_by, front_more, too_small}
use Rattle.std.proofs.KnownBytes.{Appends-trans}
use Rattle.std.specs.Io.KnownBytes.{Appends}
use Rattle.co_io.specs.Room.{Fills, IsTooSmallFor}
use Rattle.co_io.specs.declared.write.WriteEnd.TheVariants.{Stalled}
use Rattle.co_io.specs.Writing.{AppendsFront}
use Rattle.co_io.proofs.write.write_pieces.Goals as goal

on_err : {A E : Type 0} {X : Type 0} (r : Result A E) → X → OnErr r X
on_err (Ok x) is = tt
on_err (Err e) is = is

pub returns-in_err-write_all-clause-err : goal.returns-in_err-write_all-clause-err
returns-in_err-write_all-clause-err g c =
    let front = subst (AppendsFront (g.K.Sink.held c.loop-piece.sink) (g.K.Sink.held c.write_all.new.sink)) (c.as_slice.ensures ∙ c.piece-item.is) c.in_err-write_all.ensures.err in
    on_err c.from_residual.result (front_more _ _ _ c.args.pieces.now c.loop-piece.piece-index _ c.loop-piece-test.true c.loop-piece.invariant.appended front)

pub returns-in_err-write_all-clause-full : goal.returns-in_err-write_all-clause-full
returns-in_err-write_all-clause-full g c is =
    let stalled : c.write_all.result ≡ Err Stalled = search rules in
    let small = subst (λ bytes. IsTooSmallFor (length bytes) (g.K.Sink.room c.loop-piece.sink)) (c.as_slice.ensures ∙ c.piece-item.is) (c.write_all.ensures.full stalled) in
    too_small _ _ c.args.pieces.now c.loop-piece.piece-index _ c.loop-piece-test.true c.loop-piece.invariant.filled small

pub loop-piece-preserved : goal.loop-piece-preserved
loop-piece-preserved g c =
    let i = c.loop-piece.invariant in
    let at = c.loop-piece.piece-index in
    let item = c.as_slice.ensures ∙ c.piece-item.is in
    let taken = c.in_ok-write_all.ensures in record {
      appended = subst (Appends (g.K.Sink.held c.args.sink.now) (g.K.Sink.held c.write_all.new.sink)) (sym (concat_more c.args.pieces.now at _ c.loop-piece-test.true))
          (Appends-trans _ _ _ _ _ i.appended (subst (Appends (g.K.Sink.held c.loop-piece.sink) (g.K.Sink.held c.write_all.new.sink)) item taken.ok));
      filled = filled_by _ _ _ c.args.pieces.now at _ c.loop-piece-test.true i.filled (subst (λ bytes. Fills (g.K.Sink.room c.loop-piece.sink) (g.K.Sink.room c.write_all.new.sink) (length bytes)) item taken.room);
      faults = omega (arith, taken.faults);
      idle = omega (arith, taken.idle);
    }
