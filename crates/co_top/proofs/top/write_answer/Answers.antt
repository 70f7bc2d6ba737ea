use Rattle.std.proofs.Common.{ℕ, List, subst}
use Rattle.std.specs.List.{concat}
use Rattle.co_front.specs.Outside.{Output, Tells}
use Rattle.co_top.specs.declared.status.Status.TheVariants.{WriteFault}
use Rattle.co_top.proofs.Writing.{tells}
use Rattle.co_top.proofs.top.write_answer.Goals as goal

pub returns : goal.returns
returns g c =
    let before : Output = record { held = g.K.Sink.held c.args.sink.now; room = g.K.Sink.room c.args.sink.now; faults = g.K.Sink.faults c.args.sink.now; idle = g.K.Sink.idle c.args.sink.now } in
    let after : Output = record { held = g.K.Sink.held c.write_pieces.new.sink; room = g.K.Sink.room c.write_pieces.new.sink; faults = g.K.Sink.faults c.write_pieces.new.sink; idle = g.K.Sink.idle c.write_pieces.new.sink } in
    let e = c.write_pieces.ensures in
    let told = tells c.args.answer.now.status c.told.result (concat c.as_slice.result.now) before after c.write_pieces.result c.told.ensures e.ok e.err e.fault e.stalled e.full in
    subst (λ (pieces : List (List ℕ)). Tells WriteFault c.args.answer.now.status (concat pieces) before after c.told.result) c.as_slice.ensures told
