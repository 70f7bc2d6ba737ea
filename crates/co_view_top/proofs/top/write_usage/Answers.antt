use Rattle.std.proofs.Common.{ℕ, List, subst}
use Rattle.co_view_top.specs.declared.status.Status.TheVariants.{Usage, WriteFault}
use Rattle.co_front.specs.Outside.{Output, Tells}
use Rattle.co_view_top.proofs.Writing.{tells}
use Rattle.co_view_top.proofs.top.write_usage.Goals as goal

pub returns : goal.returns
returns g c =
    let before : Output = record { held = g.K.Sink.held c.args.sink.now; room = g.K.Sink.room c.args.sink.now; faults = g.K.Sink.faults c.args.sink.now; idle = g.K.Sink.idle c.args.sink.now } in
    let after : Output = record { held = g.K.Sink.held c.write_all.new.sink; room = g.K.Sink.room c.write_all.new.sink; faults = g.K.Sink.faults c.write_all.new.sink; idle = g.K.Sink.idle c.write_all.new.sink } in
    let e = c.write_all.ensures in
    let told = tells Usage c.told.result c.usage_text.result.now before after c.write_all.result c.told.ensures e.ok e.err e.fault e.stalled e.full in
    subst (λ (text : List ℕ). Tells WriteFault Usage text before after c.told.result) c.usage_text.ensures told
