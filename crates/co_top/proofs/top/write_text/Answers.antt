use Rattle.co_front.specs.Outside.{Output}
use Rattle.co_top.proofs.Writing.{tells}
use Rattle.co_top.proofs.top.write_text.Goals as goal

pub returns : goal.returns
returns g c =
    let before : Output = record { held = g.K.Sink.held c.args.sink.now; room = g.K.Sink.room c.args.sink.now; faults = g.K.Sink.faults c.args.sink.now; idle = g.K.Sink.idle c.args.sink.now } in
    let after : Output = record { held = g.K.Sink.held c.write_all.new.sink; room = g.K.Sink.room c.write_all.new.sink; faults = g.K.Sink.faults c.write_all.new.sink; idle = g.K.Sink.idle c.write_all.new.sink } in
    let e = c.write_all.ensures in
    tells c.args.status c.told.result c.args.text.now before after c.write_all.result c.told.ensures e.ok e.err e.fault e.stalled e.full
