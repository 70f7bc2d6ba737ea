use Rattle.std.proofs.Common.{refl, sym, subst}
use Rattle.co_top.specs.Headline.{IsMadeOf}
use Rattle.co_front.specs.Outside.{outside}
use Rattle.co_top.proofs.Commanded.{made}
use Rattle.co_top.proofs.top.make.Goals as goal

pub returns-in-Ok : goal.returns-in-Ok
returns-in-Ok g c = λ left faults. made
    (outside left faults (g.K.Sink.held c.args.sink.now) (g.K.Sink.room c.args.sink.now) (g.K.Sink.faults c.args.sink.now) (g.K.Sink.idle c.args.sink.now))
    (outside left faults (g.K.Sink.held c.write_text.new.sink) (g.K.Sink.room c.write_text.new.sink) (g.K.Sink.faults c.write_text.new.sink) (g.K.Sink.idle c.write_text.new.sink))
    c.args.making c.write_text.result c.as_slice.result.now refl
    (subst (IsMadeOf c.args.making) (sym c.as_slice.ensures) c.in-Ok.ensures)
    c.write_text.ensures
