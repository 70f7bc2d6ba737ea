use Rattle.std.proofs.Common.{ℕ, ◌<◌, length, subst}
use Rattle.std.specs.Prelude.{◌↔◌, IsTrue}
use Rattle.std.specs.List.{concat}
use Rattle.co_front.specs.Outside.{outside}
use Rattle.co_top.proofs.Commanded.{said}
use Rattle.co_top.proofs.top.read_and_answer.Goals as goal

pub returns-in-Ok-answer_to : goal.returns-in-Ok-answer_to
returns-in-Ok-answer_to g c =
    said
    (outside (g.S.Source.left c.args.source.now) (g.S.Source.faults c.args.source.now) (g.K.Sink.held c.args.sink.now) (g.K.Sink.room c.args.sink.now) (g.K.Sink.faults c.args.sink.now) (g.K.Sink.idle c.args.sink.now))
    (outside (g.S.Source.left c.read_all.new.source) (g.S.Source.faults c.read_all.new.source) (g.K.Sink.held c.write_answer.new.sink) (g.K.Sink.room c.write_answer.new.sink) (g.K.Sink.faults c.write_answer.new.sink) (g.K.Sink.idle c.write_answer.new.sink))
    c.in-Ok.input.bytes c.args.reading c.in-Ok.input.over c.in-Ok-answer_to.answer.status c.write_answer.result (concat c.in-Ok-answer_to.answer.pieces)
    (record { read = c.in-Ok.ensures.bytes; end = c.in-Ok.ensures.end; longer = subst (λ (limit : ℕ). IsTrue c.in-Ok.input.over ↔ (limit < length c.in-Ok.input.bytes)) c.limit_of.ensures c.in-Ok.ensures.over })
    c.in-Ok-answer_to.ensures
    c.write_answer.ensures
