use Rattle.std.proofs.Common.{ℕ, ◌<◌, List, length, Some, sym, subst}
use Rattle.std.specs.Prelude.{◌↔◌, IsTrue}
use Rattle.std.specs.List.{concat}
use Rattle.co_top.specs.declared.command.Command.TheVariants.{Serve}
use Rattle.co_top.specs.declared.status.Status.{Status}
use Rattle.co_top.specs.Headline.{GivesServed, Says, served_limit}
use Rattle.co_front.specs.Outside.{Outside, outside}
use Rattle.co_top.proofs.Commanded.{WasRead, served_said}
use Rattle.co_top.proofs.top.serve_and_answer.Goals as goal

pub returns-in-Ok-serve : goal.returns-in-Ok-serve
returns-in-Ok-serve g c =
    let before : Outside = outside (g.S.Source.left c.args.source.now) (g.S.Source.faults c.args.source.now) (g.K.Sink.held c.args.sink.now) (g.K.Sink.room c.args.sink.now) (g.K.Sink.faults c.args.sink.now) (g.K.Sink.idle c.args.sink.now) in
    let after : Outside = outside (g.S.Source.left c.read_all.new.source) (g.S.Source.faults c.read_all.new.source) (g.K.Sink.held c.write_answer.new.sink) (g.K.Sink.room c.write_answer.new.sink) (g.K.Sink.faults c.write_answer.new.sink) (g.K.Sink.idle c.write_answer.new.sink) in
    let has : WasRead before after (served_limit c.args.serving) c.in-Ok.input.bytes c.in-Ok.input.over =
    record { read = c.in-Ok.ensures.bytes; end = c.in-Ok.ensures.end; longer = subst (λ (limit : ℕ). IsTrue c.in-Ok.input.over ↔ (limit < length c.in-Ok.input.bytes)) c.served_limit.ensures c.in-Ok.ensures.over } in
    let given : GivesServed c.args.serving c.in-Ok.input.bytes c.in-Ok-serve.served.answer.status c.in-Ok-serve.served.closing (concat c.in-Ok-serve.served.answer.pieces) =
    subst (λ (bytes : List ℕ). GivesServed c.args.serving bytes c.in-Ok-serve.served.answer.status c.in-Ok-serve.served.closing (concat c.in-Ok-serve.served.answer.pieces)) c.as_slice.ensures c.in-Ok-serve.ensures in
    subst (λ (x : Status). Says before after (Some (Serve c.args.serving)) x c.finished.result.closing) (sym c.finished.ensures.status)
    (served_said before after c.args.serving c.in-Ok.input.bytes c.in-Ok.input.over has c.in-Ok-serve.served.answer.status c.write_answer.result c.in-Ok-serve.served.closing c.finished.result.closing (concat c.in-Ok-serve.served.answer.pieces) given c.write_answer.ensures c.finished.ensures.kept c.finished.ensures.lost)
