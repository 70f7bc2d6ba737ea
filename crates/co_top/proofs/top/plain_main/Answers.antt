use Rattle.std.proofs.Common.{map, string_bytes, Option, None, refl, subst}
use Rattle.co_top.specs.declared.command.Command.{Command}
use Rattle.co_top.specs.declared.command.Command.TheVariants.{Read, Make}
use Rattle.co_top.specs.Commands.{command_of}
use Rattle.co_top.specs.Headline.{Says}
use Rattle.co_front.specs.Outside.{Outside, outside}
use Rattle.co_top.proofs.Commanded.{unknown, of_words}
use Rattle.co_top.proofs.Completeness.{complete}
use Rattle.co_top.proofs.top.plain_main.Goals as goal

pub returns-in-None-clause-headline : goal.returns-in-None-clause-headline
returns-in-None-clause-headline g c =
    let before : Outside = (outside (g.S.Source.left c.args.source.now) (g.S.Source.faults c.args.source.now) (g.K.Sink.held c.args.sink.now) (g.K.Sink.room c.args.sink.now) (g.K.Sink.faults c.args.sink.now) (g.K.Sink.idle c.args.sink.now)) in
    let after : Outside = outside (g.S.Source.left c.args.source.now) (g.S.Source.faults c.args.source.now) (g.K.Sink.held c.write_text.new.sink) (g.K.Sink.room c.write_text.new.sink) (g.K.Sink.faults c.write_text.new.sink) (g.K.Sink.idle c.write_text.new.sink) in
    subst (λ (command : Option Command). Says before after command c.write_text.result None) c.in-None.ensures (unknown before after c.write_text.result c.usage_text.result.now refl c.usage_text.ensures c.write_text.ensures)

pub returns-in-Some-Read-clause-headline : goal.returns-in-Some-Read-clause-headline
returns-in-Some-Read-clause-headline g c = of_words (outside (g.S.Source.left c.args.source.now) (g.S.Source.faults c.args.source.now) (g.K.Sink.held c.args.sink.now) (g.K.Sink.room c.args.sink.now) (g.K.Sink.faults c.args.sink.now) (g.K.Sink.idle c.args.sink.now)) (outside (g.S.Source.left c.read_and_answer.new.source) (g.S.Source.faults c.read_and_answer.new.source) (g.K.Sink.held c.read_and_answer.new.sink) (g.K.Sink.room c.read_and_answer.new.sink) (g.K.Sink.faults c.read_and_answer.new.sink) (g.K.Sink.idle c.read_and_answer.new.sink)) (command_of (map string_bytes c.args.words.now)) c.in-Some-Read.field-0 (Read c.in-Some-Read.reading) c.read_and_answer.result c.in-Some-Read.ensures c.in-Some-Read.field-0-is c.read_and_answer.ensures

pub returns-in-Some-Read-clause-complete : goal.returns-in-Some-Read-clause-complete
returns-in-Some-Read-clause-complete g c = complete (map string_bytes c.args.words.now) (outside (g.S.Source.left c.args.source.now) (g.S.Source.faults c.args.source.now) (g.K.Sink.held c.args.sink.now) (g.K.Sink.room c.args.sink.now) (g.K.Sink.faults c.args.sink.now) (g.K.Sink.idle c.args.sink.now)) (outside (g.S.Source.left c.read_and_answer.new.source) (g.S.Source.faults c.read_and_answer.new.source) (g.K.Sink.held c.read_and_answer.new.sink) (g.K.Sink.room c.read_and_answer.new.sink) (g.K.Sink.faults c.read_and_answer.new.sink) (g.K.Sink.idle c.read_and_answer.new.sink)) c.read_and_answer.result
    (of_words (outside (g.S.Source.left c.args.source.now) (g.S.Source.faults c.args.source.now) (g.K.Sink.held c.args.sink.now) (g.K.Sink.room c.args.sink.now) (g.K.Sink.faults c.args.sink.now) (g.K.Sink.idle c.args.sink.now)) (outside (g.S.Source.left c.read_and_answer.new.source) (g.S.Source.faults c.read_and_answer.new.source) (g.K.Sink.held c.read_and_answer.new.sink) (g.K.Sink.room c.read_and_answer.new.sink) (g.K.Sink.faults c.read_and_answer.new.sink) (g.K.Sink.idle c.read_and_answer.new.sink)) (command_of (map string_bytes c.args.words.now)) c.in-Some-Read.field-0 (Read c.in-Some-Read.reading) c.read_and_answer.result c.in-Some-Read.ensures c.in-Some-Read.field-0-is c.read_and_answer.ensures)

pub returns-in-Some-Make-clause-headline : goal.returns-in-Some-Make-clause-headline
returns-in-Some-Make-clause-headline g c = of_words (outside (g.S.Source.left c.args.source.now) (g.S.Source.faults c.args.source.now) (g.K.Sink.held c.args.sink.now) (g.K.Sink.room c.args.sink.now) (g.K.Sink.faults c.args.sink.now) (g.K.Sink.idle c.args.sink.now)) (outside (g.S.Source.left c.args.source.now) (g.S.Source.faults c.args.source.now) (g.K.Sink.held c.make.new.sink) (g.K.Sink.room c.make.new.sink) (g.K.Sink.faults c.make.new.sink) (g.K.Sink.idle c.make.new.sink)) (command_of (map string_bytes c.args.words.now)) c.in-Some-Make.field-0 (Make c.in-Some-Make.making) c.make.result c.in-Some-Make.ensures c.in-Some-Make.field-0-is
    (c.make.ensures (g.S.Source.left c.args.source.now) (g.S.Source.faults c.args.source.now))

pub returns-in-Some-Make-clause-complete : goal.returns-in-Some-Make-clause-complete
returns-in-Some-Make-clause-complete g c = complete (map string_bytes c.args.words.now) (outside (g.S.Source.left c.args.source.now) (g.S.Source.faults c.args.source.now) (g.K.Sink.held c.args.sink.now) (g.K.Sink.room c.args.sink.now) (g.K.Sink.faults c.args.sink.now) (g.K.Sink.idle c.args.sink.now)) (outside (g.S.Source.left c.args.source.now) (g.S.Source.faults c.args.source.now) (g.K.Sink.held c.make.new.sink) (g.K.Sink.room c.make.new.sink) (g.K.Sink.faults c.make.new.sink) (g.K.Sink.idle c.make.new.sink)) c.make.result
    (of_words (outside (g.S.Source.left c.args.source.now) (g.S.Source.faults c.args.source.now) (g.K.Sink.held c.args.sink.now) (g.K.Sink.room c.args.sink.now) (g.K.Sink.faults c.args.sink.now) (g.K.Sink.idle c.args.sink.now)) (outside (g.S.Source.left c.args.source.now) (g.S.Source.faults c.args.source.now) (g.K.Sink.held c.make.new.sink) (g.K.Sink.room c.make.new.sink) (g.K.Sink.faults c.make.new.sink) (g.K.Sink.idle c.make.new.sink)) (command_of (map string_bytes c.args.words.now)) c.in-Some-Make.field-0 (Make c.in-Some-Make.making) c.make.result c.in-Some-Make.ensures c.in-Some-Make.field-0-is
    (c.make.ensures (g.S.Source.left c.args.source.now) (g.S.Source.faults c.args.source.now)))
