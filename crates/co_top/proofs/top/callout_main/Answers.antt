use Rattle.std.proofs.Common.{map, string_bytes}
use Rattle.co_top.specs.Commands.{command_of}
use Rattle.co_front.specs.Outside.{outside}
use Rattle.co_top.proofs.Commanded.{served_words}
use Rattle.co_top.proofs.Completeness.{served_complete}
use Rattle.co_top.proofs.top.callout_main.Goals as goal

pub returns-in-Some-clause-headline : goal.returns-in-Some-clause-headline
returns-in-Some-clause-headline g c =
    served_words (outside (g.S.Source.left c.args.source.now) (g.S.Source.faults c.args.source.now) (g.K.Sink.held c.args.sink.now) (g.K.Sink.room c.args.sink.now) (g.K.Sink.faults c.args.sink.now) (g.K.Sink.idle c.args.sink.now)) (outside (g.S.Source.left c.serve_and_answer.new.source) (g.S.Source.faults c.serve_and_answer.new.source) (g.K.Sink.held c.serve_and_answer.new.sink) (g.K.Sink.room c.serve_and_answer.new.sink) (g.K.Sink.faults c.serve_and_answer.new.sink) (g.K.Sink.idle c.serve_and_answer.new.sink)) (command_of (map string_bytes c.args.words.now)) c.in-Some.serving c.serve_and_answer.result.status c.serve_and_answer.result.closing c.in-Some.ensures.some c.serve_and_answer.ensures

pub returns-in-Some-clause-complete : goal.returns-in-Some-clause-complete
returns-in-Some-clause-complete g c =
    served_complete (map string_bytes c.args.words.now) (outside (g.S.Source.left c.args.source.now) (g.S.Source.faults c.args.source.now) (g.K.Sink.held c.args.sink.now) (g.K.Sink.room c.args.sink.now) (g.K.Sink.faults c.args.sink.now) (g.K.Sink.idle c.args.sink.now)) (outside (g.S.Source.left c.serve_and_answer.new.source) (g.S.Source.faults c.serve_and_answer.new.source) (g.K.Sink.held c.serve_and_answer.new.sink) (g.K.Sink.room c.serve_and_answer.new.sink) (g.K.Sink.faults c.serve_and_answer.new.sink) (g.K.Sink.idle c.serve_and_answer.new.sink)) c.in-Some.serving c.serve_and_answer.result.status c.serve_and_answer.result.closing c.in-Some.ensures.some c.serve_and_answer.ensures

pub returns-in-None-clause-headline : goal.returns-in-None-clause-headline
returns-in-None-clause-headline g c = rw c.without_closing.ensures c.plain_main.ensures.headline

pub returns-in-None-clause-complete : goal.returns-in-None-clause-complete
returns-in-None-clause-complete g c = rw c.without_closing.ensures c.plain_main.ensures.complete
