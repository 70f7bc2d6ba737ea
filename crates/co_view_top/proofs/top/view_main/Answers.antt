use Rattle.std.proofs.Common.{map, string_bytes, refl}
use Rattle.co_view_top.specs.Views.{view_of}
use Rattle.co_front.specs.Outside.{Outside, outside}
use Rattle.co_view_top.proofs.Said.{no_words, of_words, unknown}
use Rattle.co_view_top.proofs.top.view_main.Goals as goal

pub returns-in-Some : goal.returns-in-Some
returns-in-Some g c = of_words
    (outside (g.S.Source.left c.args.source.now) (g.S.Source.faults c.args.source.now) (g.K.Sink.held c.args.sink.now) (g.K.Sink.room c.args.sink.now) (g.K.Sink.faults c.args.sink.now) (g.K.Sink.idle c.args.sink.now))
    (outside (g.S.Source.left c.read_and_show.new.source) (g.S.Source.faults c.read_and_show.new.source) (g.K.Sink.held c.read_and_show.new.sink) (g.K.Sink.room c.read_and_show.new.sink) (g.K.Sink.faults c.read_and_show.new.sink) (g.K.Sink.idle c.read_and_show.new.sink))
    (view_of (map string_bytes c.args.words.now)) c.in-Some.view c.read_and_show.result c.in-Some.ensures c.read_and_show.ensures

pub returns-in-None : goal.returns-in-None
returns-in-None g c =
    let before : Outside = outside (g.S.Source.left c.args.source.now) (g.S.Source.faults c.args.source.now) (g.K.Sink.held c.args.sink.now) (g.K.Sink.room c.args.sink.now) (g.K.Sink.faults c.args.sink.now) (g.K.Sink.idle c.args.sink.now) in
    let after : Outside = outside (g.S.Source.left c.args.source.now) (g.S.Source.faults c.args.source.now) (g.K.Sink.held c.write_usage.new.sink) (g.K.Sink.room c.write_usage.new.sink) (g.K.Sink.faults c.write_usage.new.sink) (g.K.Sink.idle c.write_usage.new.sink) in
    no_words before after (view_of (map string_bytes c.args.words.now)) c.write_usage.result c.in-None.ensures (unknown before after c.write_usage.result refl c.write_usage.ensures)
