use Rattle.std.proofs.Common.{map, string_bytes, Some}
use Rattle.co_cases.proofs.WithinRoom.{answered, usage}
use Rattle.co_cases.proofs.quiet_ends.quiet_call.Goals as goal

pub returns-clause-answered : goal.returns-clause-answered
returns-clause-answered g c = answered (Some c.args.source.now) (Some c.callout_main.new.source) (Some c.args.sink.now.held) (Some c.callout_main.new.sink.held) c.args.sink.now.room (Some c.callout_main.new.sink.room) c.args.sink.now.idle c.callout_main.new.sink.idle (map string_bytes c.args.words.now) c.callout_main.result.status c.callout_main.ensures.complete

pub returns-clause-usage : goal.returns-clause-usage
returns-clause-usage g c = usage (Some c.args.source.now) (Some c.callout_main.new.source) (Some c.args.sink.now.held) (Some c.callout_main.new.sink.held) c.args.sink.now.room (Some c.callout_main.new.sink.room) c.args.sink.now.idle c.callout_main.new.sink.idle (map string_bytes c.args.words.now) c.callout_main.result c.callout_main.ensures.headline
