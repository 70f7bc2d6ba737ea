-- The reply is one of those that have a word, and is told by it.
use Rattle.std.specs.Option.{option_copied}
use Rattle.co_object.specs.declared.op.CallOp.TheVariants.{Plain}
use Rattle.co_object.specs.declared.op.PlainOp.TheVariants.{Stop}
use Rattle.co_timers.specs.Answers.{stop_word}
use Rattle.co_timers.proofs.Asked.{said_as, said_by}
use Rattle.co_timers.proofs.Replies.{stop_said}
use Rattle.co_timers.proofs.client.Client.stop.Goals as goal

pub stop_word-requires : goal.stop_word-requires
stop_word-requires g c =
    let h = c.in_ok-reply.ensures.answer in
    said_by stop_word c.args.self.now c.call.new.self c.args.i (Plain Stop) c.in_ok-reply.reply h.1.0 stop_said h.1.1 h.1.2

pub returns-clause-answer : goal.returns-clause-answer
returns-clause-answer g c =
    said_as stop_word c.args.self.now c.call.new.self (option_copied c.args.hold) c.args.i (Plain Stop) c.in_ok-reply.reply c.stop_word.result c.stop_word.ensures c.in_ok-reply.ensures.answer
