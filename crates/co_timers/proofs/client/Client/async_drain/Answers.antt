-- The reply is one of those that have a word, and is told by it.
use Rattle.std.specs.Option.{option_copied}
use Rattle.co_object.specs.declared.op.CallOp.TheVariants.{Plain}
use Rattle.co_object.specs.declared.op.PlainOp.TheVariants.{AsyncDrain}
use Rattle.co_timers.specs.Answers.{async_word}
use Rattle.co_timers.proofs.Asked.{said_as, said_by}
use Rattle.co_timers.proofs.Replies.{async_said}
use Rattle.co_timers.proofs.client.Client.async_drain.Goals as goal

pub async_word-requires : goal.async_word-requires
async_word-requires g c =
    let h = c.in_ok-reply.ensures.answer in
    said_by async_word c.args.self.now c.call.new.self c.args.i (Plain (AsyncDrain c.args.func)) c.in_ok-reply.reply h.1.0 (λ s. async_said s c.args.func) h.1.1 h.1.2

pub returns-clause-answer : goal.returns-clause-answer
returns-clause-answer g c =
    said_as async_word c.args.self.now c.call.new.self (option_copied c.args.hold) c.args.i (Plain (AsyncDrain c.args.func)) c.in_ok-reply.reply c.async_word.result c.async_word.ensures c.in_ok-reply.ensures.answer
