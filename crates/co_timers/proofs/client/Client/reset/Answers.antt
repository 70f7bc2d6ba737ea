-- The reply is one of those that have a word, and is told by it.
use Rattle.std.specs.Option.{option_copied}
use Rattle.co_object.specs.declared.op.CallOp.TheVariants.{Plain}
use Rattle.co_object.specs.declared.op.PlainOp.TheVariants.{Reset}
use Rattle.co_timers.specs.Answers.{reset_word}
use Rattle.co_timers.proofs.Asked.{said_as, said_by}
use Rattle.co_timers.proofs.Replies.{reset_said}
use Rattle.co_timers.proofs.client.Client.reset.Goals as goal

pub reset_word-requires : goal.reset_word-requires
reset_word-requires g c =
    let h = c.in_ok-reply.ensures.answer in
    said_by reset_word c.args.self.now c.call.new.self c.args.i (Plain (Reset c.args.due c.args.prec c.args.func c.args.arg c.args.cpu)) c.in_ok-reply.reply h.1.0 (λ s. reset_said s c.args.due c.args.prec c.args.func c.args.arg c.args.cpu) h.1.1 h.1.2

pub returns-clause-answer : goal.returns-clause-answer
returns-clause-answer g c =
    said_as reset_word c.args.self.now c.call.new.self (option_copied c.args.hold) c.args.i (Plain (Reset c.args.due c.args.prec c.args.func c.args.arg c.args.cpu)) c.in_ok-reply.reply c.reset_word.result c.reset_word.ensures c.in_ok-reply.ensures.answer
