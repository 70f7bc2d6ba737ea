-- The queue's reply is the one given.
use Rattle.std.proofs.Common.{◌≡◌, true, sym, ◌∙◌}
use Rattle.co_program.specs.Runs.{actors_of}
use Rattle.co_check.specs.Replay.{may_work}
use Rattle.co_check.proofs.Taken.{queue-took}
use Rattle.co_check.proofs.replay.take_queue.Goals as goal

pub returns-then-same_answer-clause-taken : goal.returns-then-same_answer-clause-taken
returns-then-same_answer-clause-taken c q f =
    let may : may_work (actors_of c.args.script.now) c.args.cpu c.args.entry.now.actor c.args.entry.now.op ≡ true = cc in
    queue-took (actors_of c.args.script.now) c.args.cpu c.args.queue.now.queue.buckets c.args.queue.now.queue.direct q c.args.entry.now c.in-Some.reply c.step.new.self may (c.in-Some.ensures.outcome q f) (sym c.same_answer.ensures ∙ c.if-same_answer.true)
