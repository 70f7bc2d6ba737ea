-- What is to come ends as all of it does.
use Rattle.co_sleepq.specs.Params.{sleepers}
use Rattle.co_batch_text.specs.Sleep.Matching.{IsObeying}
use Rattle.co_batch_text.specs.Sleep.Running.{AreFree}
use Rattle.co_batch_text.proofs.sleep.answers.answer_all.Given as goal

abbrev pub invariant-loop-command : goal.invariant-loop-command
invariant-loop-command g l = record {
  cpu : AreFree g.N.Name.name g.N.SleepName.book l.queue l.cpu;
  way : IsObeying (sleepers l.queue) l.commands l.command-index l.now l.fn.cpu l.cpu l.fn.page l.page;
}
