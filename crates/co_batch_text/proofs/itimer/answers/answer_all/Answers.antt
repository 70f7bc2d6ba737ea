-- One command more.
use Rattle.std.proofs.Common.{◌∙◌, arith, subst}
use Rattle.co_batch_text.specs.Ends.{IsServed}
use Rattle.co_batch_text.specs.Itimer.Answers.{answer_words}
use Rattle.co_batch_text.specs.Itimer.Ends.{timer_served}
use Rattle.co_batch.proofs.Answering.{one_line}
use Rattle.co_batch_text.proofs.Running.{more}
use Rattle.co_batch_text.proofs.itimer.answers.answer_all.Goals as goal

pub loop-command-preserved : goal.loop-command-preserved
loop-command-preserved g c =
    let h = c.loop-command.invariant in
    let v = c.loop-command.timers in
    let w = c.answer.new.timers in
    let one = c.command-item.result in
    let a = c.in_ok-answer.ensures in
    let served = subst (λ n. IsServed timer_served n v.alone v.seen one w.alone w.seen) h.processes a.answered.served in
    record {
      processes = a.answered.processes ∙ h.processes;
      work = omega (arith, a.answered.work, h.work);
      way = more timer_served _ _ _ _ c.args.commands.now c.loop-command.command-index v.alone v.seen c.loop-command.page h.way one _ c.loop-command-test.true c.command-item.is w.alone w.seen c.answer.new.page served
          (one_line c.loop-command.page c.answer.new.page (answer_words v.alone one) a.text);
    }
