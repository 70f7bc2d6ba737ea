-- One command more.
use Rattle.std.proofs.Common.{◌≡◌, ◌++◌, ◌∙◌, arith, subst}
use Rattle.co_text.specs.Lines.{text}
use Rattle.co_batch_text.specs.Ends.{IsServed}
use Rattle.co_batch_text.specs.Kq.Answers.{answer_lines}
use Rattle.co_batch_text.specs.Kq.Ends.{kq_served}
use Rattle.co_batch_text.proofs.Running.{more}
use Rattle.co_batch_text.proofs.kq.answers.answer_all.Goals as goal

pub loop-command-preserved : goal.loop-command-preserved
loop-command-preserved g c =
    let h = c.loop-command.invariant in
    let v = c.loop-command.list in
    let w = c.answer.new.list in
    let one = c.command-item.result in
    let a = c.in_ok-answer.ensures in
    let served : IsServed kq_served c.args.list.now.room v.list v.passes one w.list w.passes = subst (λ room. IsServed kq_served room v.list v.passes one w.list w.passes) h.room a.answered.served in
    record {
      room = a.answered.room ∙ h.room;
      events = cc;
      work = omega (arith, a.answered.work, h.work);
      way = more kq_served _ _ _ _ c.args.commands.now c.loop-command.command-index v.list v.passes c.loop-command.page h.way one _ c.loop-command-test.true c.command-item.is w.list w.passes c.answer.new.page served
          (subst (λ room. c.answer.new.page ≡ c.loop-command.page ++ text (answer_lines room v.list one)) h.room a.text);
    }
