-- One command more.
use Rattle.std.proofs.Common.{◌∙◌, arith}
use Rattle.co_event_text.proofs.Written.{so_far-more}
use Rattle.co_event_text.proofs.answers.answer_all.Goals as goal

pub loop-command-preserved : goal.loop-command-preserved
loop-command-preserved c =
    let h = c.loop-command.invariant in
    record {
      size = c.in_ok-answer.ensures.size ∙ h.size;
      room = omega (arith, c.in_ok-answer.ensures.size, h.room, c.answer.auto.out);
      so_far = λ e stood.
          so_far-more c.args.queue.now.timers.size c.args.page.now c.loop-command.page c.answer.new.page c.loop-command.queue c.answer.new.queue c.args.commands.now c.loop-command.command-index _ c.command-item.result e
          c.loop-command-test.true c.command-item.is c.in_ok-answer.ensures.written (h.so_far e stood);
    }
