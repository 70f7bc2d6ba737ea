-- One line more is counted.
use Rattle.std.proofs.Common.{take, ap, sym, ◌∙◌}
use Rattle.std.proofs.lemmas.List.{take_all}
use Rattle.std.proofs.lemmas.List.Sums.{fold_more}
use Rattle.co_view.specs.declared.summary.Tally.{Tally}
use Rattle.co_view.specs.Summary.{opened_tally, tallied, tally_of}
use Rattle.co_view.proofs.summary.Tally.take_all.Goals as goal

pub loop-line-preserved : goal.loop-line-preserved
loop-line-preserved c =
    let n = c.args.timers in
    let lines = c.args.lines.now in
    let k = c.loop-line.line-index in
    record {
      tally = c.in_ok-take.ensures.tally ∙ (ap (λ (t : Tally). tallied n t c.line-item.result) c.loop-line.invariant.tally
          ∙ (ap (tallied n (tally_of n (take k lines))) c.line-item.is ∙ sym (fold_more (tallied n) (opened_tally n) lines k c.line-item.result c.loop-line-test.true)));
      long = c.in_ok-take.ensures.long;
    }

pub returns : goal.returns
returns c = c.loop-line.invariant.tally ∙ ap (tally_of c.args.timers) (take_all c.loop-line.line-index c.args.lines.now c.loop-line-test.false)
