-- One stretch more.
use Rattle.std.proofs.lemmas.List.{take_more}
use Rattle.co_report.proofs.LinesPacked.{later-more}
use Rattle.co_report.proofs.packed_lines.stretch_at.Goals as goal

pub loop-stretch-preserved : goal.loop-stretch-preserved
loop-stretch-preserved c =
    let xs = c.args.stretches.now in
    let i = c.loop-stretch.stretch-index in
    later-more xs i c.args.at _ c.loop-stretch.found c.later-found.result (take_more xs i _ c.loop-stretch-test.true) c.loop-stretch.invariant c.later-found.ensures
