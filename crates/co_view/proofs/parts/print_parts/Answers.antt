use Rattle.co_view.specs.Parts.{part_text}
use Rattle.co_view.proofs.Rows.{item_step}
use Rattle.co_view.proofs.parts.print_parts.Goals as goal

pub loop-part-preserved : goal.loop-part-preserved
loop-part-preserved c = item_step part_text _ _ _ c.args.parts.now c.loop-part.part-index c.part-item.result c.part-item.result c.loop-part.invariant c.in_ok-print_part.ensures c.part-item.is c.loop-part-test.true
