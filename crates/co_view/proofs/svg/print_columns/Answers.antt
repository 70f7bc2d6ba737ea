use Rattle.co_view.specs.Svg.{column_head}
use Rattle.co_view.proofs.Rows.{number_step}
use Rattle.co_view.proofs.svg.print_columns.Goals as goal

pub loop-actor-preserved : goal.loop-actor-preserved
loop-actor-preserved c = number_step (column_head c.args.script.now c.args.steps) _ _ _ _ c.loop-actor.invariant c.in_ok-print_column.ensures
