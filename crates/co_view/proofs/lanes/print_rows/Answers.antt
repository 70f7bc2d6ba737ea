use Rattle.std.proofs.Common.{ℕ, List, ap, refl, get_or, ◌++◌, ◌∙◌}
use Rattle.co_view.specs.Lanes.{row_at}
use Rattle.co_view.specs.Rolls.{roll_text}
use Rattle.co_view.proofs.Rows.{grown, item_step}
use Rattle.co_view.proofs.lanes.print_rows.Goals as goal

pub loop-index-preserved : goal.loop-index-preserved
loop-index-preserved c =
    let f : ℕ → List ℕ = row_at c.args.focus c.args.lines.now in
    let x : ℕ = get_or c.args.order.now c.loop-index.index-index 0 in
    item_step f (roll_text c.args.roll.now) (roll_text c.loop-index.roll) _ c.args.order.now c.loop-index.index-index 0 x c.loop-index.invariant
    (grown c.row.new.self.pieces c.row.new.self.page c.print_shown.new.page (f x) c.in_ok-print_shown.ensures ∙ ap (λ (u : List ℕ). u ++ f x) c.in_ok-row.ensures) refl c.loop-index-test.true
