use Rattle.std.proofs.Common.{ℕ, ◌++◌, ◌∙◌, ap, flat_map}
use Rattle.std.specs.List.{range_with_len}
use Rattle.co_view.specs.Svg.{column_head, frame_head}
use Rattle.co_view.proofs.Pieces.{two_texts}
use Rattle.co_view.proofs.Rows.{ok_then}
use Rattle.co_view.proofs.svg.print_frame.Goals as goal

pub returns : goal.returns
returns c =
    ok_then c.print_columns.result c.print_columns.ensures
    (λ e. two_texts _ _ _ _ _ (c.in_ok-print_frame_head.ensures ∙ ap (λ (n : ℕ). c.args.page.now ++ frame_head n c.args.steps) c.actor_count-actors.ensures)
    (e ∙ ap (λ (n : ℕ). c.print_frame_head.new.page ++ flat_map (column_head c.args.script.now c.args.steps) (range_with_len 0 n)) c.actor_count-actors.ensures))
