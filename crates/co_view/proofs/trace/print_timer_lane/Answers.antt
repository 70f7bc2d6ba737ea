use Rattle.std.proofs.Common.{ℕ, ◌++◌, ◌∙◌, ap, codes, decimal}
use Rattle.co_view.proofs.Pieces.{two_texts}
use Rattle.co_view.proofs.Rows.{ok_then}
use Rattle.co_view.proofs.trace.print_timer_lane.Goals as goal

pub returns : goal.returns
returns c =
    ok_then c.print_parts.result c.print_parts.ensures
    (λ e. two_texts _ _ _ _ _ c.in_ok-begin_lane.ensures
    (e ∙ ap (λ (n : ℕ). c.begin_lane.new.page ++ (codes "timer " ++ (decimal n ++ (c.args.what.now ++ codes "\"}}")))) c.from.ensures))
