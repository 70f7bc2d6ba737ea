use Rattle.std.proofs.Common.{ℕ, List, ◌++◌, ◌∙◌, ap, codes}
use Rattle.co_view.specs.Trace.{lane_head}
use Rattle.co_view.proofs.Pieces.{two_texts}
use Rattle.co_view.proofs.Rows.{ok_then}
use Rattle.co_view.proofs.trace.print_actor_lane.Goals as goal

pub returns : goal.returns
returns c =
    ok_then c.print_parts.result c.print_parts.ensures
    (λ e. two_texts _ _ _ _ _ (c.in_ok-begin_lane.ensures ∙ ap (λ (n : ℕ). c.args.page.now ++ lane_head 2 n) c.from.ensures)
    (e ∙ ap (λ (name : List ℕ). c.begin_lane.new.page ++ (name ++ codes "\"}}")) c.actor_name-letter.ensures))
