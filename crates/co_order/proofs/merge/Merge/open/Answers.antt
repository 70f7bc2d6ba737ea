use Rattle.std.proofs.Common.{ℕ, ap, replicate, ◌∙◌}
use Rattle.co_order.proofs.Boards.{opened}
use Rattle.co_order.proofs.merge.Merge.open.Goals as goal

pub returns : goal.returns
returns c =
    opened c.args.board.now.script.now c.args.board.now.lines.now _ (c.in_ok-numbers.ensures ∙ ap (λ (n : ℕ). replicate n 0) c.actor_count.ensures)
    (c.in_ok-positions.ensures ∙ ap (λ (n : ℕ). replicate n 0) c.place_count.ensures) c.in_ok-come.ensures c.new.ensures
