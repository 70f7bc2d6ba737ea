use Rattle.std.proofs.Common.{ℕ, ◌∷◌}
use Rattle.co_grammar.specs.Spelling.{actor_word}
use Rattle.co_view.proofs.Rows.{number_step}
use Rattle.co_view.proofs.lanes.print_columns.Goals as goal

pub loop-actor-preserved : goal.loop-actor-preserved
loop-actor-preserved c = number_step (λ (a : ℕ). 9 ∷ actor_word c.args.script.now a) _ _ _ _ c.loop-actor.invariant c.in_ok-print_column.ensures
