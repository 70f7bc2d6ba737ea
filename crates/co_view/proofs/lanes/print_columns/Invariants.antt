use Rattle.std.proofs.Common.{◌≡◌, ◌∷◌, ◌++◌, flat_map}
use Rattle.std.specs.List.{range_with_len}
use Rattle.co_grammar.specs.Spelling.{actor_word}
use Rattle.co_view.proofs.lanes.print_columns.Given as goal

abbrev pub invariant-loop-actor : goal.invariant-loop-actor
invariant-loop-actor l = l.page ≡ l.fn.page ++ flat_map (λ a. 9 ∷ actor_word l.script a) (range_with_len 0 l.actor)
