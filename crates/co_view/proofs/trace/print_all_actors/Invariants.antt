use Rattle.std.proofs.Common.{◌≡◌, ◌++◌, flat_map}
use Rattle.std.specs.List.{range_with_len}
use Rattle.co_view.specs.Trace.{actor_lane}
use Rattle.co_view.proofs.trace.print_all_actors.Given as goal

abbrev pub invariant-loop-actor : goal.invariant-loop-actor
invariant-loop-actor l = l.page ≡ l.fn.page ++ flat_map (actor_lane l.script) (range_with_len 0 l.actor)
