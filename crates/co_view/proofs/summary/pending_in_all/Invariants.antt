use Rattle.std.proofs.Common.{◌≡◌, take}
use Rattle.std.specs.List.{count_by}
use Rattle.co_view.specs.Summary.{is_open}
use Rattle.co_view.proofs.summary.pending_in_all.Given as goal

-- those so far
abbrev pub invariant-loop-watch : goal.invariant-loop-watch
invariant-loop-watch l = l.pending ≡ count_by is_open (take l.watch-index l.scene)
