use Rattle.std.proofs.Common.{◌-◌, ◌≤◌, length}
use Rattle.co_script.proofs.starts.openings_in.Given as goal

abbrev pub decreases-loop-at : goal.decreases-loop-at
decreases-loop-at l = length l.text - l.at

abbrev pub invariant-loop-at : goal.invariant-loop-at
invariant-loop-at l = l.at ≤ length l.text
