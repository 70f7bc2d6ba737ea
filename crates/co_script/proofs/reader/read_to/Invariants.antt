use Rattle.std.proofs.Common.{◌≡◌, ◌-◌, ◌≤◌, length}
use Rattle.co_script.specs.Beside.{left_read}
use Rattle.co_script.proofs.reader.read_to.Given as goal

abbrev pub decreases-loop-at : goal.decreases-loop-at
decreases-loop-at l = length l.text - l.at

-- what is left makes of the draft so far what all makes of the one before
abbrev pub invariant-loop-at : goal.invariant-loop-at
invariant-loop-at l = record {
  within : l.at ≤ length l.text;
  few : l.number ≤ l.at;
  same : left_read l.text l.fn.draft l.fn.from ≡ left_read l.text l.draft (record { number = l.number; at = l.at });
}
