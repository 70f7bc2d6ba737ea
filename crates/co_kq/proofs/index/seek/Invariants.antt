use Rattle.std.proofs.Common.{◌-◌, ℕ, ◌≤◌, ◌<◌, length}
use Rattle.co_kq.specs.Index.{index_entry}
use Rattle.co_kq.proofs.index.seek.Given as goal

-- the place lies between the two
abbrev pub invariant-loop-low : goal.invariant-loop-low
invariant-loop-low l = record {
  order : l.low ≤ l.high;
  within : l.high ≤ length l.entries.items;
  above : (j : ℕ) → j < l.low → l.ident < (index_entry l.entries.items j).ident;
  below : (j : ℕ) → l.high ≤ j → j < length l.entries.items → (index_entry l.entries.items j).ident ≤ l.ident;
}

abbrev pub decreases-loop-low : goal.decreases-loop-low
decreases-loop-low l = l.high - l.low
