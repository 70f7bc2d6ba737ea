use Rattle.std.proofs.Common.{◌≡◌, ◌<◌, ◌≤◌, ◌+◌, ℕ, length, get_or}
use Rattle.co_print.proofs.counting.add_counts.Given as goal

-- the numbers of the places so far are added, and the others are left
abbrev pub invariant-loop-place : goal.invariant-loop-place
invariant-loop-place l = record {
  places : length l.counts ≡ length l.fn.counts;
  added : (i : ℕ) → i < l.place → get_or l.counts i 0 ≡ get_or l.fn.counts i 0 + get_or l.more i 0;
  left : (i : ℕ) → l.place ≤ i → get_or l.counts i 0 ≡ get_or l.fn.counts i 0;
}
