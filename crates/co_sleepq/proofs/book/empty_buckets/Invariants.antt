use Rattle.std.proofs.Common.{◌≡◌, ℕ, ◌<◌, ◌≤◌, [], length}
use Rattle.co_sleepq.specs.Slots.{bucket_at}
use Rattle.co_sleepq.proofs.book.empty_buckets.Given as goal

-- the buckets so far are empty, and have room
abbrev pub invariant-loop-k : goal.invariant-loop-k
invariant-loop-k l = record {
  count : length l.buckets.items ≡ l._k;
  each : (k : ℕ) → k < l._k → (bucket_at l.buckets.items k).sleeps ≡ [];
  room : (k : ℕ) → k < l._k → l.sleeps ≤ (bucket_at l.buckets.items k).room;
}
