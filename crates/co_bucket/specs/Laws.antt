-- The laws of a wheel's looks, each a statement that a function of `laws` promises.
use Rattle.std.specs.Prelude.{◌≡◌, ℕ, ◌+◌, ◌-◌, ◌%◌, ◌<◌, ◌≤◌, ◌==◌, Bool, max, length}
use Rattle.std.specs.List.{count_by, list_any, range_with_len}
use Rattle.co_sbt.specs.Time.{hash}
use Rattle.co_queue.specs.Timers.{Timers, bucket_of}
use Rattle.co_queue.specs.Looks.{looks_at_all}
use Rattle.co_bucket.specs.Visits.{looks_at_visited}

-- from the last scan's time on, up to this one's, some time's hash leaves b modulo m
abbrev pub is_visited : (m last time b : ℕ) → Bool
is_visited m last time b = list_any (λ h. h % m == b) (range_with_len (hash last) (hash time - hash last + 1))

-- the entry's bucket is visited by a scan at a time
abbrev pub stands_visited : Timers → (now t : ℕ) → Bool
stands_visited s now t = is_visited s.buckets s.last (max s.last now) (bucket_of s.buckets t)

-- a wheel looks at each entry whose bucket is visited, once, and at no other
abbrev pub LooksAreAtVisitedBuckets : Type 0
LooksAreAtVisitedBuckets = (s : Timers) (now : ℕ) → 0 < s.buckets → looks_at_visited s now ≡ count_by (λ e. stands_visited s now e.t) s.content

-- after a turn of the wheel, or more, it looks at each entry once
abbrev pub ATurnLooksAtAll : Type 0
ATurnLooksAtAll = (s : Timers) (now : ℕ) → 0 < s.buckets → s.buckets ≤ hash (max s.last now) - hash s.last + 1 → looks_at_visited s now ≡ length s.content

-- it never looks at more than a plain list does
abbrev pub LooksAtMostAsAList : Type 0
LooksAtMostAsAList = (s : Timers) (now : ℕ) → 0 < s.buckets → looks_at_visited s now ≤ looks_at_all s now
