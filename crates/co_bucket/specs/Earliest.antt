-- When the first of a queue comes due.
use Rattle.std.specs.Prelude.{◌≡◌, ◌≤◌, ◌<◌, ◌+◌, ◌||◌, ◌&&◌, ℕ, Bool, true, false, not, ◌==◌, nat_le, nat_lt, min, List, [], ◌∷◌, length, slice_index, if◌then◌else◌}
use Rattle.std.specs.List.{All, list_any}
use Rattle.std.specs.declared.option.Option.{Option}
use Rattle.std.specs.declared.option.Option.TheVariants.{Some, None}
use Rattle.co_sbt.specs.Time.{hash}
use Rattle.co_object.specs.Queue.{Due}
use Rattle.co_queue.specs.Timers.{Timers}

abbrev pub first_due : List Due → Option Due
first_due [] = None
first_due (d ∷ ds) = Some d

-- what has come due and is to be serviced
abbrev pub has_come : Timers → Bool
has_come s = not (nat_lt (length s.expired + length s.urgent) 1)

-- the first that the CPU is to service, or its interrupt where `direct`
abbrev pub first_come : Bool → Timers → Option Due
first_come direct s = first_due (if direct then s.urgent else s.expired)

-- nothing waits until a time before this one, and something waits until it, or has come due by it
abbrev pub IsEarliestAt : Timers → ℕ → Type 0
IsEarliestAt s t =
    (list_any (λ e. nat_lt e.t t) s.content ≡ false)
    × ((list_any (λ e. e.t == t) s.content || (has_come s && t == s.last)) ≡ true)

-- the first time at which there is something to service: none where the queue has nothing
abbrev pub IsEarliest : Timers → Option ℕ → Type 0
IsEarliest s None = (s.content ≡ []) × (s.expired ≡ []) × (s.urgent ≡ [])
IsEarliest s (Some t) = IsEarliestAt s t

-- ---- in the buckets

abbrev pub earlier : Option ℕ → ℕ → ℕ
earlier None t = t
earlier (Some first) t = min first t

-- the first of these and of the times of the callouts
abbrev pub least : List ℕ → Option ℕ → List ℕ → Option ℕ
least times first [] = first
least times first (x ∷ xs) = least times (Some (earlier first (slice_index times x))) xs

-- the time, where its hash is at most this
abbrev pub within : Option ℕ → ℕ → Option ℕ
within None h = None
within (Some t) h = if nat_le (hash t) h then Some t else None

-- no callout of the lists has a time before this one, and one has it
pub record IsFirstAt (m : ℕ) (times : List ℕ) (lists : ℕ → List ℕ) (t : ℕ) : Type 0 where
  pub before : (k : ℕ) → k < m → All (λ x. t ≤ slice_index times x) (lists k)
  pub bucket : ℕ
  pub below : bucket < m
  pub there : list_any (λ x. slice_index times x == t) (lists bucket) ≡ true

-- the first time of these lists: none where they are empty
abbrev pub IsFirst : (m : ℕ) (times : List ℕ) (lists : ℕ → List ℕ) → Option ℕ → Type 0
IsFirst m times lists None = (k : ℕ) → k < m → lists k ≡ []
IsFirst m times lists (Some t) = IsFirstAt m times lists t
