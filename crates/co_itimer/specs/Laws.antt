-- Laws of the interval timers.
use Rattle.std.specs.Prelude.{◌≡◌, ℕ, ◌+◌, ◌*◌, ◌<◌, ◌≤◌, min}
use Rattle.co_sbt.specs.Time.{time_max}
use Rattle.co_itimer.specs.Timers.{following}

-- `steps` is the least number of intervals, at least one, that lead from t to a time above now
pub record IsLeastStep (now interval t steps : ℕ) : Type 0 where
  pub some : 1 ≤ steps
  pub above : now < t + steps * interval
  pub least : (j : ℕ) → 1 ≤ j → now < t + j * interval → steps ≤ j

-- the next time lies so many intervals behind t, or is the last time where that is greater
abbrev pub FollowsInStep : Type 0
FollowsInStep = (now interval t : ℕ) → 0 < interval → t ≤ now → (steps : ℕ) × IsLeastStep now interval t steps × (following now interval t ≡ min (t + steps * interval) time_max)
