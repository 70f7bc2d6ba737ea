-- The expirations of one tick.
use Rattle.std.specs.Prelude.{◌≡◌, ℕ, ◌+◌, ◌≤◌, true, [], length, Option, Some, None}
use Rattle.co_desk.specs.Views.{PassesView}
use Rattle.co_single.specs.Acts.{IsArmed, IsDisarmed}
use Rattle.co_single.specs.Alarms.{made_at, fired_at, scan_times_of, times_in, waiting_of}
use Rattle.co_itimer.specs.Itimers.{AreArmed, once}
use Rattle.co_itimer.specs.Timers.{Timers, timer_of, expires, ticked_timer}

-- callout i is armed for this time, or for none
abbrev pub IsSetTo : PassesView → ℕ → Option ℕ → PassesView → Type 0
IsSetTo p i None q = IsDisarmed p i q
IsSetTo p i (Some due) q = IsArmed p i due 0 q

-- callout i, which is not armed, is armed for this time where there is one
abbrev pub IsArmedAgain : PassesView → ℕ → Option ℕ → PassesView → Type 0
IsArmedAgain p i None q = q ≡ p
IsArmedAgain p i (Some due) q = IsArmed p i due 0 q

-- behind the scan each process that expires waits, once, and no other
pub record AllWait (p : PassesView) (s : Timers) (work : ℕ) : Type 0 where
  pub armed : AreArmed p s
  pub made : (i : ℕ) → made_at p i ≤ work
  pub waiting : (i : ℕ) → times_in i (waiting_of p) ≡ once (expires s.clock (timer_of s i))

-- the state p s of the first process that waits, and the state q t behind some of the services
pub data IsServedOrWaits (work : ℕ) (p : PassesView) (s : Timers) (q : PassesView) (t : Timers) (i : ℕ) : Type 0 where
  waits : times_in i (waiting_of q) ≡ 1 → expires s.clock (timer_of s i) ≡ true → timer_of t i ≡ timer_of s i → fired_at q i ≡ fired_at p i → made_at q i ≤ work → IsServedOrWaits work p s q t i
  served : times_in i (waiting_of q) ≡ 0 → timer_of t i ≡ ticked_timer s.clock (timer_of s i) → fired_at q i ≡ fired_at p i + once (expires s.clock (timer_of s i)) → made_at q i ≤ work + 1 → IsServedOrWaits work p s q t i

-- behind some of the services
pub record AreServing (work : ℕ) (p : PassesView) (s : Timers) (q : PassesView) (t : Timers) : Type 0 where
  pub armed : AreArmed q t
  pub clock : t.clock ≡ s.clock
  pub count : length t.timers ≡ length s.timers
  pub scans : scan_times_of q ≡ scan_times_of p
  pub each : (i : ℕ) → IsServedOrWaits work p s q t i

-- behind all of them
pub record AreServed (work : ℕ) (p : PassesView) (s : Timers) (q : PassesView) (t : Timers) : Type 0 where
  pub serving : AreServing work p s q t
  pub nothing : waiting_of q ≡ []
