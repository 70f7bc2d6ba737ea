-- Interval timers over a service: what its calls keep, and what they add to what is seen of the service.
use Rattle.std.specs.Prelude.{◌≡◌, ℕ, ◌+◌, ◌≤◌, Bool, if◌then◌else◌, [], ◌∷◌, ◌++◌, length, Option, Some, None}
use Rattle.co_desk.specs.Name.{ServiceName}
use Rattle.co_desk.specs.Views.{PassesView}
use Rattle.co_single.specs.Acts.{IsNew}
use Rattle.co_single.specs.Alarms.{Alarm, callout_count, alarm_at, made_at, fired_at, all_gos, last_scan, scan_times_of, waiting_of}
use Rattle.co_itimer.specs.Timers.{Timers, opening, timer_of, expires}

-- the timers alone, what the one actor has seen of the service, which is all, and the number of sets and ticks so far
pub record ItimersView : Type 0 where
  pub alone : Timers
  pub seen : PassesView
  pub work : ℕ

-- a name, and the number of processes
pub record ItimersFreshView : Type 0 where
  pub name : ServiceName
  pub processes : ℕ

pub record AreFresh (callouts processes : ℕ) : Type 0 where
  pub same : processes ≡ callouts
  pub most : processes ≤ 1024

-- when an arming is due
abbrev pub alarm_due : Option Alarm → Option ℕ
alarm_due None = None
alarm_due (Some a) = Some a.due

-- a callout for each process, which is armed for the process's next time where it has one
pub record AreArmed (p : PassesView) (s : Timers) : Type 0 where
  pub count : callout_count p ≡ length s.timers
  pub clock : last_scan p ≡ s.clock
  pub armed : (i : ℕ) → alarm_due (alarm_at p i) ≡ (timer_of s i).next

-- what stands between two calls
pub record IsBetweenTicks (p : PassesView) (s : Timers) (work : ℕ) : Type 0 where
  pub armed : AreArmed p s
  pub made : (i : ℕ) → made_at p i ≤ work
  pub nothing : waiting_of p ≡ []

-- just opened
pub record IsOpened (processes : ℕ) (v : ItimersView) : Type 0 where
  pub alone : v.alone ≡ opening processes
  pub seen : IsNew processes v.seen
  pub none_fired : all_gos v.seen.timers ≡ 0
  pub work : v.work ≡ 0

-- 1 of a process that expires, and else 0
abbrev pub once : Bool → ℕ
once b = if b then 1 else 0

-- One scan at `now`. By the clock after it the callout of each process that expires fires once, and no other: k in all.
pub record EachFires (s : Timers) (clock now k : ℕ) (p q : PassesView) : Type 0 where
  pub fired : (i : ℕ) → fired_at q i ≡ fired_at p i + once (expires clock (timer_of s i))
  pub all : all_gos q.timers ≡ all_gos p.timers + k
  pub scans : scan_times_of q ≡ scan_times_of p ++ now ∷ []
