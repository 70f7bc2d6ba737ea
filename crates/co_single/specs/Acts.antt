-- What each call leaves.
use Rattle.std.specs.Prelude.{◌≡◌, ◌≢◌, ℕ, ◌+◌, ◌<◌, [], ◌∷◌, ◌++◌, length, max}
use Rattle.std.specs.declared.option.Option.TheVariants.{Some, None}
use Rattle.co_desk.specs.Views.{PassesView}
use Rattle.co_single.specs.Alarms.{Alarm, all_gos, callout_count, alarm_at, made_at, fired_at, scan_times_of, last_scan, waiting_of, but, times_in, due_once}

-- all but callout i stays
pub record OthersStay (p : PassesView) (i : ℕ) (q : PassesView) : Type 0 where
  pub count : callout_count q ≡ callout_count p
  pub alarms : (j : ℕ) → j ≢ i → alarm_at q j ≡ alarm_at p j
  pub made : (j : ℕ) → j ≢ i → made_at q j ≡ made_at p j
  pub fired : (j : ℕ) → j ≢ i → fired_at q j ≡ fired_at p j

-- nothing was scanned
pub record TimeStays (p q : PassesView) : Type 0 where
  pub scans : scan_times_of q ≡ scan_times_of p
  pub clock : last_scan q ≡ last_scan p

-- the callouts stay as they are
pub record CalloutsStay (p q : PassesView) : Type 0 where
  pub count : callout_count q ≡ callout_count p
  pub alarms : (j : ℕ) → alarm_at q j ≡ alarm_at p j
  pub made : (j : ℕ) → made_at q j ≡ made_at p j
  pub fired : (j : ℕ) → fired_at q j ≡ fired_at p j

-- callout i is armed, in the place of any old arming, and waits no more where it had come due
pub record IsArmed (p : PassesView) (i due arg : ℕ) (q : PassesView) : Type 0 where
  pub alarm : alarm_at q i ≡ Some (record { due = due; arg = arg })
  pub made : made_at q i ≡ made_at p i + 1
  pub fired : fired_at q i ≡ fired_at p i
  pub others : OthersStay p i q
  pub time : TimeStays p q
  pub waiting : waiting_of q ≡ but i (waiting_of p)

-- callout i is not armed any more
pub record IsDisarmed (p : PassesView) (i : ℕ) (q : PassesView) : Type 0 where
  pub alarm : alarm_at q i ≡ None
  pub made : made_at q i ≡ made_at p i
  pub fired : fired_at q i ≡ fired_at p i
  pub others : OthersStay p i q
  pub time : TimeStays p q
  pub waiting : waiting_of q ≡ but i (waiting_of p)

-- the clock, which never goes back, shows `now`; each callout that is due waits, once, and no other: k in all
pub record IsScanned (p : PassesView) (now k : ℕ) (q : PassesView) : Type 0 where
  pub callouts : CalloutsStay p q
  pub scans : scan_times_of q ≡ scan_times_of p ++ now ∷ []
  pub clock : last_scan q ≡ max (last_scan p) now
  pub waiting : (i : ℕ) → times_in i (waiting_of q) ≡ due_once (alarm_at p i) (last_scan q)
  pub count : k ≡ length (waiting_of q)

-- callout i, the first that waited, has fired with its arming's argument, and is not armed any more
pub record IsFired (p : PassesView) (i arg : ℕ) (q : PassesView) : Type 0 where
  pub waiting : waiting_of p ≡ i ∷ waiting_of q
  pub below : i < callout_count p
  pub was : Alarm
  pub before : alarm_at p i ≡ Some was
  pub arg_is : was.arg ≡ arg
  pub alarm : alarm_at q i ≡ None
  pub made : made_at q i ≡ made_at p i
  pub fired : fired_at q i ≡ fired_at p i + 1
  pub others : OthersStay p i q
  pub time : TimeStays p q

-- nothing waited, and nothing changes that is seen here
pub record NothingWaits (p q : PassesView) : Type 0 where
  pub nothing : waiting_of p ≡ []
  pub waiting : waiting_of q ≡ []
  pub callouts : CalloutsStay p q
  pub time : TimeStays p q

-- so many callouts, none of which was ever armed
pub record IsNew (n : ℕ) (p : PassesView) : Type 0 where
  pub count : callout_count p ≡ n
  pub alarms : (i : ℕ) → alarm_at p i ≡ None
  pub made : (i : ℕ) → made_at p i ≡ 0
  pub fired : (i : ℕ) → fired_at p i ≡ 0
  pub scans : scan_times_of p ≡ []
  pub clock : last_scan p ≡ 0
  pub waiting : waiting_of p ≡ []

-- no callout fires, and nothing is scanned
pub record NothingFires (p q : PassesView) : Type 0 where
  pub fired : (i : ℕ) → fired_at q i ≡ fired_at p i
  pub all : all_gos q.timers ≡ all_gos p.timers
  pub scans : scan_times_of q ≡ scan_times_of p
