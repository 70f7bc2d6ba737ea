-- Laws of the calls.
use Rattle.std.specs.Prelude.{◌≡◌, ◌≤◌, ℕ, ◌+◌, List, [], ◌∷◌, length}
use Rattle.std.specs.declared.option.Option.TheVariants.{None}
use Rattle.co_desk.specs.Views.{PassesView}
use Rattle.co_single.specs.Acts.{CalloutsStay, IsFired, IsScanned}
use Rattle.co_single.specs.Alarms.{alarm_at, all_gos, last_scan, callout_count, due_once, fired_at, waiting_of}

-- these callouts fire one after the other
abbrev pub Fires : PassesView → List ℕ → PassesView → Type 0
Fires p [] q = q ≡ p
Fires p (i ∷ is) q = (arg : ℕ) × (between : PassesView) × IsFired p i arg between × Fires between is q

-- after a scan and fires until nothing waits each callout that was due has fired once, and no other
abbrev pub EachDueFiresOnce : Type 0
EachDueFiresOnce = (p : PassesView) (now k : ℕ) (s : PassesView) (is : List ℕ) (q : PassesView) → IsScanned p now k s → Fires s is q → waiting_of q ≡ []
    → (i : ℕ) → fired_at q i ≡ fired_at p i + due_once (alarm_at p i) (last_scan s)

-- and these are as many as the scan answered
abbrev pub AsManyAsAnswered : Type 0
AsManyAsAnswered = (p : PassesView) (now k : ℕ) (s : PassesView) (is : List ℕ) (q : PassesView) → IsScanned p now k s → Fires s is q → waiting_of q ≡ [] → length is ≡ k

-- each firing is one more call of a function in all histories together, and where the callouts stay there is none
abbrev pub EachFiringIsCounted : Type 0
EachFiringIsCounted = (p : PassesView) (i arg : ℕ) (q : PassesView) → IsFired p i arg q → all_gos q.timers ≡ all_gos p.timers + 1

abbrev pub NoFiringIsCounted : Type 0
NoFiringIsCounted = (p q : PassesView) → CalloutsStay p q → all_gos q.timers ≡ all_gos p.timers

-- a callout past the last one is not armed
abbrev pub NoAlarmPastTheLast : Type 0
NoAlarmPastTheLast = (p : PassesView) (i : ℕ) → callout_count p ≤ i → alarm_at p i ≡ None
