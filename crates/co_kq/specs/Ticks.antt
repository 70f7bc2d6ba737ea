-- How a tick goes over the callouts.
use Rattle.std.specs.Prelude.{◌≡◌, ◌≢◌, ◌⊎◌, ℕ, ◌≤◌, ◌<◌, ◌+◌, ◌^◌, Bool, true, false, List, [], ◌∷◌, length, Option, Some, None, nat_lt, slice_set, if◌then◌else◌}
use Rattle.std.specs.List.{count_by}
use Rattle.co_desk.specs.Views.{PassesView}
use Rattle.co_single.specs.Acts.{OthersStay, TimeStays, CalloutsStay}
use Rattle.co_single.specs.Alarms.{callout_count, alarm_at, made_at, fired_at, all_gos, waiting_of, times_in, due_once}
use Rattle.co_kq.specs.declared.knote.Slot.{Slot}
use Rattle.co_kq.specs.declared.numbers.Use.{Use}
use Rattle.co_kq.specs.declared.numbers.Use.TheVariants.{Free, Stale, Held}
use Rattle.co_kq.specs.Kevents.{expires, expired}
use Rattle.co_kq.specs.Slots.{slot_at, ticked_slot}
use Rattle.co_kq.specs.Numbers.{use_at, is_held, alarm_for, HaveOwnCallouts, AreArmed}

-- a callout stays as it is, or it was stale and is free
abbrev pub StaysOrIsFreed : List Use → PassesView → List Use → PassesView → ℕ → Type 0
StaysOrIsFreed uses p after q number = ((use_at after number ≡ use_at uses number) × (alarm_at q number ≡ alarm_at p number))
    ⊎ ((use_at uses number ≡ Stale) × (use_at after number ≡ Free) × (alarm_at q number ≡ None))

-- some stale callouts are free
pub record AreCleared (uses : List Use) (p : PassesView) (after : List Use) (q : PassesView) : Type 0 where
  pub all : length after ≡ length uses
  pub turned : (number : ℕ) → StaysOrIsFreed uses p after q number
  pub made : (number : ℕ) → made_at q number ≡ made_at p number
  pub fired : (number : ℕ) → fired_at q number ≡ fired_at p number
  pub count : callout_count q ≡ callout_count p
  pub time : TimeStays p q
  pub waiting : waiting_of p ≡ [] → waiting_of q ≡ []

-- the callouts that wait are those of the knotes whose time has come
pub record AreDue (now work : ℕ) (slots : List (Option Slot)) (uses : List Use) (p : PassesView) : Type 0 where
  pub numbered : HaveOwnCallouts (length uses) slots uses
  pub armed : AreArmed work slots uses p
  pub cleared : (number : ℕ) → use_at uses number ≢ Stale
  pub waiting : (number : ℕ) → times_in number (waiting_of p) ≡ due_once (alarm_at p number) now
  pub callouts : callout_count p ≡ length uses
  pub few : length uses ≤ 1024
  pub low : work < 2 ^ 62

-- whether a callout waits
abbrev pub is_waiting_in : List ℕ → ℕ → Bool
is_waiting_in ws number = nat_lt 0 (times_in number ws)

-- a slot, where these callouts still wait
abbrev pub part_ticked : ℕ → List ℕ → Option Slot → Option Slot
part_ticked now ws None = None
part_ticked now ws (Some s) = if is_waiting_in ws s.timer then Some s else ticked_slot now (Some s)

abbrev pub slot_waits : List ℕ → Option Slot → Bool
slot_waits ws None = false
slot_waits ws (Some s) = is_waiting_in ws s.timer

-- how far a tick has come
pub record IsTicking (now work : ℕ) (before : List (Option Slot)) (uses : List Use) (p : PassesView) (slots : List (Option Slot)) (q : PassesView) : Type 0 where
  pub same : length slots ≡ length before
  pub part : (key : ℕ) → slot_at slots key ≡ part_ticked now (waiting_of q) (slot_at before key)
  pub alarms : (key : ℕ) (s : Slot) → slot_at slots key ≡ Some s → alarm_at q s.timer ≡ alarm_for s.knote.next
  pub loose : (number : ℕ) → is_held (use_at uses number) ≡ false → alarm_at q number ≡ None
  pub made : (number : ℕ) → made_at q number + times_in number (waiting_of q) ≤ work + 1
  pub fired : (number : ℕ) → fired_at q number + times_in number (waiting_of q) ≡ fired_at p number + times_in number (waiting_of p)
  pub some : (number : ℕ) → times_in number (waiting_of q) ≤ times_in number (waiting_of p)
  pub all : all_gos q.timers + length (waiting_of q) ≡ all_gos p.timers + length (waiting_of p)
  pub counted : length (waiting_of q) + count_by (slot_waits (waiting_of p)) before ≡ length (waiting_of p) + count_by (slot_waits (waiting_of q)) before
  pub count : callout_count q ≡ callout_count p
  pub time : TimeStays p q

-- a callout that waits is that of a knote that expires
pub record IsKnoteDue (now : ℕ) (slots : List (Option Slot)) (uses : List Use) (p : PassesView) (number : ℕ) : Type 0 where
  pub key : ℕ
  pub held : use_at uses number ≡ Held key
  pub slot : Slot
  pub there : slot_at slots key ≡ Some slot
  pub timer : slot.timer ≡ number
  pub comes : expires now slot.knote ≡ true
  pub made : made_at p number < 2 ^ 62

pub record CanServe (now : ℕ) (slots : List (Option Slot)) (uses : List Use) (p : PassesView) : Type 0 where
  pub ready : (number : ℕ) → 0 < times_in number (waiting_of p) → IsKnoteDue now slots uses p number
  pub once : (number : ℕ) → times_in number (waiting_of p) ≤ 1
  pub callouts : callout_count p ≡ length uses

-- the first knote whose callout waited has expired, and its callout is armed for its next time
pub record IsKnoteExpired (now : ℕ) (slots : List (Option Slot)) (uses : List Use) (p : PassesView) (after : List (Option Slot)) (q : PassesView) : Type 0 where
  pub number : ℕ
  pub waiting : waiting_of p ≡ number ∷ waiting_of q
  pub below : number < callout_count p
  pub key : ℕ
  pub slot : Slot
  pub held : use_at uses number ≡ Held key
  pub there : slot_at slots key ≡ Some slot
  pub timer : slot.timer ≡ number
  pub comes : expires now slot.knote ≡ true
  pub written : after ≡ slice_set slots key (Some (record slot { knote = expired slot.knote }))
  pub alarm : alarm_at q number ≡ alarm_for (expired slot.knote).next
  pub made : made_at q number ≤ made_at p number + 1
  pub fired : fired_at q number ≡ fired_at p number + 1
  pub others : OthersStay p number q
  pub time : TimeStays p q

-- nothing waited any more
pub record HasNothingWaiting (slots : List (Option Slot)) (p : PassesView) (after : List (Option Slot)) (q : PassesView) : Type 0 where
  pub nothing : waiting_of p ≡ []
  pub waiting : waiting_of q ≡ []
  pub same : after ≡ slots
  pub callouts : CalloutsStay p q
  pub time : TimeStays p q
