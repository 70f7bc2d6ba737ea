-- Which callout each knote has.
use Rattle.std.specs.Prelude.{◌≡◌, ◌≢◌, ℕ, ◌<◌, ◌≤◌, ◌+◌, ◌^◌, ◌==◌, Bool, true, false, List, [], ◌∷◌, ◌++◌, length, Option, Some, None, is_some, slice_index_or, replicate, if◌then◌else◌}
use Rattle.std.specs.List.{count_by}
use Rattle.slab.specs.Slab.{Slab, slab_len}
use Rattle.co_desk.specs.Views.{PassesView}
use Rattle.co_single.specs.Alarms.{Alarm, callout_count, alarm_at, made_at, fired_at, all_gos, scan_times_of, last_scan, waiting_of}
use Rattle.co_kq.specs.declared.knote.Slot.{Slot}
use Rattle.co_kq.specs.declared.numbers.Use.{Use}
use Rattle.co_kq.specs.declared.numbers.Use.TheVariants.{Free, Stale, Held}
use Rattle.co_kq.specs.declared.knote.Knote.{Knote}
use Rattle.co_kq.specs.Kevents.{Kevents, opening, put, knote_of, expires, expired}
use Rattle.co_kq.specs.Slots.{slot_at, knotes_in, AreDistinct, HasNoIdent}
use Rattle.co_single.specs.Acts.{NothingFires}
use Rattle.co_single.specs.Seen.{AddsEntries}

abbrev pub is_held : Use → Bool
is_held Free = false
is_held Stale = false
is_held (Held key) = true

-- what a number is in use for; for nothing past the last
abbrev pub use_at : List Use → ℕ → Use
use_at uses number = slice_index_or uses number Free

-- where no callout may be stale, none is
pub record IsMarked (stale : Bool) (uses : List Use) : Type 0 where
  pub none : stale ≡ false → (number : ℕ) → use_at uses number ≢ Stale

-- the knote at this key has this callout
pub record HasTimer (slots : List (Option Slot)) (key number : ℕ) : Type 0 where
  pub slot : Slot
  pub there : slot_at slots key ≡ Some slot
  pub timer : slot.timer ≡ number

-- each knote has a callout of its own, and each callout that is held has its knote
pub record HaveOwnCallouts (room : ℕ) (slots : List (Option Slot)) (uses : List Use) : Type 0 where
  pub all : length uses ≡ room
  pub held : (key : ℕ) (s : Slot) → slot_at slots key ≡ Some s → use_at uses s.timer ≡ Held key
  pub kept : (number key : ℕ) → use_at uses number ≡ Held key → HasTimer slots key number
  pub many : count_by is_held uses ≡ count_by is_some slots

-- the alarm of a knote's callout: for its next time
abbrev pub alarm_for : Option ℕ → Option Alarm
alarm_for None = None
alarm_for (Some t) = Some (record { due = t; arg = 0 })

-- a knote's callout is armed for its next time, and a free one is not armed. No count is higher than the work that was done
pub record AreArmed (work : ℕ) (slots : List (Option Slot)) (uses : List Use) (p : PassesView) : Type 0 where
  pub knotes : (key : ℕ) (s : Slot) → slot_at slots key ≡ Some s → alarm_at p s.timer ≡ alarm_for s.knote.next
  pub counts : (key : ℕ) (s : Slot) → slot_at slots key ≡ Some s → s.knote.count ≤ work
  pub free : (number : ℕ) → use_at uses number ≡ Free → alarm_at p number ≡ None
  pub made : (number : ℕ) → made_at p number ≤ work

-- what the knotes, the uses of the callouts and the service keep between two calls
pub record AreKept (work : ℕ) (slots : List (Option Slot)) (uses : List Use) (p : PassesView) : Type 0 where
  pub distinct : AreDistinct slots
  pub numbered : HaveOwnCallouts (length uses) slots uses
  pub armed : AreArmed work slots uses p
  pub callouts : callout_count p ≡ length uses
  pub few : length uses ≤ 1024
  pub nothing : waiting_of p ≡ []

-- what every list over a service keeps between two calls
pub record IsKq (clock room work : ℕ) (knotes : Slab Slot) (uses : List Use) (p : PassesView) : Type 0 where
  pub kept : AreKept work knotes.slots uses p
  pub all : length uses ≡ room
  pub has : room ≤ knotes.capacity
  pub last : last_scan p ≡ clock

-- each knote's ident and its callout
abbrev pub callouts_in : List (Option Slot) → List (ℕ × ℕ)
callouts_in [] = []
callouts_in (None ∷ ss) = callouts_in ss
callouts_in (Some s ∷ ss) = (s.knote.ident, s.timer) ∷ callouts_in ss

-- the callout of an ident's knote
abbrev pub ident_callout : ℕ → List (ℕ × ℕ) → Option ℕ
ident_callout ident [] = None
ident_callout ident (c ∷ cs) = if c.0 == ident then Some c.1 else ident_callout ident cs

abbrev pub kevents_in : ℕ → List (Option Slot) → Kevents
kevents_in clock slots = record { clock = clock; knotes = knotes_in slots }

-- when a slot's knote expires next, where it expires now
abbrev pub next_time : ℕ → Option Slot → Option ℕ
next_time now None = None
next_time now (Some s) = if expires now s.knote then (expired s.knote).next else None

-- a knote of a new ident may be put into the list, and its callout armed for its time
pub record CanPlace (work : ℕ) (knote : Knote) (due : ℕ) (knotes : Slab Slot) (uses : List Use) (p : PassesView) : Type 0 where
  pub kept : AreKept work knotes.slots uses p
  -- a callout is left that no knote has
  pub room : slab_len knotes < length uses
  -- the slab has room for a knote of each callout
  pub has : length uses ≤ knotes.capacity
  pub absent : HasNoIdent knotes.slots knote.ident
  -- no callout was armed so often that the service cannot arm it once more
  pub low : work < 2 ^ 62
  pub next : knote.next ≡ Some due
  -- it has not expired yet
  pub fresh : knote.count ≡ 0

-- a knote is put into the list, and its callout is armed. The act's number is the work that was done before it
pub record IsPut (work : ℕ) (knote : Knote) (old : Slab Slot) (p : PassesView) (new : Slab Slot) (uses : List Use) (q : PassesView) : Type 0 where
  pub list : knotes_in new.slots ≡ put knote (knotes_in old.slots)
  pub kept : AreKept (work + 1) new.slots uses q
  pub fires : NothingFires p q
  pub entries : AddsEntries p work q
  pub clock : last_scan q ≡ last_scan p
  pub capacity : new.capacity ≡ old.capacity

-- what is left of the callout of a knote that is gone
abbrev pub use_after : Option ℕ → Use
use_after None = Free
use_after (Some t) = Stale

abbrev pub left_use : Slot → Use
left_use s = use_after s.knote.next

-- what contracts see: for how many knotes there is room, how many adds and ticks there were, the kevent list, what the
-- service's one actor has seen, and each knote's ident and callout
pub record KqView : Type 0 where
  pub room : ℕ
  pub work : ℕ
  pub list : Kevents
  pub passes : PassesView
  pub callouts : List (ℕ × ℕ)

-- an ident's knote has a callout and keeps it, and its count rises by exactly how often that fires
pub record CountsFirings (ident : ℕ) (before : Knote) (v w : KqView) : Type 0 where
  pub number : ℕ
  pub had : ident_callout ident v.callouts ≡ Some number
  pub has : ident_callout ident w.callouts ≡ Some number
  pub after : Knote
  pub there : knote_of ident w.list.knotes ≡ Some after
  pub counted : after.count + fired_at v.passes number ≡ before.count + fired_at w.passes number

-- a tick: each knote's count rises by how often its callout fires. In all so many fire, and the scan is the only one
pub record FiresCounted (v : KqView) (now k : ℕ) (w : KqView) : Type 0 where
  pub counts : (ident : ℕ) (before : Knote) → knote_of ident v.list.knotes ≡ Some before → CountsFirings ident before v w
  pub all : all_gos w.passes.timers ≡ all_gos v.passes.timers + k
  pub scans : scan_times_of w.passes ≡ scan_times_of v.passes ++ now ∷ []

-- the list as it is opened
pub record IsOpened (knotes : ℕ) (v : KqView) : Type 0 where
  pub room : v.room ≡ knotes
  pub work : v.work ≡ 0
  pub list : v.list ≡ opening
  pub fired : all_gos v.passes.timers ≡ 0
  pub scans : scan_times_of v.passes ≡ []

-- a list before it is opened: it has no knotes, and its callouts are in use for nothing
pub record IsKqFresh (callouts room : ℕ) (knotes : Slab Slot) (uses : List Use) : Type 0 where
  pub same : room ≡ callouts
  pub most : room ≤ 1024
  pub empty : knotes.slots ≡ []
  pub capacity : room ≤ knotes.capacity
  pub free : uses ≡ replicate room Free
