-- A kevent list whose knotes stand in slots.
use Rattle.std.specs.Prelude.{◌≡◌, ◌≢◌, ℕ, ◌+◌, ◌<◌, ◌≤◌, Bool, false, List, [], ◌∷◌, Option, Some, None, slice_index_or}
use Rattle.co_kq.specs.declared.knote.Knote.{Knote}
use Rattle.co_kq.specs.declared.knote.Slot.{Slot}
use Rattle.co_kq.specs.declared.kevent.Event.{Event}
use Rattle.co_kq.specs.Kevents.{put_in_order, ticked_knote, expires, events_in, left_in}

-- the knotes of these slots, by rising ident
abbrev pub knotes_in : List (Option Slot) → List Knote
knotes_in [] = []
knotes_in (None ∷ ss) = knotes_in ss
knotes_in (Some s ∷ ss) = put_in_order s.knote (knotes_in ss)

-- the slot of a key
abbrev pub slot_at : List (Option Slot) → ℕ → Option Slot
slot_at slots key = slice_index_or slots key None

-- no slot but this has a knote of this ident
abbrev pub IsAlone : List (Option Slot) → (key ident : ℕ) → Type 0
IsAlone slots key ident = (j : ℕ) (s : Slot) → slot_at slots j ≡ Some s → s.knote.ident ≡ ident → j ≡ key

-- no slot has a knote of this ident
abbrev pub HasNoIdent : List (Option Slot) → ℕ → Type 0
HasNoIdent slots ident = (j : ℕ) (s : Slot) → slot_at slots j ≡ Some s → s.knote.ident ≢ ident

-- no two slots have knotes of one ident
abbrev pub AreDistinct : List (Option Slot) → Type 0
AreDistinct slots = (key : ℕ) (s : Slot) → slot_at slots key ≡ Some s → IsAlone slots key s.knote.ident

-- the knote of this ident stands at this key
pub record StandsAtKey (slots : List (Option Slot)) (key ident : ℕ) : Type 0 where
  pub slot : Slot
  pub there : slot_at slots key ≡ Some slot
  pub ident_is : slot.knote.ident ≡ ident

-- a slot after a tick
abbrev pub ticked_slot : ℕ → Option Slot → Option Slot
ticked_slot now None = None
ticked_slot now (Some s) = Some (record s { knote = ticked_knote now s.knote })

abbrev pub slot_expires : ℕ → Option Slot → Bool
slot_expires now None = false
slot_expires now (Some s) = expires now s.knote

-- the first knote with expirations stands at this key
pub record IsFirstReady (slots : List (Option Slot)) (key : ℕ) : Type 0 where
  pub slot : Slot
  pub there : slot_at slots key ≡ Some slot
  pub ready : 0 < slot.knote.count
  pub first : (j : ℕ) (s : Slot) → slot_at slots j ≡ Some s → 0 < s.knote.count → slot.knote.ident ≤ s.knote.ident

-- no knote has expirations
abbrev pub AreQuiet : List (Option Slot) → Type 0
AreQuiet slots = (j : ℕ) (s : Slot) → slot_at slots j ≡ Some s → s.knote.count ≡ 0

-- one event more is told of the list before than of that after, this one, and the same stays
pub record TellsOne (before : List Knote) (e : Event) (after : List Knote) : Type 0 where
  pub told : (n : ℕ) → events_in (n + 1) before ≡ e ∷ events_in n after
  pub left : (n : ℕ) → left_in (n + 1) before ≡ left_in n after

-- the list has no event to tell
pub record HasNoEvent (ks : List Knote) : Type 0 where
  pub told : (n : ℕ) → events_in n ks ≡ []
  pub left : (n : ℕ) → left_in n ks ≡ ks
