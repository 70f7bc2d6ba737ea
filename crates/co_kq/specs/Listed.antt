-- Where the knotes of slots stand by their idents.
use Rattle.std.specs.Prelude.{◌≡◌, ℕ, ◌≤◌, Bool, true, false, List, length, Option, Some, None, nat_lt, if◌then◌else◌}
use Rattle.std.specs.List.{count_by}
use Rattle.slab.specs.Slab.{Slab, slab_len}
use Rattle.co_kq.specs.declared.knote.Knote.{Knote}
use Rattle.co_kq.specs.declared.knote.Slot.{Slot}
use Rattle.co_kq.specs.declared.index.Keyed.{Keyed}
use Rattle.co_kq.specs.Index.{IndexView, key_of}
use Rattle.co_kq.specs.Slots.{slot_at}

-- every knote
abbrev pub is_any : Knote → Bool
is_any k = true

-- a knote with expirations
abbrev pub is_ready : Knote → Bool
is_ready k = nat_lt 0 k.count

abbrev pub passes : (Knote → Bool) → Option Slot → Bool
passes test None = false
passes test (Some s) = test s.knote

-- a knote of this ident that passes a test stands at this key
pub record IsListedAt (test : Knote → Bool) (slots : List (Option Slot)) (key ident : ℕ) : Type 0 where
  pub slot : Slot
  pub there : slot_at slots key ≡ Some slot
  pub ident_is : slot.knote.ident ≡ ident
  pub passing : test slot.knote ≡ true

-- an index has the keys of the knotes that pass a test, and no others
pub record AreIndexed (test : Knote → Bool) (slots : List (Option Slot)) (entries : List Keyed) : Type 0 where
  pub whole : (key : ℕ) (s : Slot) → slot_at slots key ≡ Some s → test s.knote ≡ true → key_of s.knote.ident entries ≡ Some key
  pub sound : (ident key : ℕ) → key_of ident entries ≡ Some key → IsListedAt test slots key ident
  pub many : length entries ≡ count_by (passes test) slots

-- the key of a slot's knote where it passes a test
abbrev pub listed_key : (Knote → Bool) → ℕ → Option Slot → Option ℕ
listed_key test key o = if passes test o then Some key else None

-- the knotes of a slab are in the one index, those with expirations in the other, and both have room for as many as the slab
pub record AreListed (knotes : Slab Slot) (order ready : IndexView) : Type 0 where
  pub order_is : AreIndexed is_any knotes.slots order.entries
  pub ready_is : AreIndexed is_ready knotes.slots ready.entries
  pub fits : slab_len knotes ≤ knotes.capacity
  pub order_room : knotes.capacity ≤ order.room
  pub ready_room : knotes.capacity ≤ ready.room
