-- How the slab of the knotes changes, one slot at a time.
use Rattle.std.specs.Prelude.{◌≡◌, ℕ, ◌+◌, Option, Some, None}
use Rattle.slab.specs.Slab.{Slab, Updates, slab_len}
use Rattle.co_kq.specs.declared.knote.Slot.{Slot}
use Rattle.co_kq.specs.Kevents.{put}
use Rattle.co_kq.specs.Slots.{knotes_in, AreDistinct}

-- the slot of this key is this now, and every other slot stays. So many knotes stood in it before, and so many do after: one or none
pub record IsSlotChanged (old new : Slab Slot) (key : ℕ) (slot : Option Slot) (before after : ℕ) : Type 0 where
  -- still no two slots have knotes of one ident
  pub distinct : AreDistinct new.slots
  pub updates : Updates old new key slot
  -- how many knotes there are changes by these alone
  pub len : slab_len new + before ≡ slab_len old + after
  -- there is room for as many as before
  pub capacity : new.capacity ≡ old.capacity

-- a slot's knote is put into the list, in the place of any old one of its ident. It stands at this key, where so many stood before
pub record IsKnotePut (old new : Slab Slot) (key : ℕ) (slot : Slot) (before : ℕ) : Type 0 where
  pub list : knotes_in new.slots ≡ put slot.knote (knotes_in old.slots)
  pub changed : IsSlotChanged old new key (Some slot) before 1

-- a slot whose knote's expirations were told
abbrev pub told_slot : Option Slot → Option Slot
told_slot None = None
told_slot (Some s) = Some (record s { knote = record s.knote { count = 0 } })
