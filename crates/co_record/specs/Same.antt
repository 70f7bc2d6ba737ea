-- What an operation on a callout leaves as it was.
use Rattle.std.specs.Prelude.{◌≡◌, false}
use Rattle.co_record.specs.declared.record.Record.{Record}
use Rattle.co_record.specs.declared.slot.Slot.{Slot}
use Rattle.co_record.specs.Standing.{holds}
use Rattle.co_record.specs.Paired.{IsPaired}

-- the record is still this callout's and the slot this CPU's
pub record SameCallout (rec : Record) (slot : Slot) (rec' : Record) (slot' : Slot) : Type 0 where
  pub number : rec'.i ≡ rec.i
  pub spec : rec'.spec ≡ rec.spec
  pub cpu : slot'.cpu ≡ slot.cpu
  -- they still agree
  pub paired : IsPaired rec' slot'

-- no service begins or ends
pub record SameService (rec : Record) (slot : Slot) (rec' : Record) (slot' : Slot) : Type 0 where
  pub callout : SameCallout rec slot rec' slot'
  pub current : slot'.current ≡ slot.current
  -- a slot that has not this callout in service stays as it is
  pub unheld : holds slot rec.i ≡ false → slot' ≡ slot
