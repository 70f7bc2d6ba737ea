-- What a slot's service of a record's callout does, by the callout's own rule: none where it is not possible.
use Rattle.std.specs.Prelude.{ℕ, ◌-◌}
use Rattle.std.specs.declared.option.Option.{Option}
use Rattle.co_object.specs.declared.reply.Reply.{Reply}
use Rattle.co_object.specs.declared.state.State.{State}
use Rattle.co_object.specs.Serve.{pick, begin, end}
use Rattle.co_record.specs.declared.record.Record.{Record}
use Rattle.co_record.specs.declared.slot.Slot.{Slot}
use Rattle.co_record.specs.Standing.{state_of, number}

-- the record's last arming is taken into service
abbrev pub pick_by : Record → Slot → ℕ → Option (State × Reply)
pick_by rec slot at = pick rec.spec (state_of rec slot) (rec.made - 1) slot.cpu at

-- the lock of the callout in service is held
abbrev pub begin_by : Record → Slot → Option (State × Reply)
begin_by rec slot = begin (state_of rec slot) (number slot) slot.cpu

-- the service is over
abbrev pub end_by : Record → Slot → Option (State × Reply)
end_by rec slot = end (state_of rec slot) (number slot) slot.cpu
