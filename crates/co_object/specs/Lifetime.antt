-- The lifetime of a callout: init and retire.
use Rattle.std.specs.Prelude.{true, false, ◌||◌, not, is_some, if◌then◌else◌}
use Rattle.std.specs.declared.option.Option.TheVariants.{None}
use Rattle.co_object.specs.declared.state.State.{State}
use Rattle.co_object.specs.declared.reply.Reply.{Reply}
use Rattle.co_object.specs.declared.reply.Reply.TheVariants.{Done, InUse}
use Rattle.co_object.specs.Stand.{is_idle}

-- a callout at rest goes out of use
abbrev pub retire : State → State × Reply
retire s =
    if is_some s.armed || not (is_idle s.run) then (s, InUse (is_some s.armed) (not (is_idle s.run)))
    else (record s { live = false }, Done)

-- a retired callout is as when it was made, but that its armings' numbers go on
abbrev pub init : State → State × Reply
init s = (record s { live = true; active = false; last = None; home = 0 }, Done)
