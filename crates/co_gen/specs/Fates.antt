-- The fates that a callout's entries decide, as their replies tell them. At most one arming is to fire at a time, so an entry
-- decides at most one fate; and in a legal history each reply is the callout's own, and tells what was armed, picked, run or
-- cancelled. But a stop or a drain may answer alike whether or not an arming waits for the end of a service on another CPU. So
-- one value goes along with the replies: whether an arming is to fire, and whether it is armed or was picked. No more of the
-- callout's state is needed: which arming it is, and what the service has, decide nothing that the reply does not tell.
use Rattle.std.specs.Prelude.{◌+◌, Bool, true, false, not, ◌&&◌, ◌||◌, List, [], ◌∷◌, ◌++◌, if◌then◌else◌}
use Rattle.std.specs.List.{fold}
use Rattle.co_object.specs.declared.Op.{Op}
use Rattle.co_object.specs.declared.Reply.{Reply}
use Rattle.co_object.specs.declared.Reply.TheVariants as reply
use Rattle.co_object.specs.declared.Entry.{Entry}
use Rattle.co_object.specs.Entries.{is_armed, is_stop}
use Rattle.co_object.specs.Fate.{Fate, Pending, Fired, Superseded, Stopped, fate_by}
use Rattle.co_gen.specs.declared.counts.Counts.{Counts}
use Rattle.co_gen.specs.declared.fates.ToFire.{ToFire}
use Rattle.co_gen.specs.declared.fates.ToFire.TheVariants.{Nothing, Armed, Picked}

-- an arming is to fire yet
abbrev pub is_to_fire : ToFire → Bool
is_to_fire Nothing = false
is_to_fire Armed = true
is_to_fire Picked = true

-- an armed one is taken away; one that was picked waits for the lock as before
abbrev pub disarmed : ToFire → ToFire
disarmed Nothing = Nothing
disarmed Armed = Nothing
disarmed Picked = Picked

-- one that was picked is cancelled; an armed one stays
abbrev pub cancelled : ToFire → ToFire
cancelled Nothing = Nothing
cancelled Armed = Armed
cancelled Picked = Nothing

-- what is to fire after an operation with this reply. A reset that a drain refuses cancels what was picked, and a stop leaves
-- nothing; a drain of either kind takes away what is armed alone. Any other reply leaves it as it is.
abbrev pub to_fire_after : ToFire → Op → Reply → ToFire
to_fire_after x op (reply.Armed code n cpu off) = Armed
to_fire_after x op (reply.NotArmed code) = cancelled x
to_fire_after x op reply.Hold = Picked
to_fire_after x op (reply.Go func arg) = Nothing
to_fire_after x op (reply.Stopped code off) = if is_stop op then Nothing else disarmed x
to_fire_after x op (reply.Wait n took off) = disarmed x
to_fire_after x op (reply.Drained code off) = disarmed x
to_fire_after x op _ = x

-- the operation decides the fate of the arming that was to fire: none is to fire now, or a new one
abbrev pub decides : ToFire → Op → Reply → Bool
decides x op r = is_to_fire x && (is_armed r || not (is_to_fire (to_fire_after x op r)))

-- what is to fire after these entries
abbrev pub to_fire_after_all : ToFire → List Entry → ToFire
to_fire_after_all x es = fold (λ y e. to_fire_after y e.op e.reply) x es

-- the fate that an entry decides, and those of a history in their order
abbrev pub fate_told : ToFire → Entry → List Fate
fate_told x e = if decides x e.op e.reply then fate_by e.op ∷ [] else []

abbrev pub fates_told : ToFire → List Entry → List Fate
fates_told x [] = []
fates_told x (e ∷ es) = fate_told x e ++ fates_told (to_fire_after x e.op e.reply) es

-- one more arming of this fate
abbrev pub fate_counted : Counts → Fate → Counts
fate_counted c Pending = record c { pending = c.pending + 1 }
fate_counted c Fired = record c { fired = c.fired + 1 }
fate_counted c Superseded = record c { superseded = c.superseded + 1 }
fate_counted c Stopped = record c { stopped = c.stopped + 1 }

-- one more accepted arming
abbrev pub accepted : Counts → Reply → Counts
accepted c r = if is_armed r then record c { armed = c.armed + 1 } else c

abbrev pub counted_if : Bool → Counts → Fate → Counts
counted_if b c fate = if b then fate_counted c fate else c

-- after an entry: what it accepts and the fate that it decides
abbrev pub after_entry : Counts → ToFire → Entry → Counts
after_entry c x e = counted_if (decides x e.op e.reply) (accepted c e.reply) (fate_by e.op)
