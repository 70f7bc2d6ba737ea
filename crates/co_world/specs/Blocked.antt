-- When an actor's next step has to wait, and for what.
use Rattle.std.specs.Prelude.{ℕ, Bool, false, ◌==◌, ◌&&◌, ◌||◌, nat_lt, if◌then◌else◌, Option, Some, None}
use Rattle.std.specs.List.{list_any}
use Rattle.co_object.specs.declared.Op.TheVariants.{Call, Run}
use Rattle.co_object.specs.Drain.{serviced}
use Rattle.co_lock.specs.declared.Held.{Held}
use Rattle.co_program.specs.declared.Script.{Script}
use Rattle.co_program.specs.Stages.{Stage, Waiting}
use Rattle.co_program.specs.Cursor.{Cursor}
use Rattle.co_program.specs.declared.PendingInsert.{PendingInsert}
use Rattle.co_program.specs.Action.{Action, Nothing, Silent, Take, Asks, action_for, scans_first}
use Rattle.co_program.specs.declared.Asked.TheVariants.{Callout, Queue, Itself}
use Rattle.co_world.specs.declared.turn.Why.{Why}
use Rattle.co_world.specs.declared.turn.Why.TheVariants.{Lock, Moving, Serviced, Tick}
use Rattle.co_program.specs.Follows.{scan_count}
use Rattle.co_world.specs.World.{World}
use Rattle.co_program.specs.Actors.{all_actors}

-- the two may not hold at once
abbrev pub holds_exclude : Held → Held → Bool
holds_exclude x y = x.id == y.id && (x.exclusive || y.exclusive)

abbrev pub is_excluded_by : Held → Option Held → Bool
is_excluded_by held None = false
is_excluded_by held (Some other) = holds_exclude held other

-- an actor holds the lock in an excluding mode
abbrev pub is_locked : Script → World → Held → Bool
is_locked s w held = list_any (λ a. is_excluded_by held (w.actors a).cursor.hold) (all_actors s)

abbrev pub moves : ℕ → Option PendingInsert → Bool
moves i None = false
moves i (Some p) = p.i == i

-- an actor is moving the callout
abbrev pub is_moving : Script → World → ℕ → Bool
is_moving s w i = list_any (λ a. moves i (w.actors a).cursor.parcel) (all_actors s)

abbrev pub is_service_of : ℕ → Option ℕ → Bool
is_service_of n None = false
is_service_of n (Some m) = m == n

-- the drain's last Wait named an arming that a service still has
abbrev pub is_waiting : World → ℕ → Stage → Bool
is_waiting w i (Waiting n took) = is_service_of n (serviced (w.timers i).state.run)
is_waiting w i stage = false

abbrev pub waits_for : Script → World → Cursor → Action → Option Why
waits_for s w c Nothing = None
waits_for s w c (Silent to) = None
waits_for s w c (Take held to) = if is_locked s w held then Some (Lock held.id) else None
waits_for s w c (Asks act (Callout i (Call op))) =
    if is_moving s w i then Some (Moving i)
    else if is_waiting w i c.stage then Some (Serviced i)
    else None
waits_for s w c (Asks act (Callout i (Run op))) = None
waits_for s w c (Asks act (Queue cpu op)) = if nat_lt (scan_count (w.cpus cpu).journal) (scans_first c) then Some (Tick cpu) else None
waits_for s w c (Asks act (Itself kind)) = None

abbrev pub blocked : Script → World → ℕ → Option Why
blocked s w a = let c = (w.actors a).cursor in waits_for s w c (action_for s a c)
