-- An arming that waits for the end of a service on another CPU, by the five fields that a slot has of it.
use Rattle.std.specs.declared.option.Option.{Option}
use Rattle.std.specs.declared.option.Option.TheVariants.{Some, None}
use Rattle.co_object.specs.declared.state.Arming.{Arming}
use Rattle.co_object.specs.declared.state.State.{State}
use Rattle.co_object.specs.Stand.{Stand, Nowhere, Listed, Deferred, stand}
use Rattle.co_record.specs.declared.slot.DeferredArming.{DeferredArming}

-- an arming's time, precision, function, argument and CPU
abbrev pub move_of : Arming → DeferredArming
move_of a = record { time = a.due; prec = a.prec; func = a.func; arg = a.arg; cpu = a.cpu }

abbrev pub deferred_at : Stand → Option Arming → Option DeferredArming
deferred_at Nowhere armed = None
deferred_at (Listed cpu) armed = None
deferred_at (Deferred cpu) None = None
deferred_at (Deferred cpu) (Some a) = Some (move_of a)

-- the deferred arming of this state, where there is one
abbrev pub deferred_of : State → Option DeferredArming
deferred_of s = deferred_at (stand s) s.armed
