-- The callout alone: how each operation is answered, and the state that it leaves.
use Rattle.std.specs.Prelude.{ℕ, true, false, if◌then◌else◌}
use Rattle.std.specs.declared.option.Option.{Option}
use Rattle.std.specs.declared.option.Option.TheVariants.{Some, None}
use Rattle.co_object.specs.declared.spec.Spec.{Spec}
use Rattle.co_object.specs.declared.state.Run.TheVariants.{Idle}
use Rattle.co_object.specs.declared.state.State.{State}
use Rattle.co_object.specs.declared.op.PlainOp.{PlainOp}
use Rattle.co_object.specs.declared.op.PlainOp.TheVariants.{Reset, Schedule, Stop, AsyncDrain, Active, Pending, Deactivate, Init, Retire}
use Rattle.co_object.specs.declared.op.CallOp.{CallOp}
use Rattle.co_object.specs.declared.op.CallOp.TheVariants.{Plain, DrainTry}
use Rattle.co_object.specs.declared.op.RunOp.{RunOp}
use Rattle.co_object.specs.declared.op.RunOp.TheVariants.{Pick, Begin, End}
use Rattle.co_object.specs.declared.op.Op.{Op}
use Rattle.co_object.specs.declared.op.Op.TheVariants.{Call, Run}
use Rattle.co_object.specs.declared.reply.Reply.{Reply}
use Rattle.co_object.specs.declared.reply.Reply.TheVariants.{Live, Retired}
use Rattle.co_object.specs.Arm.{reset, schedule}
use Rattle.co_object.specs.Stop.{stop}
use Rattle.co_object.specs.Drain.{drain_try, async_drain}
use Rattle.co_object.specs.Query.{is_active, is_pending, deactivate}
use Rattle.co_object.specs.Lifetime.{retire, init}
use Rattle.co_object.specs.Serve.{pick, begin, end}

-- a callout as it is made, with this number of armings made before
abbrev pub opening : ℕ → State
opening made = record {
  live = true;
  armed = None;
  run = Idle;
  active = false;
  waiting = false;
  adrain = None;
  last = None;
  home = 0;
  made = made;
}

-- a caller's operation on a live callout
abbrev pub live_call : State → PlainOp → State × Reply
live_call s (Reset due prec func arg cpu) = reset s due prec func arg cpu
live_call s (Schedule due prec cpu) = schedule s due prec cpu
live_call s Stop = stop s
live_call s (AsyncDrain func) = async_drain s func
live_call s Active = is_active s
live_call s Pending = is_pending s
live_call s Deactivate = deactivate s
live_call s Init = (s, Live)
live_call s Retire = retire s

-- a caller's operation on a retired callout
abbrev pub retired_call : State → PlainOp → State × Reply
retired_call s Init = init s
retired_call s _ = (s, Retired)

-- a caller's operation: possible in every state
abbrev pub call : State → CallOp → State × Reply
call s (Plain op) = if s.live then live_call s op else retired_call s op
call s (DrainTry took) = drain_try s took

-- an operation of the service: none where it is not possible
abbrev pub serve : Spec → State → RunOp → Option (State × Reply)
serve spec s (Pick n cpu at) = pick spec s n cpu at
serve spec s (Begin n cpu) = begin s n cpu
serve spec s (End n cpu) = end s n cpu

-- the state after an operation and the reply to it, or none where it is not possible
abbrev pub step : Spec → State → Op → Option (State × Reply)
step spec s (Call op) = Some (call s op)
step spec s (Run op) = serve spec s op
