-- What a section of a wheel does to the callouts and to the queue, each as one statement on the CPU before and after it.
use Rattle.std.specs.Prelude.{◌≡◌, ◌<◌, ℕ, Bool, true, false, [], ◌∷◌, ◌++◌, is_some, length}
use Rattle.std.specs.declared.option.Option.{Option}
use Rattle.std.specs.declared.option.Option.TheVariants.{Some}
use Rattle.co_object.specs.declared.op.CallOp.{CallOp}
use Rattle.co_object.specs.declared.queue.QOp.TheVariants.{Insert}
use Rattle.co_object.specs.declared.queue.QReply.TheVariants.{At, Freed}
use Rattle.co_object.specs.Group.{off_of}
use Rattle.co_object.specs.Scan.{is_direct}
use Rattle.co_wheel.specs.declared.outs.CallOut.{CallOut}
use Rattle.co_wheel.specs.declared.outs.NextOut.{NextOut}
use Rattle.co_wheel.specs.declared.outs.EndOut.{EndOut}
use Rattle.co_wheel.specs.Agreed.{IsWheelBut}
use Rattle.co_wheel.specs.Call.{call_at, sent_away}
use Rattle.co_wheel.specs.Callouts.{callout, is_here, is_listed, with_callout, IsArmedWith}
use Rattle.co_wheel.specs.Cpu.{Cpu}
use Rattle.co_wheel.specs.Next.{IsPicked, popping}
use Rattle.co_wheel.specs.Parcel.{Parcel}
use Rattle.co_wheel.specs.Service.{end_here}
use Rattle.co_wheel.specs.Turns.{Turns, removal, insertion, lists, free_of}

-- callout i answers an operation
pub record IsCall (before after : Cpu) (i : ℕ) (op : CallOp) (out : CallOut) : Type 0 where
  -- it answers by its own rule, and leaves where it is armed at another CPU with no service here
  pub callouts : Some (after.callouts, out.reply, out.leaves) ≡ call_at before.callouts i op
  -- what was listed is taken out of the queue
  pub removed : out.removed ≡ is_some (off_of out.reply)
  -- an accepted arming that is listed here stands in the queue
  pub inserted : is_some out.inserted ≡ lists after.callouts i out.reply
  pub queue : Turns before (removal i (off_of out.reply) ++ insertion i (callout after.callouts i) out.inserted) after

-- the first callout that has come due goes into service
pub record IsNext (direct : Bool) (before after : Cpu) (out : NextOut) : Type 0 where
  pub callouts : IsPicked direct before.callouts out after.callouts
  pub queue : Turns before (popping direct out) after

-- a service is over
pub record IsEnding (direct : Bool) (before after : Cpu) (out : EndOut) : Type 0 where
  -- the callout leaves where it is armed at another CPU
  pub callouts : Some (after.callouts, out.reply, out.leaves) ≡ end_here direct before.callouts
  pub queue : Turns before ((free_of direct, Freed) ∷ []) after

-- a callout comes that is armed at this CPU, and stands in the queue at this time
pub record IsLanding (before after : Cpu) (parcel : Parcel) (at : ℕ) : Type 0 where
  pub callouts : after.callouts ≡ with_callout before.callouts parcel.i (Some parcel.callout)
  pub queue : Turns before ((Insert parcel.i parcel.arming.n parcel.arming.due, At at) ∷ []) after

-- callout i is armed with number n here, and the rest of the wheel is as it is kept
pub record MayRoute (before : Cpu) (i n : ℕ) : Type 0 where
  pub here : is_here before.callouts i ≡ true
  pub armed : IsArmedWith before.callouts i n
  pub kept : IsWheelBut i before

-- a callout that is armed enters the queue at this time, leaves, or waits for the end of its service
pub record IsRouting (before after : Cpu) (i : ℕ) (at : Option ℕ) (leaves : Option Parcel) : Type 0 where
  pub callouts : (after.callouts, leaves) ≡ sent_away before.callouts i
  pub inserted : is_some at ≡ is_listed before.callouts i
  pub queue : Turns before (insertion i (callout before.callouts i) at) after

-- a callout may come that is armed at this CPU
pub record MayLand (before : Cpu) (parcel : Parcel) : Type 0 where
  pub cpu : parcel.arming.cpu ≡ before.callouts.cpu
  pub below : parcel.i < length before.callouts.here
  pub absent : is_here before.callouts parcel.i ≡ false
  pub lane : parcel.callout.spec.direct ≡ is_direct before.timers.direct parcel.i
