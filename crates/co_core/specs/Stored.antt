-- Where the callouts' records are, and what each section does with them.
use Rattle.std.specs.Prelude.{◌≡◌, ℕ, ◌<◌, ◌||◌, Bool, false, List, [], ◌∷◌, ◌++◌, length, get_or, set, is_some}
use Rattle.std.specs.declared.option.Option.{Option}
use Rattle.std.specs.declared.option.Option.TheVariants.{Some, None}
use Rattle.co_object.specs.declared.op.CallOp.{CallOp}
use Rattle.co_object.specs.declared.reply.Reply.{Reply}
use Rattle.co_object.specs.declared.queue.QOp.TheVariants.{Insert, Scan}
use Rattle.co_object.specs.declared.queue.QReply.TheVariants.{At, Count, Freed}
use Rattle.co_object.specs.Group.{off_of}
use Rattle.co_object.specs.Scan.{is_direct}
use Rattle.co_queue.specs.Timers.{empty_timers}
use Rattle.co_wheel.specs.declared.outs.NextOut.{NextOut}
use Rattle.co_wheel.specs.Callouts.{callout, is_here, with_callout, empty_callouts}
use Rattle.co_wheel.specs.Call.{call_at}
use Rattle.co_wheel.specs.Cpu.{Cpu, cpu_of}
use Rattle.co_wheel.specs.Next.{IsPicked, popping}
use Rattle.co_wheel.specs.Parcel.{Parcel}
use Rattle.co_wheel.specs.Service.{begin_here, end_here}
use Rattle.co_wheel.specs.Turns.{Turns, removal, insertion, lists, free_of}

pub record Stored : Type 0 where
  -- by CPU: its wheel
  pub wheels : List Cpu
  -- by callout: the CPU where its record stands, or which it is leaving
  pub stands : List ℕ
  -- by actor: the record that it is moving
  pub bags : List (Option Parcel)

abbrev pub no_wheel : Cpu
no_wheel = cpu_of (empty_callouts 0 0) (empty_timers 0 0 [])

abbrev pub wheel_at : Stored → ℕ → Cpu
wheel_at x cpu = get_or x.wheels cpu no_wheel

-- the CPU where callout i's record stands
abbrev pub stand_at : Stored → ℕ → ℕ
stand_at x i = get_or x.stands i 0

-- the record that an actor is moving
abbrev pub bag_at : Stored → ℕ → Option Parcel
bag_at x a = get_or x.bags a None

abbrev pub with_wheel : Stored → ℕ → Cpu → Stored
with_wheel x cpu wheel = record x { wheels = set x.wheels cpu wheel }

abbrev pub with_bag : Stored → ℕ → Option Parcel → Stored
with_bag x a bag = record x { bags = set x.bags a bag }

abbrev pub with_stand : Stored → ℕ → ℕ → Stored
with_stand x i cpu = record x { stands = set x.stands i cpu }

-- what a section at this CPU's wheel has leave it may go with the actor
pub record MayCarry (x : Stored) (a at : ℕ) : Type 0 where
  -- there is such a wheel
  pub cpu : at < length x.wheels
  -- the actor has a bag
  pub actor : a < length x.bags
  -- and is moving nothing
  pub empty : bag_at x a ≡ None

-- what an actor moves may land at this CPU
pub record MayLand (x : Stored) (a at : ℕ) : Type 0 where
  pub parcel : Parcel
  pub carried : bag_at x a ≡ Some parcel
  pub cpu : parcel.arming.cpu ≡ (wheel_at x at).callouts.cpu
  pub below : parcel.i < length (wheel_at x at).callouts.here
  pub known : parcel.i < length x.stands
  pub absent : is_here (wheel_at x at).callouts parcel.i ≡ false
  pub lane : parcel.callout.spec.direct ≡ is_direct (wheel_at x at).timers.direct parcel.i

-- ---- the sections of a CPU's wheel

-- a call
pub record IsCalled (before : Cpu) (i : ℕ) (op : CallOp) (reply : Reply) (gone listed : Bool) (at : Option ℕ) (leaves : Option Parcel) (after : Cpu) : Type 0 where
  pub callouts : Some (after.callouts, reply, leaves) ≡ call_at before.callouts i op
  pub removed : gone ≡ is_some (off_of reply)
  pub inserted : is_some at ≡ lists after.callouts i reply
  pub is_listed : listed ≡ (is_some at || is_some leaves)
  pub queue : Turns before (removal i (off_of reply) ++ insertion i (callout after.callouts i) at) after

pub record IsBegun (before : Cpu) (reply : Reply) (after : Cpu) : Type 0 where
  pub callouts : Some (after.callouts, reply) ≡ begin_here before.callouts
  pub queue : after.timers ≡ before.timers

pub record IsEnded (direct : Bool) (before : Cpu) (reply : Reply) (leaves : Option Parcel) (after : Cpu) : Type 0 where
  pub callouts : Some (after.callouts, reply, leaves) ≡ end_here direct before.callouts
  pub queue : Turns before ((free_of direct, Freed) ∷ []) after

pub record IsNext (direct : Bool) (before : Cpu) (out : NextOut) (after : Cpu) : Type 0 where
  pub callouts : IsPicked direct before.callouts out after.callouts
  pub queue : Turns before (popping direct out) after

pub record IsScanned (before : Cpu) (now count : ℕ) (after : Cpu) : Type 0 where
  pub callouts : after.callouts ≡ before.callouts
  pub queue : Turns before ((Scan now, Count count) ∷ []) after

pub record IsLanded (before : Cpu) (parcel : Parcel) (at : ℕ) (after : Cpu) : Type 0 where
  pub callouts : after.callouts ≡ with_callout before.callouts parcel.i (Some parcel.callout)
  pub queue : Turns before ((Insert parcel.i parcel.arming.n parcel.arming.due, At at) ∷ []) after
