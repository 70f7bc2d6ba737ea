-- A callout that stands at a CPU and is not moving is at its wheel, and what the wheel answers to a call of it.
use Rattle.std.proofs.Common.{◌≡◌, ℕ, ◌<◌, Bool, true, false, cond, not, length, ap, ◌∙◌, Option, Some, None, eq-eqb}
use Rattle.std.specs.Prelude.{◌&&◌, is_some}
use Rattle.co_object.specs.declared.alone.Alone.{Alone}
use Rattle.co_object.specs.declared.State.{State}
use Rattle.co_object.specs.declared.CallOp.{CallOp}
use Rattle.co_object.specs.declared.Reply.{Reply}
use Rattle.co_object.specs.Callout.{call}
use Rattle.co_program.specs.declared.script.Script.{Script}
use Rattle.co_wheel.specs.Call.{is_away, call_at, call_it}
use Rattle.co_wheel.specs.Callouts.{Callouts, callout, is_here, with_callout}
use Rattle.co_wheel.specs.Cpu.{Cpu as WheelOf}
use Rattle.co_wheel.specs.Parcel.{Parcel, parcel}
use Rattle.co_world.specs.World.{World}
use Rattle.co_world.specs.Blocked.{is_moving}
use Rattle.co_core.specs.Stored.{Stored, wheel_at}
use Rattle.co_core.specs.Stands.{ShowsStored, alone_in, at_home}
use Rattle.co_core.proofs.tables.Values.{read}
use Rattle.co_world.proofs.sections.Ways.{stands_of}
use Rattle.co_core.proofs.tables.Options.{some_is}

module _ (s : Script) (x : Stored) (w : World) (stored : ShowsStored s x w) (i cpu : ℕ) (known : i < length s.timers) (on : cpu < s.cpus) where
  -- a callout that stands here and is not moving is at the wheel
  pub at_wheel : stands_of w i ≡ cpu → is_moving s w i ≡ false → callout (wheel_at x cpu).callouts i ≡ Some (alone_in s w i)
  at_wheel stand still =
      read (wheel_at x cpu).callouts.here (length s.timers) (at_home s w cpu) i None (stored.each_wheel cpu on).here known
      ∙ ap (λ (b : Bool). cond (b && not (is_moving s w i)) (Some (alone_in s w i)) None) (eq-eqb (stands_of w i) cpu stand) ∙ ap (λ (m : Bool). cond (not m) (Some (alone_in s w i)) None) still

  pub is_at_wheel : stands_of w i ≡ cpu → is_moving s w i ≡ false → is_here (wheel_at x cpu).callouts i ≡ true
  is_at_wheel stand still = ap is_some (at_wheel stand still)

module _ (before : WheelOf) (i : ℕ) (op : CallOp) (a : Alone) (there : callout before.callouts i ≡ Some a) where
  abbrev t : State
  t = (call a.state op).0

  abbrev r : Reply
  r = (call a.state op).1

  abbrev now : Alone
  now = record a { state = t }

  pub record IsAnswer (b : Bool) (callouts : Callouts) (reply : Reply) (out : Option Parcel) : Type 0 where
    pub callouts_are : callouts ≡ with_callout before.callouts i (cond b None (Some now))
    pub reply_is : reply ≡ r
    pub out_is : out ≡ cond b (parcel i now) None

  pub answer_by : (b : Bool) (callouts : Callouts) (reply : Reply) (out : Option Parcel) → is_away before.callouts.cpu r t ≡ b → Some (callouts, reply, out) ≡ call_at before.callouts i op → IsAnswer b callouts reply out
  answer_by b callouts reply out is answers = go b (some_is (callouts, reply, out) (outcome b) (answers ∙ ap (call_it before.callouts i op) there ∙ ap (λ (y : Bool). Some (outcome y)) is)) where
    outcome : Bool → Callouts × Reply × Option Parcel
    outcome y = cond y (with_callout before.callouts i None, r, parcel i now) (with_callout before.callouts i (Some now), r, None)

    go : (b : Bool) → (callouts, reply, out) ≡ outcome b → IsAnswer b callouts reply out
    go true e = record { callouts_are = ap (λ (p : Callouts × Reply × Option Parcel). p.0) e; reply_is = ap (λ (p : Callouts × Reply × Option Parcel). p.1) e; out_is = ap (λ (p : Callouts × Reply × Option Parcel). p.2) e }
    go false e = record { callouts_are = ap (λ (p : Callouts × Reply × Option Parcel). p.0) e; reply_is = ap (λ (p : Callouts × Reply × Option Parcel). p.1) e; out_is = ap (λ (p : Callouts × Reply × Option Parcel). p.2) e }
