-- The calls of a function, through the port of a CPU's handle.
use Rattle.std.specs.Prelude.{◌≡◌, ℕ, true, false, List, [], ◌∷◌}
use Rattle.std.specs.declared.option.Option.{Option}
use Rattle.co_hand.specs.declared.port_call.PortCall.{PortCall}
use Rattle.co_hand.specs.declared.port_call.PortReply.{PortReply}
use Rattle.co_hand.specs.declared.port_call.PortReply.TheVariants.{NotHeld, Reply as Answered}
use Rattle.co_lock.specs.declared.held.Held.{Held}
use Rattle.co_lock.specs.Covers.{covers}
use Rattle.co_object.specs.declared.op.CallOp.TheVariants.{Plain}
use Rattle.co_object.specs.declared.op.PlainOp.{PlainOp}
use Rattle.co_object.specs.declared.spec.Spec.{Spec}
use Rattle.co_desk.specs.Name.{ServiceName}
use Rattle.co_desk.specs.Params.{spec_at}
use Rattle.co_desk.specs.declared.params.Params.{Params}
use Rattle.co_timers.specs.declared.lane.Lane.{Lane}
use Rattle.co_timers.specs.Acts.{IsAct}
use Rattle.co_timers.specs.Handles.{HandleView, IsHandle}

-- an actor of a CPU as a handle
abbrev pub handle_of : Lane → HandleView
handle_of l = record { passes = l.passes; act = l.act }

-- what a call under this hold came to: it is an act, or it wasn't made, since the hold doesn't cover it, and nothing has changed
abbrev pub CameTo : HandleView → Option Held → ℕ → PlainOp → PortReply → HandleView → Type 0
CameTo p hold i op NotHeld q = (covers hold (spec_at p.passes.params i) (Plain op) ≡ false) × (q ≡ p)
CameTo p hold i op (Answered reply) q = (covers hold (spec_at p.passes.params i) (Plain op) ≡ true) × IsAct p i (Plain op) reply q

-- a call of a function
pub record IsPortCall (p : HandleView) (call : PortCall) (q : HandleView) : Type 0 where
  pub hold : Option Held
  pub came : CameTo p hold call.i call.op call.answer q

-- calls of a function, one after the other
abbrev pub AreCalls : HandleView → List PortCall → HandleView → Type 0
AreCalls p [] q = q ≡ p
AreCalls p (call ∷ calls) q = (between : HandleView) × IsPortCall p call between × AreCalls between calls q

-- a port as contracts see it
pub record PortView : Type 0 where
  pub specs : List Spec
  pub cpus : ℕ
  -- where its actor was when the function began
  pub start : HandleView
  -- the calls since then
  pub calls : List PortCall
  -- where it is now
  pub here : HandleView
  -- how many calls the handler makes for the function, at most
  pub most : ℕ

-- a port of an actor of this service
pub record IsPort (name : ServiceName) (params : Params) (start : HandleView) (calls : List PortCall) (here : HandleView) : Type 0 where
  pub handle : IsHandle name params here.passes
  pub made : AreCalls start calls here
