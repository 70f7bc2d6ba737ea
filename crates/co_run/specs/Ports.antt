-- A port over a running service.
use Rattle.std.specs.Prelude.{◌≡◌, ℕ, ◌≤◌, List, []}
use Rattle.co_hand.specs.declared.port_call.PortCall.{PortCall}
use Rattle.co_object.specs.declared.spec.Spec.{Spec}
use Rattle.co_desk.specs.declared.params.Params.{Params}
use Rattle.co_service.specs.Kept.{Keeps}
use Rattle.co_desk.specs.Name.{ServiceName}
use Rattle.co_desk.specs.Views.{AreOf, PassesView}
use Rattle.co_run.specs.PortCalls.{AreCalls, CallerView}
use Rattle.co_run.specs.declared.port.PortOrigin.{PortOrigin}

-- a port as contracts see it
pub record ServicePortView : Type 0 where
  -- the parameters of its service
  pub service : Params
  -- with what it was made
  pub origin : PortOrigin
  -- the calls since then, in order
  pub calls : List PortCall
  -- how many more it can take
  pub room : ℕ

-- who makes a port's calls, before the first
abbrev pub caller_of : PortOrigin → CallerView
caller_of origin = record { passes = origin.passes.value; act = origin.act }

-- a port of an actor of this service, which is here
pub record IsServicePort (name : ServiceName) (service : Params) (specs : List Spec) (origin : PortOrigin) (calls : List PortCall) (here : CallerView) (room spare : ℕ) : Type 0 where
  pub known : specs ≡ service.specs
  pub roomy : room ≤ spare
  pub of : AreOf name service origin.passes.value
  pub kept : Keeps name service origin.passes.value here.passes
  pub made : AreCalls (caller_of origin) calls here

-- the actor's passes after a port's calls
pub record HaveMade (name : ServiceName) (origin : PortOrigin) (calls : List PortCall) (q : PassesView) : Type 0 where
  -- the service has made each call that its hold covered, with the answer that the port gave, and no other
  pub act : ℕ
  pub made : AreCalls (caller_of origin) calls (record { passes = q; act = act })
  -- they are of the service still, and of the actor, which has in service what it had
  pub kept : Keeps name origin.passes.value.params origin.passes.value q

-- a port that was just made over a service of these parameters, by an actor that has these passes
pub record IsNewPort (service : Params) (passes : PassesView) (act room : ℕ) (port : ServicePortView) : Type 0 where
  pub service_is : port.service ≡ service
  -- who makes its calls, and with which act the first comes
  pub caller_is : caller_of port.origin ≡ record { passes = passes; act = act }
  pub actor_is : port.origin.actor ≡ passes.actor
  -- it has made none
  pub none_made : port.calls ≡ []
  -- and has room for so many
  pub room_is : port.room ≡ room
