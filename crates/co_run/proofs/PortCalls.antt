-- The calls that are made through a port, with one more.
use Rattle.std.proofs.Common.{ℕ, ◌≤◌, List, [], ◌∷◌, ◌++◌, refl, ◌∙◌, subst}
use Rattle.co_hand.specs.declared.port_call.PortCall.{PortCall}
use Rattle.co_object.specs.declared.spec.Spec.{Spec}
use Rattle.co_desk.specs.declared.params.Params.{Params}
use Rattle.co_service.specs.Kept.{Keeps}
use Rattle.co_desk.specs.Name.{ServiceName}
use Rattle.co_desk.specs.Views.{AreOf, PassesView}
use Rattle.co_run.specs.declared.port.PortOrigin.{PortOrigin}
use Rattle.co_run.specs.PortCalls.{AreCalls, CallerView, IsPortCall}
use Rattle.co_run.specs.Ports.{IsServicePort, caller_of}

pub calls_more : (p q r : CallerView) (calls : List PortCall) (call : PortCall) → AreCalls p calls q → IsPortCall q call r → AreCalls p (calls ++ call ∷ []) r
calls_more p q r [] call are one = (r, subst (λ (x : CallerView). IsPortCall x call r) are one, refl)
calls_more p q r (c ∷ calls) call are one = (are.0, are.1, calls_more are.0 q r calls call are.2 one)

module _ (name : ServiceName) (service : Params) where
  pub keeps_same : (p : PassesView) → AreOf name service p → Keeps name service p p
  keeps_same p of = record { of = of; actor = refl; free = λ direct cpu h. h; serving = λ direct cpu d far h. h }

  pub keeps_both : (p q r : PassesView) → Keeps name service p q → Keeps name service q r → Keeps name service p r
  keeps_both p q r one other = record {
    of = other.of;
    actor = other.actor ∙ one.actor;
    free = λ direct cpu h. other.free direct cpu (one.free direct cpu h);
    serving = λ direct cpu d far h. other.serving direct cpu d far (one.serving direct cpu d far h);
  }

-- a port after one call more
pub port_after : (name : ServiceName) (service : Params) (specs : List Spec) (origin : PortOrigin) (calls : List PortCall) (here : CallerView) (room spare : ℕ) → IsServicePort name service specs origin calls here room spare
    → (call : PortCall) (next : CallerView) (less left : ℕ) → IsPortCall here call next → Keeps name service here.passes next.passes → less ≤ left → IsServicePort name service specs origin (calls ++ call ∷ []) next less left
port_after name service specs origin calls here room spare is call next less left one kept roomy = record {
  known = is.known;
  roomy = roomy;
  of = is.of;
  kept = keeps_both name service origin.passes.value here.passes next.passes is.kept kept;
  made = calls_more (caller_of origin) here next calls call is.made one;
}
