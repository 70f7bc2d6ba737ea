-- The functions of a script, and the calls of one.
use Rattle.std.specs.Prelude.{◌≡◌, ℕ, ◌<◌, ◌≤◌, List, map, length, Option, Some, None, unwrap_or}
use Rattle.std.specs.List.{AllByRecursion}
use Rattle.co_object.specs.declared.PlainOp.{PlainOp}
use Rattle.co_lock.specs.declared.held.Held.{Held}
use Rattle.co_program.specs.declared.act.Act.{Act}
use Rattle.co_program.specs.declared.act.Scene.{Scene}
use Rattle.co_program.specs.declared.script.Script.{Script}
use Rattle.co_program.specs.Actors.{acts_at}
use Rattle.co_program.specs.Calls.{plain_op}
use Rattle.co_hand.specs.declared.fire.Fire.{Fire}
use Rattle.co_hand.specs.declared.port_call.PortCall.{PortCall}
use Rattle.co_hand.specs.Ports.{PortState, after_calls, NamesCpuBelow, IsCoverAnswered}
use Rattle.co_hand.specs.Handlers.{Needs}

pub record Functions : Type 0 where
  -- ticks a second
  pub hz : ℕ
  pub callouts : ℕ
  pub cpus : ℕ
  -- the acts of each function
  pub funcs : List (List Act)

abbrev pub functions_of : Script → Functions
functions_of s = record { hz = s.hz; callouts = length s.timers; cpus = s.cpus; funcs = s.funcs }

-- the calls of a function are its acts
abbrev pub needs_of : Functions → Needs
needs_of f = record { callouts = f.callouts; cpus = f.cpus; calls = λ func. length (acts_at f.funcs func) }

-- ---- each act is a call, of a callout and a CPU that exist

abbrev pub CallExists : ℕ → ℕ → Option (ℕ × PlainOp) → Type 0
CallExists callouts cpus None = ⊥
CallExists callouts cpus (Some (i, op)) = (i < callouts) × NamesCpuBelow cpus op

abbrev pub IsCallIn : Functions → Act → Type 0
IsCallIn f act = (at : Scene) → at.here < f.cpus → at.me < f.callouts → CallExists f.callouts f.cpus (plain_op act f.hz at)

pub record AreSound (f : Functions) : Type 0 where
  pub hz : (1 ≤ f.hz) × (f.hz ≤ 1000000)
  pub calls : (func : ℕ) → AllByRecursion (IsCallIn f) (acts_at f.funcs func)

-- ---- the calls of acts

-- in a function it is the time of the service's scan, on its CPU, about its callout
abbrev pub scene_of : Fire → Scene
scene_of fire = record { time = fire.at; here = fire.cpu; me = fire.i }

-- the port after a call for each of these acts, in order, under this hold
pub record Makes {Origin : Type 0} (hz : ℕ) (at : Scene) (acts : List Act) (hold : Option Held) (old new : PortState Origin) : Type 0 where
  pub calls : List PortCall
  pub asked : map (λ call. Some (call.i, call.op)) calls ≡ map (λ act. plain_op act hz at) acts
  pub answered : AllByRecursion (IsCoverAnswered old.specs hold) calls
  pub after : new ≡ after_calls old calls

-- the port after the acts of this function, each once
abbrev pub Runs : {Origin : Type 0} → Functions → Fire → ℕ → Option Held → PortState Origin → PortState Origin → Type 0
Runs f fire func hold old new = Makes f.hz (scene_of fire) (acts_at f.funcs func) hold old new

-- what it is to run a function of a script, that of the service or of a drain: the calls are what its acts ask for, in order and each
-- once, and the functions stay the same
pub record HasMadeActs (f : Functions) (fire : Fire) (drain : Option ℕ) (hold : Option Held) (calls : List PortCall) (g : Functions) : Type 0 where
  pub asked : map (λ call. Some (call.i, call.op)) calls ≡ map (λ act. plain_op act f.hz (scene_of fire)) (acts_at f.funcs (unwrap_or drain fire.func))
  pub same : g ≡ f
