-- A CPU's handle, and its turns.
use Rattle.std.specs.Prelude.{◌≡◌, ◌<◌, ℕ, true, false, List, []}
use Rattle.std.specs.declared.option.Option.{Option}
use Rattle.std.specs.declared.option.Option.TheVariants.{Some, None}
use Rattle.co_hand.specs.declared.fire.Fire.{Fire}
use Rattle.co_hand.specs.declared.port_call.PortCall.{PortCall}
use Rattle.co_hand.specs.Handlers.{Needs}
use Rattle.co_lock.specs.declared.held.Held.{Held}
use Rattle.co_object.specs.Actors.{cpu_actor, interrupt_actor}
use Rattle.co_desk.specs.declared.outs.Scanned.{Scanned}
use Rattle.co_desk.specs.declared.params.Params.{Params}
use Rattle.co_service.specs.Booted.{booted}
use Rattle.co_desk.specs.Name.{ServiceName}
use Rattle.co_desk.specs.Outcomes.{IsScan}
use Rattle.co_desk.specs.Params.{actors_of, no_params}
use Rattle.co_desk.specs.Services.{IsFree}
use Rattle.co_desk.specs.Views.{PassesView}
use Rattle.co_timers.specs.declared.cpu.Lanes.{Lanes}
use Rattle.co_timers.specs.declared.turned.Turned.{Turned}
use Rattle.co_timers.specs.Handles.{HandleView, IsHandle, next_act}
use Rattle.co_timers.specs.Ports.{handle_of}
use Rattle.co_timers.specs.Rounds.{IsLaneServed}

pub record CpuView : Type 0 where
  pub cpu : ℕ
  -- its interrupt, which scans, and serves the direct callouts
  pub direct : HandleView
  -- its own actor, which serves all others
  pub others : HandleView
  -- how many turns it has made
  pub turns : ℕ

-- the handle of an existing CPU: both its actors are of the service, and neither has anything in service
pub record IsCpuHandle (name : ServiceName) (params : Params) (c : CpuView) : Type 0 where
  pub below : c.cpu < params.cpus
  pub direct : IsHandle name params c.direct.passes
  pub others : IsHandle name params c.others.passes
  pub direct_free : IsFree true c.direct.passes c.cpu
  pub others_free : IsFree false c.others.passes c.cpu

abbrev pub cpu_view : ℕ → Lanes → CpuView
cpu_view k l = record { cpu = k; direct = handle_of l.direct; others = handle_of l.others; turns = l.turns }

abbrev pub nobody : HandleView
nobody = record { passes = record { name = record { timers = []; cpus = [] }; params = no_params; actor = 0; timers = []; cpus = [] }; act = 0 }

-- a handle has both its actors but while it turns
abbrev pub cpu_with : ℕ → Option Lanes → CpuView
cpu_with k None = record { cpu = k; direct = nobody; others = nobody; turns = 0 }
cpu_with k (Some l) = cpu_view k l

abbrev pub IsCpuWith : ServiceName → Params → ℕ → Option Lanes → Type 0
IsCpuWith name params k None = ⊥
IsCpuWith name params k (Some l) = IsCpuHandle name params (cpu_view k l)

-- of a handler with these needs, for which `runs` tells what it is to run a function
module _ {H : Type 0} (needs : Needs) (runs : H → Fire → Option ℕ → Option Held → List PortCall → H → Type 0) where
  -- one act of each actor: a scan, then all that has come due for the interrupt, then all that has for the CPU, after a Scan for each turn.
  -- The handler goes from service to service, as `before` first and as `after` last
  pub record IsTurned (before : H) (p : CpuView) (now : ℕ) (turned : Turned) (after : H) (q : CpuView) : Type 0 where
    pub out : Scanned
    pub scanned : PassesView
    pub scan : IsScan p.direct.passes p.cpu p.direct.act now out scanned
    pub count : turned.scanned ≡ out.count
    pub between : H
    pub direct : IsLaneServed needs runs true p.cpu p.direct.act 0 before (record { passes = scanned; act = next_act p.direct.act }) turned.direct between q.direct
    pub others : IsLaneServed needs runs false p.cpu p.others.act q.turns between (record { passes = p.others.passes; act = next_act p.others.act }) turned.others after q.others
    pub turns : q.turns ≡ next_act p.turns
    pub same : q.cpu ≡ p.cpu

-- a CPU before its first turn
abbrev pub first_cpu : ServiceName → Params → ℕ → CpuView
first_cpu name p k = record {
  cpu = k;
  direct = record { passes = booted name p (interrupt_actor (actors_of p) k); act = 0 };
  others = record { passes = booted name p (cpu_actor (actors_of p) k); act = 0 };
  turns = 0;
}
