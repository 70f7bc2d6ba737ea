-- What a caller of the running service has before a section, what the section answers, and what the caller has then.
use Rattle.std.specs.Prelude.{◌≡◌, ℕ, ◌<◌, Bool, false}
use Rattle.std.specs.declared.option.Option.{Option}
use Rattle.std.specs.declared.option.Option.TheVariants.{None}
use Rattle.co_object.specs.Journal.{scanner}
use Rattle.co_object.specs.Queue.{Due}
use Rattle.co_desk.specs.declared.outs.Taken.{Taken}
use Rattle.co_desk.specs.declared.params.Params.{Params}
use Rattle.co_desk.specs.Moving.{MovingView}
use Rattle.co_desk.specs.Name.{ServiceName}
use Rattle.co_desk.specs.Params.{actors_of}
use Rattle.co_desk.specs.Services.{HasNext, IsFree, IsServing}
use Rattle.co_desk.specs.Serving.{Runs, ServiceStage, Waits}
use Rattle.co_desk.specs.Views.{AreOf, PassesView}

-- after a call or a scan the passes are still of the service and of their actor, and it has in service what it had
pub record Keeps (service : ServiceName) (params : Params) (p q : PassesView) : Type 0 where
  pub of : AreOf service params q
  pub actor : q.actor ≡ p.actor
  -- where nothing was in service nothing is, and what was in service is as far as it was
  pub free : (direct : Bool) (cpu : ℕ) → IsFree direct p cpu → IsFree direct q cpu
  pub serving : (direct : Bool) (cpu : ℕ) (d : Due) (far : ServiceStage) → IsServing direct p cpu d far → IsServing direct q cpu d far

-- the same of one who has the service to himself: its parameters stay too
pub record KeepsAlone (service : ServiceName) (params after : Params) (p q : PassesView) : Type 0 where
  pub params_are : after ≡ params
  pub keeps : Keeps service params p q

-- the passes are of the service and of this actor, which has this in service on the CPU, or as its interrupt where `direct`: what it took
pub record KeepsTaken (service : ServiceName) (params : Params) (actor : ℕ) (direct : Bool) (cpu : ℕ) (taken : Taken) (q : PassesView) : Type 0 where
  pub of : AreOf service params q
  pub actor_is : q.actor ≡ actor
  pub next : HasNext direct q cpu taken

-- the same where it has nothing in service
pub record KeepsFree (service : ServiceName) (params : Params) (actor : ℕ) (direct : Bool) (cpu : ℕ) (q : PassesView) : Type 0 where
  pub of : AreOf service params q
  pub actor_is : q.actor ≡ actor
  pub free : IsFree direct q cpu

-- the same where what waited for its lock is to end
pub record KeepsBegun (service : ServiceName) (params : Params) (cpu : ℕ) (p q : PassesView) : Type 0 where
  pub of : AreOf service params q
  pub actor : q.actor ≡ p.actor
  pub serving : (d : Due) → IsServing false p cpu d (Waits d.n) → IsServing false q cpu d (Runs d.n)

-- the passes are the service's, and their actor serves this lane of one of its CPUs, and has nothing in service
pub record MayStart (service : ServiceName) (params : Params) (direct : Bool) (p : PassesView) (cpu : ℕ) : Type 0 where
  pub cpu_is : cpu < params.cpus
  pub passes : AreOf service params p
  pub free : IsFree direct p cpu

-- the end of a service may be tried at a desk: the passes' actor has an arming in service, which is to end
pub record MayTryEnd (service : ServiceName) (params : Params) (direct : Bool) (p : PassesView) (cpu : ℕ) (gone : Option MovingView) : Type 0 where
  pub cpu_is : cpu < params.cpus
  pub passes : AreOf service params p
  pub serves : (d : Due) × IsServing direct p cpu d (Runs d.n)
  pub none : gone ≡ None

-- the passes are the service's, and their actor scans this CPU
pub record MayScan (service : ServiceName) (params : Params) (p : PassesView) (cpu : ℕ) : Type 0 where
  pub cpu_is : cpu < params.cpus
  pub passes : AreOf service params p
  pub scanner : p.actor ≡ scanner (actors_of params) cpu

-- the passes are the service's, and so is what is on its way
pub record MayLand (service : ServiceName) (params : Params) (p : PassesView) (moving : MovingView) : Type 0 where
  pub passes : AreOf service params p
  pub params_are : moving.params ≡ p.params
