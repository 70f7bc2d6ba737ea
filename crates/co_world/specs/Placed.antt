-- What holds between where the callouts stand, what the queues serve and where the actors are in their programs.
use Rattle.std.specs.Prelude.{◌≡◌, ℕ, ◌<◌, true, false, Option, Some, None, length}
use Rattle.co_object.specs.declared.state.Arming.{Arming}
use Rattle.co_object.specs.Stand.{is_idle, is_free_at, off}
use Rattle.co_object.specs.Queue.{Queue, Due}
use Rattle.co_program.specs.declared.script.Script.{Script}
use Rattle.co_program.specs.declared.role.Role.{Role}
use Rattle.co_program.specs.declared.role.Role.TheVariants.{Client, Cpu, Interrupt}
use Rattle.co_program.specs.Actors.{actor_count, role_of, cpu_of}
use Rattle.co_program.specs.declared.cursor.InService.{InService}
use Rattle.co_program.specs.Stages.{Stage, Ready, Waiting, Popping, Picking, Locking, Beginning, Unlocking, Firing, Releasing, Ending, Freeing, Drained}
use Rattle.co_program.specs.declared.cursor.PendingInsert.{PendingInsert}
use Rattle.co_world.specs.World.{World}
use Rattle.co_world.specs.Blocked.{is_moving}

-- ---- what is in service

-- what a queue's server has in its slot
abbrev pub server_slot : Role → Queue → Option Due
server_slot (Client c) q = None
server_slot (Cpu x) q = q.serving
server_slot (Interrupt x) q = q.directing

abbrev pub due_in_service : InService → Due
due_in_service v = record { i = v.i; n = v.n }

-- what a stage has in service, from the Pop to the Free
abbrev pub in_slot : Stage → Option Due
in_slot Ready = None
in_slot (Waiting n took) = None
in_slot (Popping act) = None
in_slot (Picking v) = Some (due_in_service v)
in_slot (Locking v) = Some (due_in_service v)
in_slot (Beginning v) = Some (due_in_service v)
in_slot (Unlocking v acts) = Some (due_in_service v)
in_slot (Firing v acts) = Some (due_in_service v)
in_slot (Releasing v) = Some (due_in_service v)
in_slot (Ending v) = Some (due_in_service v)
in_slot (Freeing v drain next) = Some (due_in_service v)
in_slot (Drained v acts) = None

-- the callout that a stage is about
abbrev pub stage_callout : Stage → Option ℕ
stage_callout Ready = None
stage_callout (Waiting n took) = None
stage_callout (Popping act) = None
stage_callout (Picking v) = Some v.i
stage_callout (Locking v) = Some v.i
stage_callout (Beginning v) = Some v.i
stage_callout (Unlocking v acts) = Some v.i
stage_callout (Firing v acts) = Some v.i
stage_callout (Releasing v) = Some v.i
stage_callout (Ending v) = Some v.i
stage_callout (Freeing v drain next) = Some v.i
stage_callout (Drained v acts) = Some v.i

-- ---- between the callouts and the actors

-- what an actor moves is in no service, and goes to a CPU
pub record IsBound (s : Script) (w : World) (p : PendingInsert) : Type 0 where
  pub idle : is_idle (w.timers p.i).state.run ≡ true
  pub known : p.i < length s.timers
  pub target : p.cpu < s.cpus

-- the CPUs that a callout names exist
pub record NamesKnownCpus (s : Script) (w : World) (i : ℕ) : Type 0 where
  pub home : (w.timers i).state.home < s.cpus
  pub target : (arming : Arming) → (w.timers i).state.armed ≡ Some arming → arming.cpu < s.cpus
  pub stand : (w.timers i).stand < s.cpus

pub record IsPlaced (s : Script) (w : World) : Type 0 where
  -- a service runs where its callout's record stands
  pub runs : (i : ℕ) → is_free_at (w.timers i).state.run (w.timers i).stand ≡ true
  -- and what is listed is so there, unless it is on its way
  pub listed : (i cpu : ℕ) → is_moving s w i ≡ false → off (w.timers i).state ≡ Some cpu → (w.timers i).stand ≡ cpu
  pub bound : (a : ℕ) (p : PendingInsert) → a < actor_count s → (w.actors a).cursor.parcel ≡ Some p → IsBound s w p
  -- a server's slot has what it services
  pub serves : (a : ℕ) → a < actor_count s → server_slot (role_of s a) (w.cpus (cpu_of s (role_of s a))).queue ≡ in_slot (w.actors a).cursor.stage
  pub known : (a i : ℕ) → a < actor_count s → stage_callout (w.actors a).cursor.stage ≡ Some i → i < length s.timers
  pub cpus_known : (i : ℕ) → i < length s.timers → NamesKnownCpus s w i
