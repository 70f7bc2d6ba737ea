-- What is kept of an actor of a run, between two sections.
use Rattle.std.specs.Prelude.{◌≡◌, ℕ, ◌+◌, ◌<◌, ◌≤◌, Bool, true, false, List, Option, Some, None, length}
use Rattle.std.specs.List.{AllByRecursion}
use Rattle.co_object.specs.declared.note.Note.{Note}
use Rattle.co_lock.specs.declared.held.Held.{Held}
use Rattle.co_lock.specs.declared.lock_kind.LockKind.{LockKind}
use Rattle.co_lock.specs.Service.{hold_of}
use Rattle.co_program.specs.declared.act.Act.TheVariants.{Lock, ReadLock}
use Rattle.co_program.specs.declared.program.Task.{Task}
use Rattle.co_program.specs.declared.program.Task.TheVariants.{Does}
use Rattle.co_program.specs.Action.{spec_at}
use Rattle.co_program.specs.declared.script.Script.{Script}
use Rattle.co_program.specs.declared.role.Role.{Role}
use Rattle.co_program.specs.declared.role.Role.TheVariants.{Client, Cpu, Interrupt}
use Rattle.co_program.specs.Actors.{actor_count, acts_at, client_count, role_of}
use Rattle.co_program.specs.Cursor.{Cursor}
use Rattle.co_program.specs.Existing.{IsIn}
use Rattle.co_program.specs.Follows.{Histories, scan_count}
use Rattle.co_program.specs.Stages.{Stage, Ready, Waiting, Popping, Picking, Locking, Beginning, Unlocking, Firing, Releasing, Ending, Freeing, Drained}
use Rattle.co_world.proofs.kept.Invariant.{IsBetween, under_way}
use Rattle.co_world.proofs.kept.Stages.{Fits}
use Rattle.co_world.proofs.follows.Traces.{Trace}
use Rattle.co_desk.specs.declared.params.Params.{Params}
use Rattle.co_desk.specs.Name.{ServiceName}
use Rattle.co_desk.specs.Services.{IsFree, IsServing}
use Rattle.co_desk.specs.Serving.{Waits, Runs}
use Rattle.co_desk.specs.Views.{PassesView, AreOf, journal_seen}
use Rattle.co_run.specs.Going.{SeenBegins}
use Rattle.co_run.specs.Shown.{AreShown, AreSized}
use Rattle.co_lock.specs.Locks.{CanBeHeld}
use Rattle.co_world.specs.Placed.{due_in_service}

-- the parameters of a service that runs the script
abbrev pub params_of : Script → Params
params_of s = record { version = s.version; clients = client_count s; cpus = s.cpus; buckets = s.buckets; specs = s.timers }

abbrev pub HeldExists : List LockKind → Held → Type 0
HeldExists kinds held = CanBeHeld kinds held.exclusive held.id

-- the lock that a task takes
abbrev pub TaskLocks : Script → Task → Type 0
TaskLocks s (Does (Lock id)) = HeldExists s.locks (record { id = id; exclusive = true })
TaskLocks s (Does (ReadLock id)) = HeldExists s.locks (record { id = id; exclusive = false })
TaskLocks s task = Unit {0}

-- the locks that the acts of clients and the services take
pub record HasLocks (s : Script) : Type 0 where
  pub clients : (client : ℕ) → AllByRecursion (λ act. TaskLocks s (Does act)) (acts_at s.clients client)
  pub specs : (i : ℕ) (held : Held) → hold_of (spec_at s i).lock ≡ Some held → HeldExists s.locks held

-- its place in its program fits its role, names what exists, and no section is half made there
pub record CursorFits (s : Script) (a : ℕ) (c : Cursor) : Type 0 where
  pub fits : Fits s (role_of s a) c
  pub is_in : IsIn s c
  pub locks : AllByRecursion (TaskLocks s) c.left
  pub parcel : c.parcel ≡ None
  pub removed : c.removed ≡ None
  pub between : IsBetween c.stage

-- what the passes have in service on this CPU, or as its interrupt where `direct`, at each stage
abbrev pub ServesAt : Bool → PassesView → ℕ → Stage → Type 0
ServesAt direct q cpu Ready = IsFree direct q cpu
ServesAt direct q cpu (Waiting n took) = IsFree direct q cpu
ServesAt direct q cpu (Popping act) = IsFree direct q cpu
ServesAt direct q cpu (Picking v) = Unit {0}
ServesAt direct q cpu (Locking v) = IsServing direct q cpu (due_in_service v) (Waits v.n)
ServesAt direct q cpu (Beginning v) = IsServing direct q cpu (due_in_service v) (Waits v.n)
ServesAt direct q cpu (Unlocking v acts) = IsServing direct q cpu (due_in_service v) (Runs v.n)
ServesAt direct q cpu (Firing v acts) = IsServing direct q cpu (due_in_service v) (Runs v.n)
ServesAt direct q cpu (Releasing v) = IsServing direct q cpu (due_in_service v) (Runs v.n)
ServesAt direct q cpu (Ending v) = IsServing direct q cpu (due_in_service v) (Runs v.n)
ServesAt direct q cpu (Freeing v drain next) = Unit {0}
ServesAt direct q cpu (Drained v acts) = IsFree direct q cpu

-- a client serves nothing
abbrev pub ServesAsStage : Role → PassesView → Stage → Type 0
ServesAsStage (Client k) q stage = Unit {0}
ServesAsStage (Cpu x) q stage = ServesAt false q x stage
ServesAsStage (Interrupt x) q stage = ServesAt true q x stage

-- of an interrupt: its CPU's journal has a Scan for each tick that it has begun
abbrev pub HasScanned : Script → Role → PassesView → List Task → Stage → Type 0
HasScanned s (Client k) q left stage = Unit {0}
HasScanned s (Cpu x) q left stage = Unit {0}
HasScanned s (Interrupt x) q left stage = length (acts_at s.ticks x) + under_way stage ≤ scan_count (journal_seen q x) + length left

-- and for each tick of its program
abbrev pub HasAllScans : Script → Role → PassesView → Type 0
HasAllScans s (Client k) q = Unit {0}
HasAllScans s (Cpu x) q = Unit {0}
HasAllScans s (Interrupt x) q = length (acts_at s.ticks x) ≤ scan_count (journal_seen q x)

-- actor a of a service of this name, which has these passes and this hold, is here in its program, and has made these notes
-- and so many of its own
pub record IsActing (s : Script) (name : ServiceName) (a : ℕ) (q : PassesView) (c : Cursor) (hold : Option Held) (notes : List Note) (made : ℕ) : Type 0 where
  pub of : AreOf name (params_of s) q
  pub actor : q.actor ≡ a
  pub below : a < actor_count s
  pub sized : AreSized s q
  pub held : hold ≡ c.hold
  pub place : CursorFits s a c
  pub serves : ServesAsStage (role_of s a) q c.stage
  pub scanned : HasScanned s (role_of s a) q c.left c.stage
  pub shown : AreShown s a q notes made
  pub leads : (H : Histories) → SeenBegins H q → Trace s H a (record { cursor = c; notes = notes })
