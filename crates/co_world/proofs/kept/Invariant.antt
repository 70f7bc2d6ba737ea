-- What every step keeps of the plain world of a sound script, between two steps.
use Rattle.std.proofs.Common.{◌≡◌, ℕ, ◌+◌, ◌≤◌, ◌<◌, ◌⊎◌, Bool, true, false, List, [], ◌∷◌, length, Option, Some, None}
use Rattle.std.specs.Prelude.{⊤, if◌then◌else◌, is_some}
use Rattle.std.specs.List.{AllByRecursion}
use Rattle.co_program.specs.Scripts.{is_call}
use Rattle.co_object.specs.declared.Spec.{Spec}
use Rattle.co_object.specs.declared.Arming.{Arming}
use Rattle.co_object.specs.declared.Run.{Run}
use Rattle.co_object.specs.declared.Run.TheVariants as run
use Rattle.co_object.specs.declared.State.{State}
use Rattle.co_object.specs.Stand.{off, is_idle, is_free_at}
use Rattle.co_object.specs.History.{server}
use Rattle.co_object.specs.Queue.{Queue as TimerQueue}
use Rattle.co_object.specs.Scan.{is_direct}
use Rattle.co_lock.specs.declared.Held.{Held}
use Rattle.co_lock.specs.Service.{hold_of}
use Rattle.co_program.specs.declared.Script.{Script}
use Rattle.co_program.specs.declared.Act.TheVariants.{Drain, Tick}
use Rattle.co_program.specs.Actors.{softs, role_of, cpu_of, acts_at, actor_count}
use Rattle.co_program.specs.declared.Task.{Task}
use Rattle.co_program.specs.declared.Task.TheVariants.{Does, Soft}
use Rattle.co_program.specs.declared.Role.{Role}
use Rattle.co_program.specs.declared.Role.TheVariants.{Client, Cpu, Interrupt}
use Rattle.co_program.specs.Stages.{Stage, Ready, Waiting, Popping, Picking, Locking, Beginning, Unlocking, Firing, Releasing, Ending, Freeing, Drained}
use Rattle.co_program.specs.declared.InService.{InService}
use Rattle.co_program.specs.Cursor.{Cursor}
use Rattle.co_program.specs.declared.PendingInsert.{PendingInsert}
use Rattle.co_program.specs.Advance.{parcel_of}
use Rattle.co_object.proofs.Each.{Each}
use Rattle.co_object.proofs.EntriesKept.{EntriesFit}
use Rattle.co_object.proofs.PassageOnce.{stands}
use Rattle.co_program.specs.Action.{spec_at}
use Rattle.co_program.specs.Follows.{scan_count}
use Rattle.co_world.specs.World.{World}
use Rattle.co_world.specs.Step.{are_direct}
use Rattle.co_world.specs.Laws.{actors_of}

-- ---- an actor: its stage, its hold and its role

-- the service that an actor has under way: from its Pick to its End
abbrev pub service_of : Stage → Option InService
service_of Ready = None
service_of (Waiting n took) = None
service_of (Popping act) = None
service_of (Picking v) = None
service_of (Locking v) = Some v
service_of (Beginning v) = Some v
service_of (Unlocking v acts) = Some v
service_of (Firing v acts) = Some v
service_of (Releasing v) = Some v
service_of (Ending v) = Some v
service_of (Freeing v drain next) = None
service_of (Drained v acts) = None

-- the hold under which a callout's function makes its acts
abbrev pub hold_within : Spec → Option Held
hold_within spec = if spec.returns_unlocked then None else hold_of spec.lock

-- a client alone may hold a lock between two acts, and no drain begins under one
abbrev pub ClientHold : Option Held → Stage → Type 0
ClientHold hold Ready = ⊤
ClientHold hold (Waiting n took) = hold ≡ None
ClientHold hold stage = ⊥

-- the hold of a stage of a CPU or an interrupt
abbrev pub ServerHold : Script → Option Held → Stage → Type 0
ServerHold s hold (Waiting n took) = ⊥
ServerHold s hold (Locking v) = (hold ≡ None) × ((held : Held) × (hold_of (spec_at s v.i).lock ≡ Some held))
ServerHold s hold (Beginning v) = (held : Held) × (hold ≡ Some held) × (hold_of (spec_at s v.i).lock ≡ Some held)
ServerHold s hold (Unlocking v acts) = ((spec_at s v.i).returns_unlocked ≡ true) × (held : Held) × (hold ≡ Some held) × (hold_of (spec_at s v.i).lock ≡ Some held)
ServerHold s hold (Firing v acts) = hold ≡ hold_within (spec_at s v.i)
ServerHold s hold (Releasing v) = (held : Held) × (hold ≡ Some held) × (hold_of (spec_at s v.i).lock ≡ Some held)
ServerHold s hold stage = hold ≡ None

abbrev pub HoldFits : Script → Role → Option Held → Stage → Type 0
HoldFits s (Client c) hold stage = ClientHold hold stage
HoldFits s (Cpu x) hold stage = ServerHold s hold stage
HoldFits s (Interrupt x) hold stage = ServerHold s hold stage

-- a function's acts are calls, and are left only where there are some
abbrev pub HasActs : Stage → Type 0
HasActs (Firing v []) = ⊥
HasActs (Firing v (act ∷ acts)) = AllByRecursion (λ x. is_call x ≡ true) (act ∷ acts)
HasActs (Drained v []) = ⊥
HasActs (Drained v (act ∷ acts)) = AllByRecursion (λ x. is_call x ≡ true) (act ∷ acts)
HasActs (Unlocking v acts) = AllByRecursion (λ x. is_call x ≡ true) acts
HasActs stage = ⊤

-- a task that a role may have: a client never ticks, and a CPU ticks itself in version 1 alone
abbrev pub IsTaskOf : Script → Role → Task → Type 0
IsTaskOf s (Client c) (Does (Tick time)) = ⊥
IsTaskOf s (Client c) (Does act) = ⊤
IsTaskOf s (Client c) (Soft j) = ⊥
IsTaskOf s (Cpu x) (Does (Tick time)) = s.version ≡ 1
IsTaskOf s (Cpu x) (Does act) = ⊥
IsTaskOf s (Cpu x) (Soft j) = s.version ≡ 2
IsTaskOf s (Interrupt x) (Does (Tick time)) = ⊤
IsTaskOf s (Interrupt x) task = ⊥

-- no section is half made
abbrev pub IsBetween : Stage → Type 0
IsBetween (Picking v) = ⊥
IsBetween (Freeing v drain next) = ⊥
IsBetween stage = ⊤

abbrev pub BeginsDrain : List Task → Type 0
BeginsDrain (Does (Drain i) ∷ left) = ⊤
BeginsDrain left = ⊥

-- a drain that waits is the first act left
abbrev pub IsDraining : List Task → Stage → Type 0
IsDraining left (Waiting n took) = BeginsDrain left
IsDraining left stage = ⊤

-- the interrupt serves the direct callouts, and the CPU the others
abbrev pub serves_direct : Role → Bool
serves_direct (Interrupt x) = true
serves_direct role = false

abbrev pub LaneFits : Script → Role → Stage → Type 0
LaneFits s role (Picking v) = is_direct (are_direct s) v.i ≡ serves_direct role
LaneFits s role (Locking v) = is_direct (are_direct s) v.i ≡ serves_direct role
LaneFits s role (Beginning v) = is_direct (are_direct s) v.i ≡ serves_direct role
LaneFits s role (Unlocking v acts) = is_direct (are_direct s) v.i ≡ serves_direct role
LaneFits s role (Firing v acts) = is_direct (are_direct s) v.i ≡ serves_direct role
LaneFits s role (Releasing v) = is_direct (are_direct s) v.i ≡ serves_direct role
LaneFits s role (Ending v) = is_direct (are_direct s) v.i ≡ serves_direct role
LaneFits s role stage = ⊤

-- the soft acts left are the last ones, one for each tick
abbrev pub AreSoft : Script → Role → List Task → Type 0
AreSoft s (Cpu x) left = s.version ≡ 2 → (k : ℕ) × (k + length left ≡ length (acts_at s.ticks x)) × (left ≡ softs k (length left))
AreSoft s role left = ⊤

-- an actor's place fits its role
pub record FitsRole (s : Script) (role : Role) (left : List Task) (held : Option Held) (stage : Stage) : Type 0 where
  pub tasks : AllByRecursion (IsTaskOf s role) left
  pub soft : AreSoft s role left
  pub hold : HoldFits s role held stage
  pub acts : HasActs stage
  pub draining : IsDraining left stage
  pub lane : LaneFits s role stage

-- ---- a service: the actor's stage and the callout's run

-- the arming's service waits for the lock, or was cancelled there
abbrev pub IsTaken : Run → ℕ → ℕ → Type 0
IsTaken run.Idle n cpu = ⊥
IsTaken (run.Picked a) n cpu = (a.n ≡ n) × (a.cpu ≡ cpu)
IsTaken (run.Cancelled m at) n cpu = (m ≡ n) × (at ≡ cpu)
IsTaken (run.Running m at) n cpu = ⊥

-- its function runs
abbrev pub IsRunning : Run → ℕ → ℕ → Type 0
IsRunning (run.Running m at) n cpu = (m ≡ n) × (at ≡ cpu)
IsRunning other n cpu = ⊥

-- it may end
abbrev pub IsOver : Run → ℕ → ℕ → Type 0
IsOver (run.Running m at) n cpu = (m ≡ n) × (at ≡ cpu)
IsOver (run.Cancelled m at) n cpu = (m ≡ n) × (at ≡ cpu)
IsOver other n cpu = ⊥

-- at each stage of a service its callout's run is at that stage, on the actor's CPU
abbrev pub RunFits : (ℕ → State) → ℕ → Stage → Type 0
RunFits states cpu (Picking v) = is_idle (states v.i).run ≡ true
RunFits states cpu (Locking v) = IsTaken (states v.i).run v.n cpu
RunFits states cpu (Beginning v) = IsTaken (states v.i).run v.n cpu
RunFits states cpu (Unlocking v acts) = IsRunning (states v.i).run v.n cpu
RunFits states cpu (Firing v acts) = IsRunning (states v.i).run v.n cpu
RunFits states cpu (Releasing v) = IsOver (states v.i).run v.n cpu
RunFits states cpu (Ending v) = IsOver (states v.i).run v.n cpu
RunFits states cpu stage = ⊤

-- the CPU of a service
abbrev pub cpu_of_run : Run → Option ℕ
cpu_of_run run.Idle = None
cpu_of_run (run.Picked a) = Some a.cpu
cpu_of_run (run.Cancelled n cpu) = Some cpu
cpu_of_run (run.Running n cpu) = Some cpu

pub record IsServing (s : Script) (states : ℕ → State) (cursors : ℕ → Cursor) : Type 0 where
  pub serves : (b : ℕ) → RunFits states (cpu_of s (role_of s b)) (cursors b).stage
  -- and every run is that of a service under way
  pub served : (i cpu : ℕ) → cpu_of_run (states i).run ≡ Some cpu →
      (v : InService) × (service_of (cursors (server (actors_of s) (spec_at s i) cpu)).stage ≡ Some v) × (v.i ≡ i) × (server (actors_of s) (spec_at s i) cpu < actor_count s)

-- ---- a queue alone

-- each lane has its kind of callout, and a callout stands once
pub record IsLane (s : Script) (q : TimerQueue) : Type 0 where
  pub expired : Each (λ d. is_direct (are_direct s) d.i ≡ false) q.expired
  pub urgent : Each (λ d. is_direct (are_direct s) d.i ≡ true) q.urgent
  pub once : (i : ℕ) → stands i q ≤ 1

-- a queue knows whether its actor has a service, from the Pop to the Free
abbrev pub has_popped : Stage → Bool
has_popped Ready = false
has_popped (Waiting n took) = false
has_popped (Popping act) = false
has_popped (Drained v acts) = false
has_popped stage = true

-- whether it has one, by the actor's role
abbrev pub serving_of : TimerQueue → Role → Bool
serving_of q (Client c) = false
serving_of q (Cpu x) = is_some q.serving
serving_of q (Interrupt x) = is_some q.directing

abbrev pub IsBusy : Script → (ℕ → TimerQueue) → (ℕ → Cursor) → Type 0
IsBusy s queues cursors = (b : ℕ) → serving_of (queues (cpu_of s (role_of s b))) (role_of s b) ≡ has_popped (cursors b).stage

-- ---- where an arming is

-- the callout is armed by arming n for this CPU, no later than t, and no service elsewhere has it
pub record IsListed (state : State) (n cpu t : ℕ) : Type 0 where
  pub arming : Arming
  pub armed : state.armed ≡ Some arming
  pub number : arming.n ≡ n
  pub place : arming.cpu ≡ cpu
  pub due : arming.due ≤ t
  pub free : is_free_at state.run cpu ≡ true

-- the callout that an actor has in hand: on its way, just popped, or sent on its way by the end of its service
abbrev pub in_stage : ℕ → Stage → Option PendingInsert
in_stage cpu (Picking v) = Some (record { act = v.act; i = v.i; n = v.n; due = v.at; cpu = cpu })
in_stage cpu (Freeing v drain next) = parcel_of v next
in_stage cpu stage = None

abbrev pub in_hand : ℕ → Option PendingInsert → Stage → Option PendingInsert
in_hand cpu (Some p) stage = Some p
in_hand cpu None stage = in_stage cpu stage

abbrev pub carries : Script → ℕ → Cursor → Option PendingInsert
carries s b c = in_hand (cpu_of s (role_of s b)) c.parcel c.stage

-- an armed callout that is Listed stands in that queue alone, or in one hand alone; out is one just removed
pub record IsCarried (s : Script) (states : ℕ → State) (queues : ℕ → TimerQueue) (cursors : ℕ → Cursor) (out : Option ℕ) : Type 0 where
  pub moves : (b : ℕ) (p : PendingInsert) → carries s b (cursors b) ≡ Some p → IsListed (states p.i) p.n p.cpu p.due
  pub once : (b d : ℕ) (p r : PendingInsert) → carries s b (cursors b) ≡ Some p → carries s d (cursors d) ≡ Some r → p.i ≡ r.i → b ≡ d
  pub apart : (b : ℕ) (p : PendingInsert) (cpu : ℕ) → carries s b (cursors b) ≡ Some p → stands p.i (queues cpu) ≡ 0
  pub away : (i cpu : ℕ) → out ≡ Some i → stands i (queues cpu) ≡ 0
  pub entries : (cpu : ℕ) → EntriesFit (λ i n t. IsListed (states i) n cpu t) (queues cpu)
  pub listed : (i cpu : ℕ) → off (states i) ≡ Some cpu →
      (1 ≤ stands i (queues cpu)) ⊎ ((out ≡ Some i) ⊎ ((b : ℕ) × (p : PendingInsert) × (b < actor_count s) × (carries s b (cursors b) ≡ Some p) × (p.i ≡ i)))

-- ---- ticks

-- a tick that has begun is still among those left
abbrev pub under_way : Stage → ℕ
under_way Ready = 0
under_way stage = 1

-- in version 2 a CPU has as many Scans as its interrupt has begun ticks
abbrev pub IsTicking : Script → (ℕ → ℕ) → (ℕ → Cursor) → Type 0
IsTicking s scans cursors =
    (b cpu : ℕ) → s.version ≡ 2 → role_of s b ≡ Interrupt cpu →
    (scans cpu + length (cursors b).left ≡ length (acts_at s.ticks cpu) + under_way (cursors b).stage) × (under_way (cursors b).stage ≤ length (cursors b).left)

-- ---- the world

abbrev pub states_of : World → ℕ → State
states_of w i = (w.timers i).state

abbrev pub queues_of : World → ℕ → TimerQueue
queues_of w cpu = (w.cpus cpu).queue

abbrev pub cursors_of : World → ℕ → Cursor
cursors_of w a = (w.actors a).cursor

abbrev pub scans_of : World → ℕ → ℕ
scans_of w cpu = scan_count (w.cpus cpu).journal

-- what holds also in mid-section
pub record Holds (s : Script) (w : World) (out : Option ℕ) : Type 0 where
  pub roles : (a : ℕ) → FitsRole s (role_of s a) (cursors_of w a).left (cursors_of w a).hold (cursors_of w a).stage
  pub lanes : (cpu : ℕ) → IsLane s (queues_of w cpu)
  pub busy : IsBusy s (queues_of w) (cursors_of w)
  pub serving : IsServing s (states_of w) (cursors_of w)
  pub carried : IsCarried s (states_of w) (queues_of w) (cursors_of w) out
  pub ticking : IsTicking s (scans_of w) (cursors_of w)

-- and between two steps
pub record IsSound (s : Script) (w : World) : Type 0 where
  pub holds : Holds s w None
  pub between : (a : ℕ) → IsBetween (cursors_of w a).stage
