-- The services of a CPU, or of its interrupt where `direct`: one round for each callout that had come due.
use Rattle.std.specs.Prelude.{◌≡◌, ◌≤◌, ◌<◌, ℕ, ◌+◌, Bool, true, false, List, length, is_some}
use Rattle.std.specs.declared.option.Option.{Option}
use Rattle.std.specs.declared.option.Option.TheVariants.{Some, None}
use Rattle.co_hand.specs.declared.fire.Fire.{Fire}
use Rattle.co_hand.specs.declared.port_call.PortCall.{PortCall}
use Rattle.co_hand.specs.Handlers.{Needs}
use Rattle.co_lock.specs.declared.held.Held.{Held}
use Rattle.co_lock.specs.Service.{hold_of}
use Rattle.co_life.specs.Rule.{capped}
use Rattle.co_object.specs.declared.note.Note.{Note}
use Rattle.co_object.specs.declared.reply.Reply.{Reply}
use Rattle.co_object.specs.declared.reply.Reply.TheVariants.{Ended, Go, Hold}
use Rattle.co_object.specs.declared.spec.Spec.{Spec}
use Rattle.co_object.specs.Queue.{Due}
use Rattle.co_object.specs.Serve.{has_lock}
use Rattle.co_desk.specs.declared.outs.Made.{Made}
use Rattle.co_desk.specs.declared.outs.Taken.{Taken}
use Rattle.co_desk.specs.declared.outs.Taken.TheVariants.{Empty, Took}
use Rattle.co_desk.specs.declared.params.Params.{Params}
use Rattle.co_desk.specs.Params.{spec_at}
use Rattle.co_desk.specs.Name.{ServiceName}
use Rattle.co_desk.specs.Services.{FollowsScans, HasNext, IsBegun, IsEnded, IsFree, IsNothing, IsServing, IsTaking}
use Rattle.co_desk.specs.Serving.{ServiceStage}
use Rattle.co_desk.specs.Views.{PassesView, journal_seen}
use Rattle.co_timers.specs.declared.turned.Round.{Round}
use Rattle.co_timers.specs.declared.turned.Served.{Served}
use Rattle.co_timers.specs.Handles.{HandleView, IsHandle}
use Rattle.co_timers.specs.Ports.{AreCalls}

-- ---- what the replies say

-- the function that is to be called now, with its argument
abbrev pub called_by : Reply → Option (ℕ × ℕ)
called_by (Go func arg) = Some (func, arg)
called_by _ = None

-- the function waits for the callout's lock
abbrev pub waits_for_lock : Reply → Bool
waits_for_lock Hold = true
waits_for_lock _ = false

-- the function of the asynchronous drain that awaited the end
abbrev pub drain_of : Reply → Option ℕ
drain_of (Ended drain next woke) = drain
drain_of _ = None

-- ---- what the functions are told, and what is held

-- a function of this number is told of this service, with this argument
abbrev pub told : Due → (cpu at func arg : ℕ) → Fire
told d cpu at func arg = record { i = d.i; n = d.n; func = func; arg = arg; cpu = cpu; at = at }

-- what the function of the service is told, where one is called
abbrev pub fire_of : Due → (cpu at : ℕ) → Option (ℕ × ℕ) → Option Fire
fire_of d cpu at None = None
fire_of d cpu at (Some call) = Some (told d cpu at call.0 call.1)

-- what the function `func` of a drain is told: the function and the argument of the service. Where the service's own function was
-- skipped it is named itself, with argument 0
abbrev pub fire_after : Due → (cpu at : ℕ) → Option (ℕ × ℕ) → (func : ℕ) → Fire
fire_after d cpu at None func = told d cpu at func 0
fire_after d cpu at (Some call) func = told d cpu at call.0 call.1

-- a hold that is released first where so
abbrev pub unless_released : Bool → Option Held → Option Held
unless_released true hold = None
unless_released false hold = hold

-- the hold under which the function of a callout of this spec runs: that of its lock, where it has one, but with CALLOUT_RETURNUNLOCKED none.
-- A direct callout has no lock
abbrev pub hold_in : Spec → Option Held
hold_in spec = unless_released spec.returns_unlocked (hold_of spec.lock)

-- ---- what the services take

-- the handler has the service's callouts and CPUs
pub record AreNeedsOf (needs : Needs) (p : Params) : Type 0 where
  pub callouts : needs.callouts ≡ length p.specs
  pub cpus : needs.cpus ≡ p.cpus

-- a callout of the service. It waits for its lock exactly where it has one, and then it is not direct
pub record MayBeServed (direct : Bool) (p : Params) (i : ℕ) (reply : Reply) : Type 0 where
  pub callout : i < length p.specs
  pub lock : waits_for_lock reply ≡ has_lock (spec_at p i).lock
  pub locked : has_lock (spec_at p i).lock ≡ true → direct ≡ false

-- what is taken may be served
abbrev pub MayServe : Bool → Params → Taken → Type 0
MayServe direct p (Empty note) = Unit {0}
MayServe direct p (Took i n time reply pop pick) = MayBeServed direct p i reply

-- ---- an actor of a CPU

-- the handle of an actor that serves an existing CPU, and has nothing in service
pub record IsAtEase (name : ServiceName) (params : Params) (direct : Bool) (cpu : ℕ) (p : PassesView) : Type 0 where
  pub below : cpu < params.cpus
  pub handle : IsHandle name params p
  pub free : IsFree direct p cpu

-- the same with this arming in service, so far
pub record IsAbout (name : ServiceName) (params : Params) (direct : Bool) (cpu : ℕ) (d : Due) (far : ServiceStage) (p : PassesView) : Type 0 where
  pub below : cpu < params.cpus
  pub handle : IsHandle name params p
  pub serving : IsServing direct p cpu d far

-- the same after what was taken: that is in service, or nothing is
pub record HasTaken (name : ServiceName) (params : Params) (direct : Bool) (cpu : ℕ) (taken : Taken) (p : PassesView) : Type 0 where
  pub may : MayServe direct params taken
  pub handle : IsHandle name params p
  pub next : HasNext direct p cpu taken

-- ---- one round

-- what is said in the end of the function of the arming in service: by the Pick, or where it waits for the callout's lock by its
-- Begin under that lock
abbrev pub IsBegin : Bool → PassesView → (cpu act : ℕ) → Due → (reply said : Reply) → PassesView → Type 0
IsBegin true p cpu act d reply said q = (out : Made) × (out.reply ≡ said) × IsBegun p cpu act d out q
IsBegin false p cpu act d reply said q = (said ≡ reply) × (q ≡ p)

-- nothing that had come due is left for this lane, after so many Scans at least
pub record IsLast (direct : Bool) (scans cpu act : ℕ) (p q : HandleView) : Type 0 where
  pub note : Note
  pub nothing : IsNothing direct p.passes cpu act note q.passes
  pub follows : FollowsScans scans (journal_seen q.passes cpu)
  pub same : q.act ≡ p.act

-- ---- the counts

abbrev pub none_served : Served
none_served = record { called = 0; skipped = 0; drained = 0 }

-- one more where so
abbrev pub counted_where : Bool → ℕ → ℕ
counted_where true n = capped (n + 1)
counted_where false n = n

abbrev pub not_called : Bool → Bool
not_called true = false
not_called false = true

abbrev pub served_after : Served → Round → Served
served_after s one = record { called = counted_where one.called s.called; skipped = counted_where (not_called one.called) s.skipped; drained = counted_where one.drained s.drained }

-- ---- a handler's rounds

-- of a handler with these needs, for which `runs` tells what it is to run a function. It is as `before` before, and as `after` after
module _ {H : Type 0} (needs : Needs) (runs : H → Fire → Option ℕ → Option Held → List PortCall → H → Type 0) where
  -- the function of this number has run, that of the service or of a drain: the calls of its run, few, are its actor's acts
  pub record IsRun (before : H) (fire : Fire) (drain : Option ℕ) (hold : Option Held) (func : ℕ) (p : HandleView) (after : H) (q : HandleView) : Type 0 where
    pub calls : List PortCall
    pub few : length calls ≤ needs.calls func
    pub ran : runs before fire drain hold calls after
    pub are : AreCalls p calls q

  -- the service's function has run under this hold, where one is called. Else no one has, and nothing has changed
  abbrev pub RunsIf : H → Option Fire → Option Held → HandleView → H → HandleView → Type 0
  RunsIf before None hold p after q = (after ≡ before) × (q ≡ p)
  RunsIf before (Some fire) hold p after q = IsRun before fire None hold fire.func p after q

  -- the drain's function has run without a hold, where there is one, and was told this. Else no one has, and nothing has changed
  abbrev pub DrainsIf : H → (ℕ → Fire) → Option ℕ → HandleView → H → HandleView → Type 0
  DrainsIf before fire None p after q = (after ≡ before) × (q ≡ p)
  DrainsIf before fire (Some func) p after q = IsRun before (fire func) (Some func) None func p after q

  module _ (direct : Bool) (cpu act : ℕ) where
    -- the service of what was taken: its function runs where it is called, then comes its end, and then the function of a drain that awaited
    -- this runs. All entries of the service itself have the number of the turn's act
    pub record IsLaneService (d : Due) (time : ℕ) (reply : Reply) (before : H) (p : HandleView) (one : Round) (after : H) (q : HandleView) : Type 0 where
      pub said : Reply
      pub begun : PassesView
      pub begins : IsBegin (waits_for_lock reply) p.passes cpu act d reply said begun
      pub between : H
      pub ran : HandleView
      pub function : RunsIf before (fire_of d cpu time (called_by said)) (hold_in (spec_at p.passes.params d.i)) (record { passes = begun; act = p.act }) between ran
      pub ended : Reply
      pub notes : List Note
      pub over : PassesView
      pub ends : IsEnded direct ran.passes cpu act d ended notes over
      pub drain : DrainsIf between (fire_after d cpu time (called_by said)) (drain_of ended) (record { passes = over; act = ran.act }) after q
      pub called : one.called ≡ is_some (called_by said)
      pub drained : one.drained ≡ is_some (drain_of ended)

    -- the first callout that had come due is taken and served
    pub record IsRound (before : H) (p : HandleView) (one : Round) (after : H) (q : HandleView) : Type 0 where
      pub due_is : Due
      pub time : ℕ
      pub reply : Reply
      pub pop : Note
      pub pick : Note
      pub taken : PassesView
      pub takes : IsTaking direct p.passes cpu act due_is.i due_is.n time reply pop pick taken
      pub serves : IsLaneService due_is time reply before (record { passes = taken; act = p.act }) one after q

    -- rounds, one after the other, each with the handler as the one before has left it
    pub data AreRounds (before : H) (p : HandleView) : Served → H → HandleView → Type 0 where
      start : AreRounds before p none_served before p
      again : (served : Served) (one : Round) (between after : H) (q r : HandleView) → AreRounds before p served between q → IsRound between q one after r
          → AreRounds before p (served_after served one) after r

    -- all that had come due for this lane is served
    pub record IsLaneServed (scans : ℕ) (before : H) (p : HandleView) (served : Served) (after : H) (q : HandleView) : Type 0 where
      pub last : HandleView
      pub rounds : AreRounds before p served after last
      pub over : IsLast direct scans cpu act last q
