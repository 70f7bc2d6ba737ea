-- What a callout's answer names exists: the CPUs of its state after it, and those of its reply.
use Rattle.std.proofs.Common.{◌≡◌, ℕ, ◌≤◌, ◌<◌, Bool, true, false, not, ◌&&◌, ◌||◌, ◌==◌, refl, sym, subst, ◌∙◌, Option, Some, None}
use Rattle.std.specs.Prelude.{⊤, is_some, unwrap_or}
use Rattle.co_object.specs.declared.Spec.{Spec}
use Rattle.co_object.specs.declared.Arming.{Arming}
use Rattle.co_object.specs.declared.Run.{Run}
use Rattle.co_object.specs.declared.Run.TheVariants as run
use Rattle.co_object.specs.declared.State.{State}
use Rattle.co_object.specs.declared.PlainOp.{PlainOp}
use Rattle.co_object.specs.declared.PlainOp.TheVariants.{Reset, Schedule, Stop, AsyncDrain, Active, Pending, Deactivate, Init, Retire}
use Rattle.co_object.specs.declared.CallOp.{CallOp}
use Rattle.co_object.specs.declared.CallOp.TheVariants.{Plain, DrainTry}
use Rattle.co_object.specs.declared.RunOp.{RunOp}
use Rattle.co_object.specs.declared.RunOp.TheVariants.{Pick, Begin, End}
use Rattle.co_object.specs.declared.Op.{Op}
use Rattle.co_object.specs.declared.Op.TheVariants.{Call, Run as Serve}
use Rattle.co_object.specs.declared.Reply.{Reply}
use Rattle.co_object.specs.declared.Reply.TheVariants.{Worn, Done, InUse, Hold, Skip}
use Rattle.co_object.specs.Stand.{is_idle, is_free_at, stand_of, listed_cpu, Listed, Deferred, off}
use Rattle.co_object.specs.Arm.{is_draining, arm, refuse, reset, reset_to_last, made_max}
use Rattle.co_object.specs.Stop.{stop}
use Rattle.co_object.specs.Drain.{serviced, drain_at, drain_later}
use Rattle.co_object.specs.Query.{answer}
use Rattle.co_object.specs.Serve.{has_lock, taken, go, is_due, pick_armed, begin_run, next_of, ended, end_run}
use Rattle.co_object.specs.Group.{off_of}
use Rattle.co_object.specs.Callout.{live_call, retired_call, call, serve, step}
use Rattle.co_object.proofs.Changes.{either_way}
use Rattle.co_program.specs.declared.script.Script.{Script}
use Rattle.co_program.specs.Existing.{CpuExists, NextExists, OpExists, ReplyExists}
use Rattle.co_program.proofs.Homes.{IsBelow, NamesCpu, CpusFit, fit_call}

-- what a reply names exists, and the queue from which an arming went is one
pub record RepliesFit (s : Script) (reply : Reply) : Type 0 where
  pub exists : ReplyExists s reply
  pub gone : CpuExists s (off_of reply)

pub record AnswerFits (s : Script) (outcome : State × Reply) : Type 0 where
  pub state : CpusFit s.cpus outcome.0
  pub reply : RepliesFit s outcome.1

module _ (s : Script) (some : 1 ≤ s.cpus) where
  -- ---- where an arming stands, and where it goes

  pub off_fits : (t : State) → CpusFit s.cpus t → CpuExists s (off t)
  off_fits t fit = go t.armed t.run fit.target where
    go : (o : Option Arming) (r : Run) → ((arming : Arming) → o ≡ Some arming → arming.cpu < s.cpus) → CpuExists s (listed_cpu (stand_of o r))
    go None r target = tt
    go (Some a) r target = either_way (λ stand. CpuExists s (listed_cpu stand)) (is_free_at r a.cpu) (Listed a.cpu) (Deferred a.cpu) (λ _. target a refl) (λ _. tt)

  next_fits : (t : State) (cpu : ℕ) → CpusFit s.cpus t → NextExists s (next_of t.armed cpu)
  next_fits t cpu fit = go t.armed fit.target where
    go : (o : Option Arming) → ((arming : Arming) → o ≡ Some arming → arming.cpu < s.cpus) → NextExists s (next_of o cpu)
    go None target = tt
    go (Some a) target = either_way (NextExists s) (a.cpu == cpu) None (Some (record { n = a.n; cpu = a.cpu; due = a.due })) (λ _. tt) (λ _. target a refl)

  named : (t : State) (cpu : Option ℕ) → CpusFit s.cpus t → CpuExists s cpu → unwrap_or cpu t.home < s.cpus
  named t None fit below = fit.home
  named t (Some x) fit below = below

  -- ---- replies to calls

  of_stop : (t : State) → CpusFit s.cpus t → RepliesFit s (stop t).1
  of_stop t fit = record { exists = tt; gone = off_fits t fit }

  of_reset : (t : State) (due prec func arg : ℕ) (cpu : Option ℕ) → CpusFit s.cpus t → CpuExists s cpu → RepliesFit s (reset t due prec func arg cpu).1
  of_reset t due prec func arg cpu fit below =
      either_way (λ (o : State × Reply). RepliesFit s o.1) (t.made == made_max) (t, Worn) _ (λ _. record { exists = tt; gone = tt }) (λ _.
      either_way (λ (o : State × Reply). RepliesFit s o.1) (is_draining t && not (is_idle t.run)) (refuse t) (arm t due prec func arg (unwrap_or cpu t.home))
      (λ _. record { exists = tt; gone = tt })
      (λ _. record { exists = named t cpu fit below; gone = off_fits t fit }))

  of_schedule : (t : State) (last : Option (ℕ × ℕ)) (due prec : ℕ) (cpu : Option ℕ) → CpusFit s.cpus t → CpuExists s cpu → RepliesFit s (reset_to_last t last due prec cpu).1
  of_schedule t None due prec cpu fit below = record { exists = tt; gone = tt }
  of_schedule t (Some last) due prec cpu fit below = of_reset t due prec last.0 last.1 cpu fit below

  of_later : (t : State) (standing : Option ℕ) (func : ℕ) → CpusFit s.cpus t → RepliesFit s (drain_later t standing func).1
  of_later t (Some f) func fit = record { exists = tt; gone = tt }
  of_later t None func fit = record { exists = tt; gone = off_fits t fit }

  of_answer : (b : Bool) → RepliesFit s (answer b)
  of_answer true = record { exists = tt; gone = tt }
  of_answer false = record { exists = tt; gone = tt }

  of_live : (t : State) (op : PlainOp) → CpusFit s.cpus t → OpExists s (Call (Plain op)) → RepliesFit s (live_call t op).1
  of_live t (Reset due prec func arg cpu) fit below = of_reset t due prec func arg cpu fit below
  of_live t (Schedule due prec cpu) fit below = of_schedule t t.last due prec cpu fit below
  of_live t Stop fit below = of_stop t fit
  of_live t (AsyncDrain func) fit below =
      either_way (λ (o : State × Reply). RepliesFit s o.1) (is_idle t.run) (stop t) (drain_later t t.adrain func) (λ _. of_stop t fit) (λ _. of_later t t.adrain func fit)
  of_live t Active fit below = of_answer t.active
  of_live t Pending fit below = of_answer (is_some t.armed)
  of_live t Deactivate fit below = record { exists = tt; gone = tt }
  of_live t Init fit below = record { exists = tt; gone = tt }
  of_live t Retire fit below =
      either_way (λ (o : State × Reply). RepliesFit s o.1) (is_some t.armed || not (is_idle t.run)) (t, InUse (is_some t.armed) (not (is_idle t.run))) (record t { live = false }, Done)
      (λ _. record { exists = tt; gone = tt }) (λ _. record { exists = tt; gone = tt })

  of_retired : (t : State) (op : PlainOp) → RepliesFit s (retired_call t op).1
  of_retired t Init = record { exists = tt; gone = tt }
  of_retired t (Reset due prec func arg cpu) = record { exists = tt; gone = tt }
  of_retired t (Schedule due prec cpu) = record { exists = tt; gone = tt }
  of_retired t Stop = record { exists = tt; gone = tt }
  of_retired t (AsyncDrain func) = record { exists = tt; gone = tt }
  of_retired t Active = record { exists = tt; gone = tt }
  of_retired t Pending = record { exists = tt; gone = tt }
  of_retired t Deactivate = record { exists = tt; gone = tt }
  of_retired t Retire = record { exists = tt; gone = tt }

  of_drain : (t : State) (o : Option ℕ) (took : Bool) → CpusFit s.cpus t → RepliesFit s (drain_at t o took).1
  of_drain t None took fit = record { exists = tt; gone = off_fits t fit }
  of_drain t (Some m) took fit = record { exists = tt; gone = off_fits t fit }

  of_call : (t : State) (op : CallOp) → CpusFit s.cpus t → OpExists s (Call op) → RepliesFit s (call t op).1
  of_call t (Plain op) fit below =
      either_way (λ (o : State × Reply). RepliesFit s o.1) t.live (live_call t op) (retired_call t op) (λ _. of_live t op fit below) (λ _. of_retired t op)
  of_call t (DrainTry took) fit below = of_drain t (serviced t.run) (is_some t.armed || took) fit

  below_names : (cpu : Option ℕ) → CpuExists s cpu → IsBelow s.cpus cpu
  below_names None exists = tt
  below_names (Some x) exists = exists

  call_names : (op : CallOp) → OpExists s (Call op) → NamesCpu s.cpus op
  call_names (Plain (Reset due prec func arg cpu)) exists = below_names cpu exists
  call_names (Plain (Schedule due prec cpu)) exists = below_names cpu exists
  call_names (Plain op) exists = tt
  call_names (DrainTry took) exists = tt

  -- ---- services

  abbrev Perhaps : Option (State × Reply) → Type 0
  Perhaps None = ⊤
  Perhaps (Some outcome) = AnswerFits s outcome

  of_go : (t : State) (a : Arming) → CpusFit s.cpus t → AnswerFits s (go t a)
  of_go t a fit = record { state = record { home = fit.home; target = fit.target }; reply = record { exists = tt; gone = tt } }

  unarmed : (t : State) → t.armed ≡ None → t.home < s.cpus → CpusFit s.cpus t
  unarmed t none home = record { home = home; target = λ arming is. (let clash : None ≡ Some arming = sym none ∙ is in cc) }

  of_taken : (spec : Spec) (t : State) (a : Arming) → CpusFit s.cpus t → AnswerFits s (taken spec t a)
  of_taken spec t a fit =
      either_way (AnswerFits s) (has_lock spec.lock) (record t { armed = None; run = run.Picked a }, Hold) (go (record t { armed = None }) a)
      (λ _. record { state = unarmed (record t { armed = None; run = run.Picked a }) refl fit.home; reply = record { exists = tt; gone = tt } })
      (λ _. of_go (record t { armed = None }) a (unarmed (record t { armed = None }) refl fit.home))

  of_pick : (spec : Spec) (t : State) (o : Option Arming) (n cpu at : ℕ) → CpusFit s.cpus t → Perhaps (pick_armed spec t o n cpu at)
  of_pick spec t None n cpu at fit = tt
  of_pick spec t (Some a) n cpu at fit = either_way Perhaps (is_due a n cpu at && is_idle t.run) (Some (taken spec t a)) None (λ _. of_taken spec t a fit) (λ _. tt)

  of_begin : (t : State) (r : Run) (n cpu : ℕ) → CpusFit s.cpus t → Perhaps (begin_run t r n cpu)
  of_begin t run.Idle n cpu fit = tt
  of_begin t (run.Picked a) n cpu fit = either_way Perhaps (a.n == n && a.cpu == cpu) (Some (go t a)) None (λ _. of_go t a fit) (λ _. tt)
  of_begin t (run.Cancelled m at) n cpu fit = either_way Perhaps (m == n && at == cpu) (Some (t, Skip)) None (λ _. record { state = fit; reply = record { exists = tt; gone = tt } }) (λ _. tt)
  of_begin t (run.Running m at) n cpu fit = tt

  of_ended : (t : State) (cpu : ℕ) → CpusFit s.cpus t → AnswerFits s (ended t cpu)
  of_ended t cpu fit = record { state = record { home = fit.home; target = fit.target }; reply = record { exists = next_fits t cpu fit; gone = tt } }

  of_end : (t : State) (r : Run) (n cpu : ℕ) → CpusFit s.cpus t → Perhaps (end_run t r n cpu)
  of_end t run.Idle n cpu fit = tt
  of_end t (run.Picked a) n cpu fit = tt
  of_end t (run.Cancelled m at) n cpu fit = either_way Perhaps (m == n && at == cpu) (Some (ended t cpu)) None (λ _. of_ended t cpu fit) (λ _. tt)
  of_end t (run.Running m at) n cpu fit = either_way Perhaps (m == n && at == cpu) (Some (ended t cpu)) None (λ _. of_ended t cpu fit) (λ _. tt)

  of_serve : (spec : Spec) (t : State) (op : RunOp) → CpusFit s.cpus t → Perhaps (serve spec t op)
  of_serve spec t (Pick n cpu at) fit = of_pick spec t t.armed n cpu at fit
  of_serve spec t (Begin n cpu) fit = of_begin t t.run n cpu fit
  of_serve spec t (End n cpu) fit = of_end t t.run n cpu fit

  -- ---- any answer

  of_step : (spec : Spec) (t : State) (op : Op) → CpusFit s.cpus t → OpExists s op → Perhaps (step spec t op)
  of_step spec t (Call op) fit exists = record { state = fit_call s.cpus some t op fit (call_names op exists); reply = of_call t op fit exists }
  of_step spec t (Serve op) fit exists = of_serve spec t op fit

  pub answer_fits : (spec : Spec) (t : State) (op : Op) (outcome : State × Reply) → step spec t op ≡ Some outcome → CpusFit s.cpus t → OpExists s op → AnswerFits s outcome
  answer_fits spec t op outcome is fit exists = subst Perhaps is (of_step spec t op fit exists)
