-- What a callout's answer names of functions exists: those of its state after it, and those of its reply.
use Rattle.std.proofs.Common.{◌≡◌, ℕ, Bool, true, false, not, ◌&&◌, ◌||◌, ◌==◌, subst, Option, Some, None}
use Rattle.std.specs.Prelude.{⊤, is_some, unwrap_or}
use Rattle.co_object.specs.declared.Spec.{Spec}
use Rattle.co_object.specs.declared.Arming.{Arming}
use Rattle.co_object.specs.declared.Run.{Run}
use Rattle.co_object.specs.declared.Run.TheVariants as run
use Rattle.co_object.specs.declared.State.{State}
use Rattle.co_object.specs.declared.PlainOp.{PlainOp}
use Rattle.co_object.specs.declared.PlainOp.TheVariants.{Reset, Schedule, Stop, AsyncDrain, Active, Pending, Deactivate, Init, Retire}
use Rattle.co_object.specs.declared.CallOp.{CallOp}
use Rattle.co_object.specs.declared.CallOp.TheVariants.{Plain, DrainTry}
use Rattle.co_object.specs.declared.RunOp.{RunOp}
use Rattle.co_object.specs.declared.RunOp.TheVariants.{Pick, Begin, End}
use Rattle.co_object.specs.declared.Op.{Op}
use Rattle.co_object.specs.declared.Op.TheVariants.{Call, Run as Serve}
use Rattle.co_object.specs.declared.Reply.{Reply}
use Rattle.co_object.specs.declared.Reply.TheVariants.{Worn, Done, InUse, Hold, Skip}
use Rattle.co_object.specs.Stand.{is_idle}
use Rattle.co_object.specs.Arm.{is_draining, cancel, arm, refuse, reset, reset_to_last, made_max}
use Rattle.co_object.specs.Stop.{stop}
use Rattle.co_object.specs.Drain.{serviced, drain_at, drain_later}
use Rattle.co_object.specs.Query.{answer}
use Rattle.co_object.specs.Serve.{has_lock, taken, go, is_due, pick_armed, begin_run, ended, end_run}
use Rattle.co_object.specs.Callout.{opening, live_call, retired_call, call, serve, step}
use Rattle.co_object.proofs.Changes.{either_way}
use Rattle.co_program.specs.declared.script.Script.{Script}
use Rattle.co_program.specs.Names.{IsFunc, FuncExists, OpNamesFunc, ReplyNamesFunc}

module _ (s : Script) where
  -- ---- what a state names

  abbrev pub ArmedFunc : Option Arming → Type 0
  ArmedFunc None = ⊤
  ArmedFunc (Some a) = IsFunc s a.func

  abbrev pub RunFunc : Run → Type 0
  RunFunc (run.Picked a) = IsFunc s a.func
  RunFunc r = ⊤

  abbrev pub LastFunc : Option (ℕ × ℕ) → Type 0
  LastFunc None = ⊤
  LastFunc (Some last) = IsFunc s last.0

  pub record StateFuncs (t : State) : Type 0 where
    pub armed : ArmedFunc t.armed
    pub run : RunFunc t.run
    pub drain : FuncExists s t.adrain
    pub last : LastFunc t.last

  pub record Keeps (o : State × Reply) : Type 0 where
    pub state : StateFuncs o.0
    pub reply : ReplyNamesFunc s o.1

  pub open_funcs : (made : ℕ) → StateFuncs (opening made)
  open_funcs made = record { armed = tt; run = tt; drain = tt; last = tt }

  cancelled : (r : Run) → RunFunc (cancel r)
  cancelled run.Idle = tt
  cancelled (run.Picked a) = tt
  cancelled (run.Cancelled n cpu) = tt
  cancelled (run.Running n cpu) = tt

  -- ---- calls

  of_stop : (t : State) → StateFuncs t → Keeps (stop t)
  of_stop t f = record { state = record { armed = tt; run = cancelled t.run; drain = f.drain; last = f.last }; reply = tt }

  of_reset : (t : State) (due prec func arg : ℕ) (cpu : Option ℕ) → StateFuncs t → IsFunc s func → Keeps (reset t due prec func arg cpu)
  of_reset t due prec func arg cpu f is =
      either_way Keeps (t.made == made_max) (t, Worn) _ (λ _. record { state = f; reply = tt }) (λ _.
      either_way Keeps (is_draining t && not (is_idle t.run)) (refuse t) (arm t due prec func arg (unwrap_or cpu t.home))
      (λ _. record { state = record { armed = f.armed; run = cancelled t.run; drain = f.drain; last = f.last }; reply = tt })
      (λ _. record { state = record { armed = is; run = cancelled t.run; drain = f.drain; last = is }; reply = tt }))

  of_schedule : (t : State) (last : Option (ℕ × ℕ)) (due prec : ℕ) (cpu : Option ℕ) → StateFuncs t → LastFunc last → Keeps (reset_to_last t last due prec cpu)
  of_schedule t None due prec cpu f is = record { state = f; reply = tt }
  of_schedule t (Some last) due prec cpu f is = of_reset t due prec last.0 last.1 cpu f is

  of_later : (t : State) (standing : Option ℕ) (func : ℕ) → StateFuncs t → IsFunc s func → Keeps (drain_later t standing func)
  of_later t (Some g) func f is = record { state = f; reply = tt }
  of_later t None func f is = record { state = record { armed = tt; run = f.run; drain = is; last = f.last }; reply = tt }

  of_answer : (b : Bool) → ReplyNamesFunc s (answer b)
  of_answer true = tt
  of_answer false = tt

  of_live : (t : State) (op : PlainOp) → StateFuncs t → OpNamesFunc s (Call (Plain op)) → Keeps (live_call t op)
  of_live t (Reset due prec func arg cpu) f is = of_reset t due prec func arg cpu f is
  of_live t (Schedule due prec cpu) f is = of_schedule t t.last due prec cpu f f.last
  of_live t Stop f is = of_stop t f
  of_live t (AsyncDrain func) f is = either_way Keeps (is_idle t.run) (stop t) (drain_later t t.adrain func) (λ _. of_stop t f) (λ _. of_later t t.adrain func f is)
  of_live t Active f is = record { state = f; reply = of_answer t.active }
  of_live t Pending f is = record { state = f; reply = of_answer (is_some t.armed) }
  of_live t Deactivate f is = record { state = record { armed = f.armed; run = f.run; drain = f.drain; last = f.last }; reply = tt }
  of_live t Init f is = record { state = f; reply = tt }
  of_live t Retire f is =
      either_way Keeps (is_some t.armed || not (is_idle t.run)) (t, InUse (is_some t.armed) (not (is_idle t.run))) (record t { live = false }, Done)
      (λ _. record { state = f; reply = tt })
      (λ _. record { state = record { armed = f.armed; run = f.run; drain = f.drain; last = f.last }; reply = tt })

  of_retired : (t : State) (op : PlainOp) → StateFuncs t → Keeps (retired_call t op)
  of_retired t Init f = record { state = record { armed = f.armed; run = f.run; drain = f.drain; last = tt }; reply = tt }
  of_retired t (Reset due prec func arg cpu) f = record { state = f; reply = tt }
  of_retired t (Schedule due prec cpu) f = record { state = f; reply = tt }
  of_retired t Stop f = record { state = f; reply = tt }
  of_retired t (AsyncDrain func) f = record { state = f; reply = tt }
  of_retired t Active f = record { state = f; reply = tt }
  of_retired t Pending f = record { state = f; reply = tt }
  of_retired t Deactivate f = record { state = f; reply = tt }
  of_retired t Retire f = record { state = f; reply = tt }

  of_drain : (t : State) (o : Option ℕ) (took : Bool) → StateFuncs t → Keeps (drain_at t o took)
  of_drain t None took f = record { state = record { armed = tt; run = f.run; drain = f.drain; last = f.last }; reply = tt }
  of_drain t (Some m) took f = record { state = record { armed = tt; run = f.run; drain = f.drain; last = f.last }; reply = tt }

  of_call : (t : State) (op : CallOp) → StateFuncs t → OpNamesFunc s (Call op) → Keeps (call t op)
  of_call t (Plain op) f is = either_way Keeps t.live (live_call t op) (retired_call t op) (λ _. of_live t op f is) (λ _. of_retired t op f)
  of_call t (DrainTry took) f is = of_drain t (serviced t.run) (is_some t.armed || took) f

  -- ---- services

  abbrev Perhaps : Option (State × Reply) → Type 0
  Perhaps None = ⊤
  Perhaps (Some o) = Keeps o

  of_go : (t : State) (a : Arming) → StateFuncs t → IsFunc s a.func → Keeps (go t a)
  of_go t a f is = record { state = record { armed = f.armed; run = tt; drain = f.drain; last = f.last }; reply = is }

  of_taken : (spec : Spec) (t : State) (a : Arming) → StateFuncs t → IsFunc s a.func → Keeps (taken spec t a)
  of_taken spec t a f is =
      either_way Keeps (has_lock spec.lock) (record t { armed = None; run = run.Picked a }, Hold) (go (record t { armed = None }) a)
      (λ _. record { state = record { armed = tt; run = is; drain = f.drain; last = f.last }; reply = tt })
      (λ _. of_go (record t { armed = None }) a (record { armed = tt; run = f.run; drain = f.drain; last = f.last }) is)

  of_pick : (spec : Spec) (t : State) (o : Option Arming) (n cpu at : ℕ) → StateFuncs t → ArmedFunc o → Perhaps (pick_armed spec t o n cpu at)
  of_pick spec t None n cpu at f is = tt
  of_pick spec t (Some a) n cpu at f is = either_way Perhaps (is_due a n cpu at && is_idle t.run) (Some (taken spec t a)) None (λ _. of_taken spec t a f is) (λ _. tt)

  of_begin : (t : State) (r : Run) (n cpu : ℕ) → StateFuncs t → RunFunc r → Perhaps (begin_run t r n cpu)
  of_begin t run.Idle n cpu f is = tt
  of_begin t (run.Picked a) n cpu f is = either_way Perhaps (a.n == n && a.cpu == cpu) (Some (go t a)) None (λ _. of_go t a f is) (λ _. tt)
  of_begin t (run.Cancelled m at) n cpu f is = either_way Perhaps (m == n && at == cpu) (Some (t, Skip)) None (λ _. record { state = f; reply = tt }) (λ _. tt)
  of_begin t (run.Running m at) n cpu f is = tt

  of_ended : (t : State) (cpu : ℕ) → StateFuncs t → Keeps (ended t cpu)
  of_ended t cpu f = record { state = record { armed = f.armed; run = tt; drain = tt; last = f.last }; reply = f.drain }

  of_end : (t : State) (r : Run) (n cpu : ℕ) → StateFuncs t → Perhaps (end_run t r n cpu)
  of_end t run.Idle n cpu f = tt
  of_end t (run.Picked a) n cpu f = tt
  of_end t (run.Cancelled m at) n cpu f = either_way Perhaps (m == n && at == cpu) (Some (ended t cpu)) None (λ _. of_ended t cpu f) (λ _. tt)
  of_end t (run.Running m at) n cpu f = either_way Perhaps (m == n && at == cpu) (Some (ended t cpu)) None (λ _. of_ended t cpu f) (λ _. tt)

  of_serve : (spec : Spec) (t : State) (op : RunOp) → StateFuncs t → Perhaps (serve spec t op)
  of_serve spec t (Pick n cpu at) f = of_pick spec t t.armed n cpu at f f.armed
  of_serve spec t (Begin n cpu) f = of_begin t t.run n cpu f f.run
  of_serve spec t (End n cpu) f = of_end t t.run n cpu f

  -- ---- any answer

  of_step : (spec : Spec) (t : State) (op : Op) → StateFuncs t → OpNamesFunc s op → Perhaps (step spec t op)
  of_step spec t (Call op) f is = of_call t op f is
  of_step spec t (Serve op) f is = of_serve spec t op f

  pub funcs_kept : (spec : Spec) (t : State) (op : Op) (o : State × Reply) → step spec t op ≡ Some o → StateFuncs t → OpNamesFunc s op → Keeps o
  funcs_kept spec t op o is f names = subst Perhaps is (of_step spec t op f names)
