-- An accepted arming is the one that the reply and the operation name.
use Rattle.std.proofs.Common.{◌≡◌, ℕ, ◌==◌, Bool, true, false, not, ◌&&◌, ◌||◌, refl}
use Rattle.std.specs.Prelude.{is_some, unwrap_or}
use Rattle.std.specs.declared.option.Option.{Option}
use Rattle.std.specs.declared.option.Option.TheVariants.{Some, None}
use Rattle.co_object.specs.declared.state.Arming.{Arming}
use Rattle.co_object.specs.declared.state.State.{State}
use Rattle.co_object.specs.declared.op.CallOp.{CallOp}
use Rattle.co_object.specs.declared.op.CallOp.TheVariants.{Plain, DrainTry}
use Rattle.co_object.specs.declared.op.PlainOp.{PlainOp}
use Rattle.co_object.specs.declared.op.PlainOp.TheVariants.{Reset, Schedule, Stop, AsyncDrain, Active, Pending, Deactivate, Init, Retire}
use Rattle.co_object.specs.declared.reply.Reply.{Reply}
use Rattle.co_object.specs.declared.reply.Reply.TheVariants.{Armed, Worn, InUse, Done}
use Rattle.co_object.specs.Arm.{arm, refuse, reset, reset_to_last, made_max, is_draining}
use Rattle.co_object.specs.Stop.{stop}
use Rattle.co_object.specs.Drain.{drain_at, drain_later, serviced}
use Rattle.co_object.specs.Query.{answer}
use Rattle.co_object.specs.Callout.{call, live_call, retired_call}
use Rattle.co_object.specs.Stand.{is_idle}
use Rattle.co_object.proofs.Changes.{either_way}
use Rattle.co_desk.specs.Call.{due_named}

-- where the reply says that an arming was accepted, it is due at this time
abbrev pub IsDue : ℕ → Reply → Option Arming → Type 0
IsDue due (Armed code n cpu off) armed = (a : Arming) × (armed ≡ Some a) × (a.due ≡ due)
IsDue due _ armed = Unit {0}

abbrev By : ℕ → State × Reply → Type 0
By due o = IsDue due o.1 o.0.armed

due_reset : (s : State) (due prec func arg : ℕ) (cpu : Option ℕ) → By due (reset s due prec func arg cpu)
due_reset s due prec func arg cpu =
    either_way (By due) (s.made == made_max) (s, Worn) _ (λ _. tt) (λ _.
    either_way (By due) (is_draining s && not (is_idle s.run)) (refuse s) (arm s due prec func arg (unwrap_or cpu s.home)) (λ _. tt) (λ _. (_, refl, refl)))

due_schedule : (s : State) (o : Option (ℕ × ℕ)) (due prec : ℕ) (cpu : Option ℕ) → By due (reset_to_last s o due prec cpu)
due_schedule s None due prec cpu = tt
due_schedule s (Some l) due prec cpu = due_reset s due prec l.0 l.1 cpu

due_later : (s : State) (o : Option ℕ) (func due : ℕ) → By due (drain_later s o func)
due_later s None func due = tt
due_later s (Some d) func due = tt

due_try : (s : State) (o : Option ℕ) (took : Bool) (due : ℕ) → By due (drain_at s o took)
due_try s None took due = tt
due_try s (Some n) took due = tt

due_answer : (s : State) (b : Bool) (due : ℕ) → By due (s, answer b)
due_answer s true due = tt
due_answer s false due = tt

due_live : (s : State) (op : PlainOp) → By (due_named (Plain op)) (live_call s op)
due_live s (Reset due prec func arg cpu) = due_reset s due prec func arg cpu
due_live s (Schedule due prec cpu) = due_schedule s s.last due prec cpu
due_live s Stop = tt
due_live s (AsyncDrain func) = either_way (By 0) (is_idle s.run) (stop s) (drain_later s s.adrain func) (λ _. tt) (λ _. due_later s s.adrain func 0)
due_live s Active = due_answer s s.active 0
due_live s Pending = due_answer s (is_some s.armed) 0
due_live s Deactivate = tt
due_live s Init = tt
due_live s Retire = either_way (By 0) (is_some s.armed || not (is_idle s.run)) (s, InUse (is_some s.armed) (not (is_idle s.run))) (record s { live = false }, Done) (λ _. tt) (λ _. tt)

due_retired : (s : State) (op : PlainOp) → By (due_named (Plain op)) (retired_call s op)
due_retired s (Reset due prec func arg cpu) = tt
due_retired s (Schedule due prec cpu) = tt
due_retired s Stop = tt
due_retired s (AsyncDrain func) = tt
due_retired s Active = tt
due_retired s Pending = tt
due_retired s Deactivate = tt
due_retired s Init = tt
due_retired s Retire = tt

-- an accepted arming is due at the time that the operation names
pub is_due : (s : State) (op : CallOp) → IsDue (due_named op) (call s op).1 (call s op).0.armed
is_due s (Plain op) = either_way (By (due_named (Plain op))) s.live (live_call s op) (retired_call s op) (λ _. due_live s op) (λ _. due_retired s op)
is_due s (DrainTry took) = due_try s (serviced s.run) (is_some s.armed || took) 0
