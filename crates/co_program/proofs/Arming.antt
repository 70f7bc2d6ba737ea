-- An accepted arming is the one that the reply and the operation name.
use Rattle.std.proofs.Common.{◌≡◌, ℕ, ◌==◌, Bool, true, false, not, ◌&&◌, ◌||◌, refl}
use Rattle.std.specs.Prelude.{is_some, unwrap_or, ⊤, Option, Some, None}
use Rattle.co_object.specs.declared.state.Arming.{Arming}
use Rattle.co_object.specs.declared.state.State.{State}
use Rattle.co_object.specs.declared.op.Op.TheVariants.{Call}
use Rattle.co_object.specs.declared.op.CallOp.{CallOp}
use Rattle.co_object.specs.declared.op.CallOp.TheVariants.{Plain, DrainTry}
use Rattle.co_object.specs.declared.op.PlainOp.{PlainOp}
use Rattle.co_object.specs.declared.op.PlainOp.TheVariants.{Reset, Schedule, Stop, AsyncDrain, Active, Pending, Deactivate, Init, Retire}
use Rattle.co_object.specs.declared.reply.Reply.{Reply}
use Rattle.co_object.specs.declared.reply.Reply.TheVariants.{Armed, Worn, InUse, Done}
use Rattle.co_object.specs.Arm.{arm, refuse, reset, reset_to_last, made_max, is_draining}
use Rattle.co_object.specs.Stop.{stop}
use Rattle.co_object.specs.Drain.{drain_at, drain_later, serviced}
use Rattle.co_object.specs.Query.{answer}
use Rattle.co_object.specs.Callout.{call, live_call, retired_call}
use Rattle.co_object.specs.Stand.{is_idle}
use Rattle.co_object.proofs.Changes.{either_way}
use Rattle.co_program.specs.Advance.{due_of_call}

abbrev pub IsArmed : ℕ → Reply → Option Arming → Type 0
IsArmed due (Armed code n cpu off) armed = (a : Arming) × (armed ≡ Some a) × (a.n ≡ n) × (a.due ≡ due) × (a.cpu ≡ cpu)
IsArmed due _ armed = ⊤

abbrev By : ℕ → State × Reply → Type 0
By due o = IsArmed due o.1 o.0.armed

by_reset : (s : State) (due prec func arg : ℕ) (cpu : Option ℕ) → By due (reset s due prec func arg cpu)
by_reset s due prec func arg cpu =
    either_way (By due) (s.made == made_max) (s, Worn) _ (λ _. tt) (λ _.
    either_way (By due) (is_draining s && not (is_idle s.run)) (refuse s) (arm s due prec func arg (unwrap_or cpu s.home)) (λ _. tt) (λ _. (_, refl, refl, refl, refl)))

by_schedule : (s : State) (o : Option (ℕ × ℕ)) (due prec : ℕ) (cpu : Option ℕ) → By due (reset_to_last s o due prec cpu)
by_schedule s None due prec cpu = tt
by_schedule s (Some l) due prec cpu = by_reset s due prec l.0 l.1 cpu

by_later : (s : State) (o : Option ℕ) (func due : ℕ) → By due (drain_later s o func)
by_later s None func due = tt
by_later s (Some d) func due = tt

by_try : (s : State) (o : Option ℕ) (took : Bool) (due : ℕ) → By due (drain_at s o took)
by_try s None took due = tt
by_try s (Some n) took due = tt

by_answer : (s : State) (b : Bool) (due : ℕ) → By due (s, answer b)
by_answer s true due = tt
by_answer s false due = tt

by_live : (s : State) (op : PlainOp) → By (due_of_call (Call (Plain op))) (live_call s op)
by_live s (Reset due prec func arg cpu) = by_reset s due prec func arg cpu
by_live s (Schedule due prec cpu) = by_schedule s s.last due prec cpu
by_live s Stop = tt
by_live s (AsyncDrain func) = either_way (By 0) (is_idle s.run) (stop s) (drain_later s s.adrain func) (λ _. tt) (λ _. by_later s s.adrain func 0)
by_live s Active = by_answer s s.active 0
by_live s Pending = by_answer s (is_some s.armed) 0
by_live s Deactivate = tt
by_live s Init = tt
by_live s Retire = either_way (By 0) (is_some s.armed || not (is_idle s.run)) (s, InUse (is_some s.armed) (not (is_idle s.run))) (record s { live = false }, Done) (λ _. tt) (λ _. tt)

by_retired : (s : State) (op : PlainOp) → By (due_of_call (Call (Plain op))) (retired_call s op)
by_retired s (Reset due prec func arg cpu) = tt
by_retired s (Schedule due prec cpu) = tt
by_retired s Stop = tt
by_retired s (AsyncDrain func) = tt
by_retired s Active = tt
by_retired s Pending = tt
by_retired s Deactivate = tt
by_retired s Init = tt
by_retired s Retire = tt

pub is_armed : (s : State) (op : CallOp) → IsArmed (due_of_call (Call op)) (call s op).1 (call s op).0.armed
is_armed s (Plain op) = either_way (By (due_of_call (Call (Plain op)))) s.live (live_call s op) (retired_call s op) (λ _. by_live s op) (λ _. by_retired s op)
is_armed s (DrainTry took) = by_try s (serviced s.run) (is_some s.armed || took) 0
