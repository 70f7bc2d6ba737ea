-- Which replies a call may have: each has its word.
use Rattle.std.proofs.Common.{◌≡◌, ℕ, Bool, true, false, cond, refl, ◌&&◌, ◌||◌, ◌==◌, not}
use Rattle.std.specs.Prelude.{is_some, unwrap_or}
use Rattle.std.specs.declared.option.Option.{Option}
use Rattle.std.specs.declared.option.Option.TheVariants.{Some, None}
use Rattle.co_object.specs.declared.op.CallOp.TheVariants.{DrainTry, Plain}
use Rattle.co_object.specs.declared.op.PlainOp.TheVariants.{AsyncDrain, Reset, Schedule, Stop}
use Rattle.co_object.specs.declared.reply.Reply.{Reply}
use Rattle.co_object.specs.declared.reply.Reply.TheVariants.{Retired, Worn}
use Rattle.co_object.specs.declared.state.State.{State}
use Rattle.co_object.specs.Arm.{arm, is_draining, made_max, refuse, reset, reset_to_last}
use Rattle.co_object.specs.Callout.{call}
use Rattle.co_object.specs.Drain.{async_drain, drain_at, drain_later, serviced}
use Rattle.co_object.specs.Stand.{is_idle}
use Rattle.co_object.specs.Stop.{stop}
use Rattle.co_timers.specs.Answers.{async_word, reset_word, stop_word}
use Rattle.co_timers.specs.Drains.{is_try}

-- what holds of both of two outcomes holds of the one that is chosen
module _ (P : State × Reply → Type 0) where
  either : (b : Bool) (x y : State × Reply) → P x → P y → P (cond b x y)
  either true x y h k = h
  either false x y h k = k

abbrev IsReset : State × Reply → Type 0
IsReset o = is_some (reset_word o.1) ≡ true

abbrev IsStop : State × Reply → Type 0
IsStop o = is_some (stop_word o.1) ≡ true

abbrev IsAsync : State × Reply → Type 0
IsAsync o = is_some (async_word o.1) ≡ true

resets : (s : State) (due prec func arg : ℕ) (cpu : Option ℕ) → IsReset (reset s due prec func arg cpu)
resets s due prec func arg cpu =
    either IsReset (s.made == made_max) (s, Worn) (cond (is_draining s && not (is_idle s.run)) (refuse s) (arm s due prec func arg (unwrap_or cpu s.home))) refl
    (either IsReset (is_draining s && not (is_idle s.run)) (refuse s) (arm s due prec func arg (unwrap_or cpu s.home)) refl refl)

schedules : (s : State) (last : Option (ℕ × ℕ)) (due prec : ℕ) (cpu : Option ℕ) → IsReset (reset_to_last s last due prec cpu)
schedules s None due prec cpu = refl
schedules s (Some l) due prec cpu = resets s due prec l.0 l.1 cpu

pub reset_said : (s : State) (due prec func arg : ℕ) (cpu : Option ℕ) → is_some (reset_word (call s (Plain (Reset due prec func arg cpu))).1) ≡ true
reset_said s due prec func arg cpu = either IsReset s.live (reset s due prec func arg cpu) (s, Retired) (resets s due prec func arg cpu) refl

pub schedule_said : (s : State) (due prec : ℕ) (cpu : Option ℕ) → is_some (reset_word (call s (Plain (Schedule due prec cpu))).1) ≡ true
schedule_said s due prec cpu = either IsReset s.live (reset_to_last s s.last due prec cpu) (s, Retired) (schedules s s.last due prec cpu) refl

pub stop_said : (s : State) → is_some (stop_word (call s (Plain Stop)).1) ≡ true
stop_said s = either IsStop s.live (stop s) (s, Retired) refl refl

laters : (s : State) (standing : Option ℕ) (func : ℕ) → IsAsync (drain_later s standing func)
laters s None func = refl
laters s (Some x) func = refl

pub async_said : (s : State) (func : ℕ) → is_some (async_word (call s (Plain (AsyncDrain func))).1) ≡ true
async_said s func =
    either IsAsync s.live (async_drain s func) (s, Retired) (either IsAsync (is_idle s.run) (stop s) (drain_later s s.adrain func) refl (laters s s.adrain func)) refl

drains : (s : State) (o : Option ℕ) (took : Bool) → is_try (drain_at s o took).1 ≡ true
drains s None took = refl
drains s (Some n) took = refl

pub drain_said : (s : State) (took : Bool) → is_try (call s (DrainTry took)).1 ≡ true
drain_said s took = drains s (serviced s.run) (is_some s.armed || took)
