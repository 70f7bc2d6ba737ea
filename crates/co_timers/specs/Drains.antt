-- A drain: its tries, one after the other, all of them one act.
use Rattle.std.specs.Prelude.{◌≡◌, ◌==◌, ℕ, Bool, true, false, Result, Ok, Err}
use Rattle.std.specs.declared.option.Option.{Option}
use Rattle.std.specs.declared.option.Option.TheVariants.{Some, None}
use Rattle.co_lock.specs.declared.held.Held.{Held}
use Rattle.co_object.specs.declared.op.CallOp.TheVariants.{DrainTry}
use Rattle.co_object.specs.declared.reply.Reply.{Reply}
use Rattle.co_object.specs.declared.reply.Reply.TheVariants.{Wait}
use Rattle.co_object.specs.declared.reply.Reply.TheVariants as reply
use Rattle.co_desk.specs.Views.{PassesView}
use Rattle.co_timers.specs.declared.answers.Drained.{Drained}
use Rattle.co_timers.specs.declared.answers.Refused.{Refused}
use Rattle.co_timers.specs.declared.answers.Refused.TheVariants.{DrainsItself}
use Rattle.co_timers.specs.declared.timers.Tried.{Tried}
use Rattle.co_timers.specs.declared.timers.Tried.TheVariants.{Over, Waits}
use Rattle.co_timers.specs.Acts.{IsCallMade}
use Rattle.co_timers.specs.Answers.{drain_word, refusal}
use Rattle.co_timers.specs.Handles.{HandleView, next_act}

-- tries that were answered Wait. The next one says what the last answer said, whether one took an arming away
pub data Waited (p : PassesView) (act i : ℕ) : PassesView → Bool → Type 0 where
  start : Waited p act i p false
  again : (q r : PassesView) (took : Bool) (n : ℕ) (takes : Bool) (off : Option ℕ) → Waited p act i q took
      → IsCallMade q act i (DrainTry took) (Wait n takes off) r → Waited p act i r takes

-- such tries, and then one that was answered otherwise
pub record IsDrainOf (p : PassesView) (act i : ℕ) (said : Drained) (q : PassesView) : Type 0 where
  pub last : PassesView
  pub took : Bool
  pub waits : Waited p act i last took
  pub reply : Reply
  pub word : drain_word reply ≡ Some said
  pub made : IsCallMade last act i (DrainTry took) reply q

-- the same as an act of a handle
pub record IsDrain (p : HandleView) (i : ℕ) (said : Drained) (q : HandleView) : Type 0 where
  pub drained : IsDrainOf p.passes p.act i said q.passes
  pub counts : q.act ≡ next_act p.act

-- it is refused exactly where there is a cause, and then nothing has changed
abbrev pub IsDrained : HandleView → Option Held → ℕ → Result Drained Refused → HandleView → Type 0
IsDrained p hold i (Ok said) q = (refusal p.passes.params hold i (DrainTry false) ≡ None) × IsDrain p i said q
IsDrained p hold i (Err why) q = (refusal p.passes.params hold i (DrainTry false) ≡ Some why) × (q ≡ p)

abbrev pub IsDrainedIf : Bool → HandleView → Option Held → ℕ → Result Drained Refused → HandleView → Type 0
IsDrainedIf true p hold i said q = (said ≡ Err DrainsItself) × (q ≡ p)
IsDrainedIf false p hold i said q = IsDrained p hold i said q

-- in the service of callout `own` a drain of that one is refused by name, and then nothing has changed. Else it is a drain
abbrev pub IsDrainedWithin : (own : ℕ) → HandleView → Option Held → ℕ → Result Drained Refused → HandleView → Type 0
IsDrainedWithin own p hold i said q = IsDrainedIf (i == own) p hold i said q

-- ---- what one try says

abbrev pub is_try : Reply → Bool
is_try (Wait n took off) = true
is_try (reply.Drained code off) = true
is_try _ = false

abbrev pub SaysTry : Reply → Tried → Type 0
SaysTry r (Over said) = drain_word r ≡ Some said
SaysTry r (Waits n takes) = (off : Option ℕ) × (r ≡ Wait n takes off)
