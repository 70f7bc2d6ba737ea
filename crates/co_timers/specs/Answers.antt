-- The words of a handle's answers, by the callout's replies, and why a call is refused.
use Rattle.std.specs.Prelude.{◌≡◌, ℕ, ◌==◌, Bool, true, false, ℤ, pos, negsuc, nat_lt, length, if◌then◌else◌, Result, Ok, Err}
use Rattle.std.specs.declared.option.Option.{Option}
use Rattle.std.specs.declared.option.Option.TheVariants.{Some, None}
use Rattle.co_lock.specs.declared.held.Held.{Held}
use Rattle.co_lock.specs.Covers.{covers}
use Rattle.co_object.specs.declared.op.CallOp.{CallOp}
use Rattle.co_object.specs.declared.op.CallOp.TheVariants.{Plain, DrainTry}
use Rattle.co_object.specs.declared.op.PlainOp.TheVariants.{Reset, Schedule}
use Rattle.co_object.specs.declared.reply.Reply.{Reply}
use Rattle.co_object.specs.declared.reply.Reply.TheVariants as reply
use Rattle.co_desk.specs.declared.params.Params.{Params}
use Rattle.co_desk.specs.Params.{spec_at}
use Rattle.co_timers.specs.declared.answers.AsyncDrained.{AsyncDrained}
use Rattle.co_timers.specs.declared.answers.AsyncDrained.TheVariants as later
use Rattle.co_timers.specs.declared.answers.Drained.{Drained}
use Rattle.co_timers.specs.declared.answers.Drained.TheVariants as over
use Rattle.co_timers.specs.declared.answers.Refused.{Refused}
use Rattle.co_timers.specs.declared.answers.Refused.TheVariants.{NoCallout, NoCpu, NotHeld, HoldsLock}
use Rattle.co_timers.specs.declared.answers.Reset.{Reset as ResetWord}
use Rattle.co_timers.specs.declared.answers.Reset.TheVariants as armed
use Rattle.co_timers.specs.declared.answers.Stopped.{Stopped}
use Rattle.co_timers.specs.declared.answers.Stopped.TheVariants as stopped
use Rattle.co_timers.specs.Acts.{IsAct}
use Rattle.co_timers.specs.Handles.{HandleView}

-- ---- the words

-- the code is 1
abbrev pub is_one : ℤ → Bool
is_one (pos n) = n == 1
is_one (negsuc n) = false

abbrev pub reset_word : Reply → Option ResetWord
reset_word (reply.Armed code n cpu off) = Some (armed.Armed (is_one code))
reset_word (reply.NotArmed code) = Some (armed.Draining (is_one code))
reset_word reply.NoHandler = Some armed.NoHandler
reset_word reply.Worn = Some armed.Worn
reset_word reply.Retired = Some armed.Retired
reset_word _ = None

abbrev pub stop_code_word : ℤ → Stopped
stop_code_word (pos n) = if n == 0 then stopped.Running else stopped.Cancelled
stop_code_word (negsuc n) = stopped.Nothing

abbrev pub stop_word : Reply → Option Stopped
stop_word (reply.Stopped code off) = Some (stop_code_word code)
stop_word reply.Retired = Some stopped.Retired
stop_word _ = None

abbrev pub drain_word : Reply → Option Drained
drain_word (reply.Drained code off) = Some (if is_one code then over.Cancelled else over.Nothing)
drain_word _ = None

abbrev pub async_code_word : ℤ → AsyncDrained
async_code_word (pos n) = if n == 0 then later.Begun else later.Cancelled
async_code_word (negsuc n) = later.Nothing

abbrev pub async_word : Reply → Option AsyncDrained
async_word (reply.Stopped code off) = Some (async_code_word code)
async_word reply.Busy = Some later.Busy
async_word reply.Retired = Some later.Retired
async_word _ = None

-- ---- the refusals

abbrev pub is_cpu : ℕ → Option ℕ → Bool
is_cpu cpus None = true
is_cpu cpus (Some cpu) = nat_lt cpu cpus

-- a CPU that the call names exists
abbrev pub names_cpu : ℕ → CallOp → Bool
names_cpu cpus (Plain (Reset due prec func arg cpu)) = is_cpu cpus cpu
names_cpu cpus (Plain (Schedule due prec cpu)) = is_cpu cpus cpu
names_cpu cpus _ = true

-- how a hold is refused that doesn't cover the call
abbrev pub uncovered : CallOp → Refused
uncovered (Plain op) = NotHeld
uncovered (DrainTry took) = HoldsLock

-- why a call on callout i under this hold is refused, by what comes first
abbrev pub refusal : Params → Option Held → ℕ → CallOp → Option Refused
refusal p hold i op =
    if nat_lt i (length p.specs) then
    (if names_cpu p.cpus op then (if covers hold (spec_at p i) op then None else Some (uncovered op)) else Some NoCpu)
    else Some NoCallout

-- ---- the answers

-- a call is refused exactly where there is a cause, and then nothing has changed. Else it is an act of the handle, and its
-- reply is told in words
abbrev pub IsSaid : {A : Type 0} → (Reply → Option A) → HandleView → Option Held → ℕ → CallOp → Result A Refused → HandleView → Type 0
IsSaid word p hold i op (Ok said) q = (refusal p.passes.params hold i op ≡ None) × ((r : Reply) × (word r ≡ Some said) × IsAct p i op r q)
IsSaid word p hold i op (Err why) q = (refusal p.passes.params hold i op ≡ Some why) × (q ≡ p)
