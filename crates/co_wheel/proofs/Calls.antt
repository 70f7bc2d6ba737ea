-- What a call does to where a callout's arming stands: it stays, it goes, or a new one comes. By the operation's cases.
use Rattle.std.proofs.Common.{◌≡◌, ℕ, Bool, true, false, cond, not, ◌&&◌, ◌||◌, ◌==◌, ◌+◌, ℤ, refl, ap}
use Rattle.std.specs.Prelude.{is_some, unwrap_or}
use Rattle.std.specs.declared.option.Option.{Option}
use Rattle.std.specs.declared.option.Option.TheVariants.{Some, None}
use Rattle.co_object.specs.declared.state.Arming.{Arming}
use Rattle.co_object.specs.declared.state.Run.{Run}
use Rattle.co_object.specs.declared.state.Run.TheVariants.{Idle, Picked, Cancelled, Running}
use Rattle.co_object.specs.declared.state.State.{State}
use Rattle.co_object.specs.declared.op.PlainOp.{PlainOp}
use Rattle.co_object.specs.declared.op.PlainOp.TheVariants.{Reset, Schedule, Stop, AsyncDrain, Active, Pending, Deactivate, Init, Retire}
use Rattle.co_object.specs.declared.op.CallOp.{CallOp}
use Rattle.co_object.specs.declared.op.CallOp.TheVariants.{Plain, DrainTry}
use Rattle.co_object.specs.declared.reply.Reply.{Reply}
use Rattle.co_object.specs.declared.reply.Reply.TheVariants.{Armed, NoHandler, Worn, Live, Retired, Busy, Done, InUse}
use Rattle.co_object.specs.Arm.{cancel, arm, refuse, reset, reset_to_last, made_max, is_draining}
use Rattle.co_object.specs.Stop.{stop}
use Rattle.co_object.specs.Drain.{drain_at, drain_later, serviced}
use Rattle.co_object.specs.Query.{answer}
use Rattle.co_object.specs.Callout.{call, live_call, retired_call}
use Rattle.co_object.specs.Entries.{is_armed}
use Rattle.co_object.specs.Group.{off_of}
use Rattle.co_object.specs.Stand.{stand_of, listed_cpu, is_free_at, off, is_idle, Deferred, Listed}
use Rattle.co_object.proofs.Changes.{either_way}

-- nothing of the queue changes, or the arming is taken away, or a new one stands in its place
pub data Shift (s : State) : State → Reply → Type 0 where
  stays : (t : State) (r : Reply) → is_armed r ≡ false → off_of r ≡ None → t.armed ≡ s.armed → off t ≡ off s → Shift s t r
  goes : (t : State) (r : Reply) → is_armed r ≡ false → off_of r ≡ off s → t.armed ≡ None → Shift s t r
  comes : (t : State) (a : Arming) (code : ℤ) → t.armed ≡ Some a → t.made ≡ a.n + 1 → Shift s t (Armed code a.n a.cpu (off s))

abbrev By : State → State × Reply → Type 0
By s o = Shift s o.0 o.1

free-cancel : (r : Run) (cpu : ℕ) → is_free_at (cancel r) cpu ≡ is_free_at r cpu
free-cancel Idle cpu = refl
free-cancel (Picked a) cpu = refl
free-cancel (Cancelled n at) cpu = refl
free-cancel (Running n at) cpu = refl

off-cancel : (o : Option Arming) (r : Run) → listed_cpu (stand_of o (cancel r)) ≡ listed_cpu (stand_of o r)
off-cancel None r = refl
off-cancel (Some a) r = ap (λ b. listed_cpu (cond b (Listed a.cpu) (Deferred a.cpu))) (free-cancel r a.cpu)

shift-reset : (s : State) (due prec func arg : ℕ) (cpu : Option ℕ) → By s (reset s due prec func arg cpu)
shift-reset s due prec func arg cpu =
    either_way (By s) (s.made == made_max) (s, Worn) _ (λ _. stays s Worn refl refl refl refl) (λ _.
    either_way (By s) (is_draining s && not (is_idle s.run)) (refuse s) (arm s due prec func arg (unwrap_or cpu s.home))
    (λ _. stays _ _ refl refl refl (off-cancel s.armed s.run))
    (λ _. comes _ (record { n = s.made; due = due; prec = prec; func = func; arg = arg; cpu = unwrap_or cpu s.home }) _ refl refl))

shift-schedule : (s : State) (o : Option (ℕ × ℕ)) (due prec : ℕ) (cpu : Option ℕ) → By s (reset_to_last s o due prec cpu)
shift-schedule s None due prec cpu = stays s NoHandler refl refl refl refl
shift-schedule s (Some l) due prec cpu = shift-reset s due prec l.0 l.1 cpu

shift-stop : (s : State) → By s (stop s)
shift-stop s = goes _ _ refl refl refl

shift-later : (s : State) (o : Option ℕ) (func : ℕ) → By s (drain_later s o func)
shift-later s (Some d) func = stays s Busy refl refl refl refl
shift-later s None func = goes _ _ refl refl refl

shift-try : (s : State) (o : Option ℕ) (took : Bool) → By s (drain_at s o took)
shift-try s None took = goes _ _ refl refl refl
shift-try s (Some n) took = goes _ _ refl refl refl

shift-answer : (s : State) (b : Bool) → By s (s, answer b)
shift-answer s true = stays s _ refl refl refl refl
shift-answer s false = stays s _ refl refl refl refl

shift-live : (s : State) (op : PlainOp) → By s (live_call s op)
shift-live s (Reset due prec func arg cpu) = shift-reset s due prec func arg cpu
shift-live s (Schedule due prec cpu) = shift-schedule s s.last due prec cpu
shift-live s Stop = shift-stop s
shift-live s (AsyncDrain func) = either_way (By s) (is_idle s.run) (stop s) (drain_later s s.adrain func) (λ _. shift-stop s) (λ _. shift-later s s.adrain func)
shift-live s Active = shift-answer s s.active
shift-live s Pending = shift-answer s (is_some s.armed)
shift-live s Deactivate = stays _ _ refl refl refl refl
shift-live s Init = stays s Live refl refl refl refl
shift-live s Retire = either_way (By s) (is_some s.armed || not (is_idle s.run)) (s, InUse (is_some s.armed) (not (is_idle s.run))) (record s { live = false }, Done)
    (λ _. stays _ _ refl refl refl refl) (λ _. stays _ _ refl refl refl refl)

shift-retired : (s : State) (op : PlainOp) → By s (retired_call s op)
shift-retired s (Reset due prec func arg cpu) = stays s Retired refl refl refl refl
shift-retired s (Schedule due prec cpu) = stays s Retired refl refl refl refl
shift-retired s Stop = stays s Retired refl refl refl refl
shift-retired s (AsyncDrain func) = stays s Retired refl refl refl refl
shift-retired s Active = stays s Retired refl refl refl refl
shift-retired s Pending = stays s Retired refl refl refl refl
shift-retired s Deactivate = stays s Retired refl refl refl refl
shift-retired s Init = stays _ _ refl refl refl refl
shift-retired s Retire = stays s Retired refl refl refl refl

pub shift : (s : State) (op : CallOp) → Shift s (call s op).0 (call s op).1
shift s (Plain op) = either_way (By s) s.live (live_call s op) (retired_call s op) (λ _. shift-live s op) (λ _. shift-retired s op)
shift s (DrainTry took) = shift-try s (serviced s.run) (is_some s.armed || took)
