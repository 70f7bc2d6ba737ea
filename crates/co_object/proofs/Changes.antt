-- What each operation on a callout changes, case by case: the definitions read backwards, for proofs about them.
use Rattle.std.proofs.Common.{◌∙◌, ◌≡◌, ℕ, Bool, true, false, cond, not, ◌&&◌, ◌||◌, ◌==◌, ℤ, pos, refl, ap, sym, subst}
use Rattle.std.specs.Prelude.{is_some, unwrap_or, nat_le}
use Rattle.std.specs.declared.option.Option.{Option}
use Rattle.std.specs.declared.option.Option.TheVariants.{Some, None}
use Rattle.co_object.specs.declared.spec.Spec.{Spec}
use Rattle.co_object.specs.declared.state.Arming.{Arming}
use Rattle.co_object.specs.declared.state.Run.{Run}
use Rattle.co_object.specs.declared.state.Run.TheVariants.{Idle, Picked, Cancelled, Running}
use Rattle.co_object.specs.declared.state.State.{State}
use Rattle.co_object.specs.declared.op.PlainOp.{PlainOp}
use Rattle.co_object.specs.declared.op.PlainOp.TheVariants.{Reset, Schedule, Stop, AsyncDrain, Active, Pending, Deactivate, Init, Retire}
use Rattle.co_object.specs.declared.op.CallOp.{CallOp}
use Rattle.co_object.specs.declared.op.CallOp.TheVariants.{Plain, DrainTry}
use Rattle.co_object.specs.declared.op.RunOp.TheVariants.{Pick, Begin, End}
use Rattle.co_object.specs.declared.op.Op.{Op}
use Rattle.co_object.specs.declared.op.Op.TheVariants.{Call, Run as Serve}
use Rattle.co_object.specs.declared.reply.Reply.{Reply}
use Rattle.co_object.specs.declared.reply.Reply.TheVariants.{NotArmed, Armed, Stopped, Done, Drained, Wait, Hold, Go, Ended, NoHandler, Worn, Busy, Yes, No, Live, Retired, InUse, Skip}
use Rattle.co_object.specs.Stand.{is_idle, off}
use Rattle.co_object.specs.Entries.{is_end, is_pick}
use Rattle.co_object.specs.Fate.{is_arming}
use Rattle.co_object.specs.Arm.{is_picked, cancel, is_draining, arm, refuse, reset, reset_to_last, made_max}
use Rattle.co_object.specs.Stop.{stop, rest_code, stop_code}
use Rattle.co_object.specs.Drain.{serviced, drain_at, drain_later, async_drain}
use Rattle.co_object.specs.Query.{answer}
use Rattle.co_object.specs.Lifetime.{retire, init}
use Rattle.co_object.specs.Serve.{has_lock, taken, is_due, pick_armed, begin_run, ended, end_run, go, next_of}
use Rattle.co_object.specs.Callout.{live_call, retired_call, call, step}
use Rattle.co_object.specs.History.{state_of, reply_of}

-- a reply beside which nothing changes
abbrev pub says_no : Reply → Bool
says_no NoHandler = true
says_no Worn = true
says_no Busy = true
says_no Yes = true
says_no No = true
says_no Live = true
says_no Retired = true
says_no (InUse armed serviced) = true
says_no Skip = true
says_no _ = false

-- a service on this CPU has this arming
abbrev pub is_served_by : (n cpu : ℕ) → Run → Bool
is_served_by n cpu Idle = false
is_served_by n cpu (Picked a) = a.n == n && a.cpu == cpu
is_served_by n cpu (Cancelled m at) = m == n && at == cpu
is_served_by n cpu (Running m at) = m == n && at == cpu

-- from s the operation may have this reply and lead to this state
pub data Change (s : State) : Op → Reply → State → Type 0 where
  same : (op : Op) (r : Reply) → says_no r ≡ true → is_end op ≡ false → is_pick op ≡ false → Change s op r s
  refused : (op : PlainOp) (code : ℤ) → is_arming op ≡ true → s.live ≡ true → Change s (Call (Plain op)) (NotArmed code) (record s { run = cancel s.run })
  armed : (op : PlainOp) (due prec func arg cpu : ℕ) (code : ℤ) (gone : Option ℕ) → is_arming op ≡ true → s.live ≡ true → (is_draining s && not (is_idle s.run)) ≡ false →
      Change s (Call (Plain op)) (Armed code s.made cpu gone) (arm s due prec func arg cpu).0
  stopped : (code : ℤ) (gone : Option ℕ) → s.live ≡ true → Change s (Call (Plain Stop)) (Stopped code gone) (stop s).0
  rested : (func : ℕ) (took : Bool) (gone : Option ℕ) → s.live ≡ true → is_idle s.run ≡ true → Change s (Call (Plain (AsyncDrain func))) (Stopped (rest_code took) gone) (stop s).0
  awaits : (func : ℕ) (gone : Option ℕ) → s.live ≡ true → is_idle s.run ≡ false → s.adrain ≡ None →
      Change s (Call (Plain (AsyncDrain func))) (Stopped (pos 0) gone) (record s { armed = None; active = false; adrain = Some func })
  cleared : s.live ≡ true → Change s (Call (Plain Deactivate)) Done (record s { active = false })
  retires : s.live ≡ true → s.armed ≡ None → is_idle s.run ≡ true → Change s (Call (Plain Retire)) Done (record s { live = false })
  inits : s.live ≡ false → Change s (Call (Plain Init)) Done (init s).0
  drained : (took : Bool) (code : ℤ) (gone : Option ℕ) → is_idle s.run ≡ true → Change s (Call (DrainTry took)) (Drained code gone) (record s { armed = None; active = false })
  waits : (took took' : Bool) (n : ℕ) (gone : Option ℕ) → is_idle s.run ≡ false → Change s (Call (DrainTry took)) (Wait n took' gone) (record s { armed = None; active = false; waiting = true })
  held : (a : Arming) (n cpu at : ℕ) → s.armed ≡ Some a → is_idle s.run ≡ true → (a.n == n) ≡ true → (a.cpu == cpu) ≡ true → Change s (Serve (Pick n cpu at)) Hold (record s { armed = None; run = Picked a })
  fired : (a : Arming) (n cpu at : ℕ) → s.armed ≡ Some a → is_idle s.run ≡ true → (a.n == n) ≡ true → (a.cpu == cpu) ≡ true →
      Change s (Serve (Pick n cpu at)) (Go a.func a.arg) (record s { armed = None; run = Running a.n a.cpu })
  begun : (a : Arming) (n cpu : ℕ) → s.run ≡ Picked a → (a.n == n) ≡ true → Change s (Serve (Begin n cpu)) (Go a.func a.arg) (record s { run = Running a.n a.cpu })
  over : (n cpu : ℕ) → is_idle s.run ≡ false → is_picked s.run ≡ false → is_served_by n cpu s.run ≡ true →
      Change s (Serve (End n cpu)) (Ended s.adrain (next_of s.armed cpu) s.waiting) (record s { run = Idle; waiting = false; adrain = None })

abbrev By : State → Op → State × Reply → Type 0
By s op o = Change s op o.1 o.0

abbrev Possibly : State → Op → Option (State × Reply) → Type 0
Possibly s op None = Unit {0}
Possibly s op (Some o) = By s op o

-- what holds of both choices holds of the one that is made
pub either_way : {A : Type 0} (P : A → Type 0) (b : Bool) (x y : A) → (b ≡ true → P x) → (b ≡ false → P y) → P (cond b x y)
either_way P true x y t f = t refl
either_way P false x y t f = f refl

pub both_true : (a b : Bool) → (a && b) ≡ true → (a ≡ true) × (b ≡ true)
both_true true b h = (refl, h)
both_true false b h = cc

pub both_false : (a b : Bool) → (a || b) ≡ false → (a ≡ false) × (b ≡ false)
both_false true b h = cc
both_false false b h = (refl, h)

pub not_false : (a : Bool) → not a ≡ false → a ≡ true
not_false true h = refl
not_false false h = cc

pub none_of : {A : Type 0} (o : Option A) → is_some o ≡ false → o ≡ None
none_of None h = refl
none_of (Some x) h = cc

change-reset : (s : State) (op : PlainOp) (due prec func arg : ℕ) (cpu : Option ℕ) → is_arming op ≡ true → s.live ≡ true → By s (Call (Plain op)) (reset s due prec func arg cpu)
change-reset s op due prec func arg cpu arming live =
    either_way (By s (Call (Plain op))) (s.made == made_max) (s, Worn) _ (λ _. same _ Worn refl refl refl) (λ _.
    either_way (By s (Call (Plain op))) (is_draining s && not (is_idle s.run)) (refuse s) (arm s due prec func arg (unwrap_or cpu s.home))
    (λ _. refused op _ arming live)
    (λ free. armed op due prec func arg (unwrap_or cpu s.home) _ _ arming live free))

change-schedule : (s : State) (last : Option (ℕ × ℕ)) (op : PlainOp) (due prec : ℕ) (cpu : Option ℕ) → is_arming op ≡ true → s.live ≡ true → By s (Call (Plain op)) (reset_to_last s last due prec cpu)
change-schedule s None op due prec cpu arming live = same _ NoHandler refl refl refl
change-schedule s (Some last) op due prec cpu arming live = change-reset s op due prec last.0 last.1 cpu arming live

rest_code-stop : (s : State) → is_idle s.run ≡ true → (stop s).1 ≡ Stopped (rest_code (is_some s.armed)) (off s)
rest_code-stop s idle = at_run s.run idle where
  at_run : (r : Run) → is_idle r ≡ true → Stopped (stop_code r (is_some s.armed)) (off s) ≡ Stopped (rest_code (is_some s.armed)) (off s)
  at_run Idle h = refl
  at_run (Picked a) h = cc
  at_run (Cancelled n cpu) h = cc
  at_run (Running n cpu) h = cc

change-stop-idle : (s : State) (func : ℕ) → s.live ≡ true → is_idle s.run ≡ true → By s (Call (Plain (AsyncDrain func))) (stop s)
change-stop-idle s func live idle =
    subst (λ (r : Reply). Change s (Call (Plain (AsyncDrain func))) r (stop s).0) (sym (rest_code-stop s idle)) (rested func (is_some s.armed) (off s) live idle)

change-async : (s : State) (func : ℕ) → s.live ≡ true → By s (Call (Plain (AsyncDrain func))) (async_drain s func)
change-async s func live =
    either_way (By s (Call (Plain (AsyncDrain func)))) (is_idle s.run) (stop s) _ (λ idle. change-stop-idle s func live idle) (λ busy. at_run s.adrain refl busy) where
      at_run : (o : Option ℕ) → s.adrain ≡ o → is_idle s.run ≡ false → By s (Call (Plain (AsyncDrain func))) (drain_later s o func)
      at_run None none busy = awaits func (off s) live busy none
      at_run (Some f) some busy = same _ Busy refl refl refl

change-retire : (s : State) → s.live ≡ true → By s (Call (Plain Retire)) (retire s)
change-retire s live =
    either_way (By s (Call (Plain Retire))) (is_some s.armed || not (is_idle s.run)) (s, InUse (is_some s.armed) (not (is_idle s.run))) (record s { live = false }, Done)
    (λ _. same _ _ refl refl refl)
    (λ rest. let parts = both_false (is_some s.armed) (not (is_idle s.run)) rest in
    retires live (none_of s.armed parts.0) (not_false (is_idle s.run) parts.1))

says_no-answer : (b : Bool) → says_no (answer b) ≡ true
says_no-answer true = refl
says_no-answer false = refl

change-live : (s : State) (op : PlainOp) → s.live ≡ true → By s (Call (Plain op)) (live_call s op)
change-live s (Reset due prec func arg cpu) live = change-reset s (Reset due prec func arg cpu) due prec func arg cpu refl live
change-live s (Schedule due prec cpu) live = change-schedule s s.last (Schedule due prec cpu) due prec cpu refl live
change-live s Stop live = stopped _ _ live
change-live s (AsyncDrain func) live = change-async s func live
change-live s Active live = same _ (answer s.active) (says_no-answer s.active) refl refl
change-live s Pending live = same _ (answer (is_some s.armed)) (says_no-answer (is_some s.armed)) refl refl
change-live s Deactivate live = cleared live
change-live s Init live = same _ Live refl refl refl
change-live s Retire live = change-retire s live

change-retired : (s : State) (op : PlainOp) → s.live ≡ false → By s (Call (Plain op)) (retired_call s op)
change-retired s Init gone = inits gone
change-retired s (Reset due prec func arg cpu) gone = same _ Retired refl refl refl
change-retired s (Schedule due prec cpu) gone = same _ Retired refl refl refl
change-retired s Stop gone = same _ Retired refl refl refl
change-retired s (AsyncDrain func) gone = same _ Retired refl refl refl
change-retired s Active gone = same _ Retired refl refl refl
change-retired s Pending gone = same _ Retired refl refl refl
change-retired s Deactivate gone = same _ Retired refl refl refl
change-retired s Retire gone = same _ Retired refl refl refl

idle-serviced : (r : Run) → serviced r ≡ None → is_idle r ≡ true
idle-serviced Idle h = refl
idle-serviced (Picked a) h = cc
idle-serviced (Cancelled n cpu) h = cc
idle-serviced (Running n cpu) h = cc

busy-serviced : (r : Run) (n : ℕ) → serviced r ≡ Some n → is_idle r ≡ false
busy-serviced Idle n h = cc
busy-serviced (Picked a) n h = refl
busy-serviced (Cancelled m cpu) n h = refl
busy-serviced (Running m cpu) n h = refl

change-drain : (s : State) (took took' : Bool) (o : Option ℕ) → serviced s.run ≡ o → By s (Call (DrainTry took)) (drain_at s o took')
change-drain s took took' None rest = drained took _ _ (idle-serviced s.run rest)
change-drain s took took' (Some n) runs = waits took took' n _ (busy-serviced s.run n runs)

change-call : (s : State) (op : CallOp) → By s (Call op) (call s op)
change-call s (Plain op) =
    either_way (By s (Call (Plain op))) s.live (live_call s op) (retired_call s op) (change-live s op) (change-retired s op)
change-call s (DrainTry took) = change-drain s took (is_some s.armed || took) (serviced s.run) refl

change-taken : (spec : Spec) (s : State) (a : Arming) (n cpu at : ℕ) → s.armed ≡ Some a → is_idle s.run ≡ true → (a.n == n) ≡ true → (a.cpu == cpu) ≡ true → By s (Serve (Pick n cpu at)) (taken spec s a)
change-taken spec s a n cpu at is idle number place =
    either_way (By s (Serve (Pick n cpu at))) (has_lock spec.lock) _ (go (record s { armed = None }) a)
    (λ _. held a n cpu at is idle number place) (λ _. fired a n cpu at is idle number place)

change-pick : (spec : Spec) (s : State) (o : Option Arming) (n cpu at : ℕ) → s.armed ≡ o → Possibly s (Serve (Pick n cpu at)) (pick_armed spec s o n cpu at)
change-pick spec s None n cpu at is = tt
change-pick spec s (Some a) n cpu at is =
    either_way (Possibly s (Serve (Pick n cpu at))) (is_due a n cpu at && is_idle s.run) (Some (taken spec s a)) None
    (λ yes. let parts = both_true (is_due a n cpu at) (is_idle s.run) yes in
    let due = both_true (a.n == n && a.cpu == cpu) (nat_le a.due at) parts.0 in
    (let here = both_true (a.n == n) (a.cpu == cpu) due.0 in change-taken spec s a n cpu at is parts.1 here.0 here.1))
    (λ _. tt)

change-begin : (s : State) (r : Run) (n cpu : ℕ) → s.run ≡ r → Possibly s (Serve (Begin n cpu)) (begin_run s r n cpu)
change-begin s Idle n cpu is = tt
change-begin s (Picked a) n cpu is =
    either_way (Possibly s (Serve (Begin n cpu))) (a.n == n && a.cpu == cpu) (Some (go s a)) None
    (λ yes. begun a n cpu is (both_true (a.n == n) (a.cpu == cpu) yes).0) (λ _. tt)
change-begin s (Cancelled m at) n cpu is =
    either_way (Possibly s (Serve (Begin n cpu))) (m == n && at == cpu) (Some (s, Skip)) None (λ yes. same _ Skip refl refl refl) (λ _. tt)
change-begin s (Running m at) n cpu is = tt

change-end : (s : State) (r : Run) (n cpu : ℕ) → s.run ≡ r → Possibly s (Serve (End n cpu)) (end_run s r n cpu)
change-end s Idle n cpu is = tt
change-end s (Picked a) n cpu is = tt
change-end s (Cancelled m at) n cpu is =
    either_way (Possibly s (Serve (End n cpu))) (m == n && at == cpu) (Some (ended s cpu)) None
    (λ yes. over n cpu (ap is_idle is) (ap is_picked is) (ap (is_served_by n cpu) is ∙ yes)) (λ _. tt)
change-end s (Running m at) n cpu is =
    either_way (Possibly s (Serve (End n cpu))) (m == n && at == cpu) (Some (ended s cpu)) None
    (λ yes. over n cpu (ap is_idle is) (ap is_picked is) (ap (is_served_by n cpu) is ∙ yes)) (λ _. tt)

possible : (spec : Spec) (s : State) (op : Op) → Possibly s op (step spec s op)
possible spec s (Call op) = change-call s op
possible spec s (Serve (Pick n cpu at)) = change-pick spec s s.armed n cpu at refl
possible spec s (Serve (Begin n cpu)) = change-begin s s.run n cpu refl
possible spec s (Serve (End n cpu)) = change-end s s.run n cpu refl

given : (s : State) (op : Op) (o : Option (State × Reply)) (r : Reply) → Possibly s op o → reply_of o ≡ Some r → Change s op r (state_of o s)
given s op None r p h = cc
given s op (Some o) r p h = let e : o.1 ≡ r = cc in subst (λ x. Change s op x o.0) e p

-- an entry that may stand next changes the state by one of the cases
pub change : (spec : Spec) (s : State) (op : Op) (r : Reply) → reply_of (step spec s op) ≡ Some r → Change s op r (state_of (step spec s op) s)
change spec s op r h = given s op (step spec s op) r (possible spec s op) h
