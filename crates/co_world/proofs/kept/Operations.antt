-- What an operation on a callout changes of its arming, its run and where it stands.
use Rattle.std.proofs.Common.{◌≡◌, ℕ, Bool, true, false, cond, not, ◌&&◌, ◌||◌, ◌==◌, refl, sym, subst, Option, Some, None, eqb-true, pos}
use Rattle.std.specs.Prelude.{⊤, is_some, unwrap_or, nat_le}
use Rattle.co_object.specs.declared.Spec.{Spec}
use Rattle.co_object.specs.declared.Arming.{Arming}
use Rattle.co_object.specs.declared.Run.{Run}
use Rattle.co_object.specs.declared.Run.TheVariants.{Idle, Picked, Cancelled, Running}
use Rattle.co_object.specs.declared.State.{State}
use Rattle.co_object.specs.declared.PlainOp.{PlainOp}
use Rattle.co_object.specs.declared.PlainOp.TheVariants.{Reset, Schedule, Stop, AsyncDrain, Active, Pending, Deactivate, Init, Retire}
use Rattle.co_object.specs.declared.CallOp.{CallOp}
use Rattle.co_object.specs.declared.CallOp.TheVariants.{Plain, DrainTry}
use Rattle.co_object.specs.declared.RunOp.TheVariants.{Pick, Begin, End}
use Rattle.co_object.specs.declared.Op.{Op}
use Rattle.co_object.specs.declared.Op.TheVariants.{Call, Run as Serve}
use Rattle.co_object.specs.declared.Reply.{Reply}
use Rattle.co_object.specs.declared.Reply.TheVariants.{NotArmed, Armed, Stopped, Done, Wait, Hold, Go, Ended, NoHandler, Worn, Busy, Yes, No, Live, Retired, InUse, Skip}
use Rattle.co_object.specs.Stand.{is_idle, off, is_free_at}
use Rattle.co_object.specs.Group.{off_of}
use Rattle.co_object.specs.Arm.{is_picked, cancel, is_draining, arm, refuse, reset, reset_to_last, made_max, code_of}
use Rattle.co_object.specs.Stop.{stop}
use Rattle.co_object.specs.Drain.{serviced, drain_at, drain_later}
use Rattle.co_object.specs.Query.{answer}
use Rattle.co_object.specs.Lifetime.{init}
use Rattle.co_object.specs.Serve.{has_lock, taken, is_due, pick_armed, begin_run, ended, end_run, go, next_of}
use Rattle.co_object.specs.Callout.{live_call, retired_call, call, step}
use Rattle.co_object.proofs.Changes.{either_way, both_true}
use Rattle.co_program.specs.Advance.{due_of_call}
use Rattle.co_world.proofs.kept.Invariant.{IsTaken, IsRunning, IsOver, cpu_of_run}

-- a reply that neither arms nor waits
abbrev pub is_plain : Reply → Bool
is_plain (Armed code n cpu off) = false
is_plain (Wait n took off) = false
is_plain reply = true

-- a service goes on as it did, but that one that waited for its lock may be cancelled
pub record GoesOn (r t : Run) : Type 0 where
  pub idle : is_idle r ≡ is_idle t
  pub number : serviced r ≡ serviced t
  pub free : (cpu : ℕ) → is_free_at r cpu ≡ is_free_at t cpu
  pub cpu : cpu_of_run r ≡ cpu_of_run t
  pub taken : (n cpu : ℕ) → IsTaken r n cpu → IsTaken t n cpu
  pub running : (n cpu : ℕ) → IsRunning r n cpu → IsRunning t n cpu
  pub over : (n cpu : ℕ) → IsOver r n cpu → IsOver t n cpu

same_run : (r : Run) → GoesOn r r
same_run r = record { idle = refl; number = refl; free = λ cpu. refl; cpu = refl; taken = λ n cpu h. h; running = λ n cpu h. h; over = λ n cpu h. h }

cancelled_run : (r : Run) → GoesOn r (cancel r)
cancelled_run Idle = same_run Idle
cancelled_run (Picked a) = record { idle = refl; number = refl; free = λ cpu. refl; cpu = refl; taken = λ n cpu h. h; running = λ n cpu h. absurd h; over = λ n cpu h. absurd h }
cancelled_run (Cancelled n cpu) = same_run (Cancelled n cpu)
cancelled_run (Running n cpu) = same_run (Running n cpu)

-- from s the operation may have this reply and lead to this state
pub data Did (spec : Spec) (s : State) : Op → Reply → State → Type 0 where
  -- the arming stays
  keeps : (op : CallOp) (r : Reply) (t : State) → t.armed ≡ s.armed → GoesOn s.run t.run → is_plain r ≡ true → off_of r ≡ None → Did spec s (Call op) r t
  -- it is taken away
  clears : (op : CallOp) (r : Reply) (t : State) → t.armed ≡ None → GoesOn s.run t.run → is_plain r ≡ true → off_of r ≡ off s → Did spec s (Call op) r t
  -- the same by a drain that waits for a service
  waits : (took took' : Bool) (n : ℕ) (t : State) → t.armed ≡ None → GoesOn s.run t.run → serviced s.run ≡ Some n → Did spec s (Call (DrainTry took)) (Wait n took' (off s)) t
  -- a new one stands in its place
  arms : (op : PlainOp) (code : _) (arming : Arming) (t : State) → t.armed ≡ Some arming → arming.due ≡ due_of_call (Call (Plain op)) → GoesOn s.run t.run → Did spec s (Call (Plain op)) (Armed code arming.n arming.cpu (off s)) t
  -- a service takes the arming, waits for its lock, or fires at once
  holds : (n cpu at : ℕ) (a : Arming) (t : State) → is_idle s.run ≡ true → a.n ≡ n → a.cpu ≡ cpu → has_lock spec.lock ≡ true → t.armed ≡ None → t.run ≡ Picked a → Did spec s (Serve (Pick n cpu at)) Hold t
  goes : (n cpu at func arg : ℕ) (t : State) → is_idle s.run ≡ true → has_lock spec.lock ≡ false → t.armed ≡ None → t.run ≡ Running n cpu → Did spec s (Serve (Pick n cpu at)) (Go func arg) t
  begins : (n cpu func arg : ℕ) (t : State) → t.armed ≡ s.armed → IsTaken s.run n cpu → t.run ≡ Running n cpu → Did spec s (Serve (Begin n cpu)) (Go func arg) t
  skips : (n cpu : ℕ) → s.run ≡ Cancelled n cpu → Did spec s (Serve (Begin n cpu)) Skip s
  ends : (n cpu : ℕ) (t : State) (drain : Option ℕ) (woke : Bool) → t.armed ≡ s.armed → t.run ≡ Idle → IsOver s.run n cpu → Did spec s (Serve (End n cpu)) (Ended drain (next_of s.armed cpu) woke) t

module _ (spec : Spec) where
  abbrev By : State → Op → State × Reply → Type 0
  By s op o = Did spec s op o.1 o.0

  abbrev Possibly : State → Op → Option (State × Reply) → Type 0
  Possibly s op None = ⊤
  Possibly s op (Some o) = By s op o

  did_reset : (s : State) (op : PlainOp) (due prec func arg : ℕ) (cpu : Option ℕ) → due ≡ due_of_call (Call (Plain op)) → By s (Call (Plain op)) (reset s due prec func arg cpu)
  did_reset s op due prec func arg cpu is =
      either_way (By s (Call (Plain op))) (s.made == made_max) (s, Worn) _ (λ _. keeps (Plain op) Worn s refl (same_run s.run) refl refl) (λ _.
      either_way (By s (Call (Plain op))) (is_draining s && not (is_idle s.run)) (refuse s) (arm s due prec func arg (unwrap_or cpu s.home))
      (λ _. keeps (Plain op) (NotArmed (code_of (is_picked s.run))) (refuse s).0 refl (cancelled_run s.run) refl refl)
      (λ _. arms op (code_of (is_some s.armed || is_picked s.run)) (record { n = s.made; due = due; prec = prec; func = func; arg = arg; cpu = unwrap_or cpu s.home }) (arm s due prec func arg (unwrap_or cpu s.home)).0 refl is (cancelled_run s.run)))

  did_schedule : (s : State) (last : Option (ℕ × ℕ)) (op : PlainOp) (due prec : ℕ) (cpu : Option ℕ) → due ≡ due_of_call (Call (Plain op)) → By s (Call (Plain op)) (reset_to_last s last due prec cpu)
  did_schedule s None op due prec cpu is = keeps (Plain op) NoHandler s refl (same_run s.run) refl refl
  did_schedule s (Some last) op due prec cpu is = did_reset s op due prec last.0 last.1 cpu is

  did_stop : (s : State) (op : PlainOp) → By s (Call (Plain op)) (stop s)
  did_stop s op = clears (Plain op) (stop s).1 (stop s).0 refl (cancelled_run s.run) refl refl

  did_later : (s : State) (op : PlainOp) (standing : Option ℕ) (func : ℕ) → By s (Call (Plain op)) (drain_later s standing func)
  did_later s op (Some f) func = keeps (Plain op) Busy s refl (same_run s.run) refl refl
  did_later s op None func = clears (Plain op) (Stopped (pos 0) (off s)) (record s { armed = None; active = false; adrain = Some func }) refl (same_run s.run) refl refl

  did_answer : (s : State) (op : PlainOp) (b : Bool) → By s (Call (Plain op)) (s, answer b)
  did_answer s op true = keeps (Plain op) Yes s refl (same_run s.run) refl refl
  did_answer s op false = keeps (Plain op) No s refl (same_run s.run) refl refl

  did_live : (s : State) (op : PlainOp) → By s (Call (Plain op)) (live_call s op)
  did_live s (Reset due prec func arg cpu) = did_reset s (Reset due prec func arg cpu) due prec func arg cpu refl
  did_live s (Schedule due prec cpu) = did_schedule s s.last (Schedule due prec cpu) due prec cpu refl
  did_live s Stop = did_stop s Stop
  did_live s (AsyncDrain func) =
      either_way (By s (Call (Plain (AsyncDrain func)))) (is_idle s.run) (stop s) (drain_later s s.adrain func) (λ _. did_stop s (AsyncDrain func)) (λ _. did_later s (AsyncDrain func) s.adrain func)
  did_live s Active = did_answer s Active s.active
  did_live s Pending = did_answer s Pending (is_some s.armed)
  did_live s Deactivate = keeps (Plain Deactivate) Done (record s { active = false }) refl (same_run s.run) refl refl
  did_live s Init = keeps (Plain Init) Live s refl (same_run s.run) refl refl
  did_live s Retire =
      either_way (By s (Call (Plain Retire))) (is_some s.armed || not (is_idle s.run)) (s, InUse (is_some s.armed) (not (is_idle s.run))) (record s { live = false }, Done)
      (λ _. keeps (Plain Retire) (InUse (is_some s.armed) (not (is_idle s.run))) s refl (same_run s.run) refl refl)
      (λ _. keeps (Plain Retire) Done (record s { live = false }) refl (same_run s.run) refl refl)

  did_retired : (s : State) (op : PlainOp) → By s (Call (Plain op)) (retired_call s op)
  did_retired s Init = keeps (Plain Init) Done (init s).0 refl (same_run s.run) refl refl
  did_retired s (Reset due prec func arg cpu) = keeps (Plain (Reset due prec func arg cpu)) Retired s refl (same_run s.run) refl refl
  did_retired s (Schedule due prec cpu) = keeps (Plain (Schedule due prec cpu)) Retired s refl (same_run s.run) refl refl
  did_retired s Stop = keeps (Plain Stop) Retired s refl (same_run s.run) refl refl
  did_retired s (AsyncDrain func) = keeps (Plain (AsyncDrain func)) Retired s refl (same_run s.run) refl refl
  did_retired s Active = keeps (Plain Active) Retired s refl (same_run s.run) refl refl
  did_retired s Pending = keeps (Plain Pending) Retired s refl (same_run s.run) refl refl
  did_retired s Deactivate = keeps (Plain Deactivate) Retired s refl (same_run s.run) refl refl
  did_retired s Retire = keeps (Plain Retire) Retired s refl (same_run s.run) refl refl

  did_drain : (s : State) (took took' : Bool) (o : Option ℕ) → serviced s.run ≡ o → By s (Call (DrainTry took)) (drain_at s o took')
  did_drain s took took' None is = clears (DrainTry took) (drain_at s None took').1 (drain_at s None took').0 refl (same_run s.run) refl refl
  did_drain s took took' (Some n) is = waits took took' n (drain_at s (Some n) took').0 refl (same_run s.run) is

  pub did_call : (s : State) (op : CallOp) → By s (Call op) (call s op)
  did_call s (Plain op) = either_way (By s (Call (Plain op))) s.live (live_call s op) (retired_call s op) (λ _. did_live s op) (λ _. did_retired s op)
  did_call s (DrainTry took) = did_drain s took (is_some s.armed || took) (serviced s.run) refl

  did_taken : (s : State) (a : Arming) (n cpu at : ℕ) → is_idle s.run ≡ true → (a.n == n) ≡ true → (a.cpu == cpu) ≡ true → By s (Serve (Pick n cpu at)) (taken spec s a)
  did_taken s a n cpu at idle number place =
      let is_n : a.n ≡ n = eqb-true a.n n number in
      let is_cpu : a.cpu ≡ cpu = eqb-true a.cpu cpu place in
      either_way (By s (Serve (Pick n cpu at))) (has_lock spec.lock) (record s { armed = None; run = Picked a }, Hold) (go (record s { armed = None }) a)
      (λ lock. holds n cpu at a (record s { armed = None; run = Picked a }) idle is_n is_cpu lock refl refl)
      (λ lock. goes n cpu at a.func a.arg (record s { armed = None; run = Running a.n a.cpu }) idle lock refl (cc (is_n, is_cpu)))

  did_pick : (s : State) (o : Option Arming) (n cpu at : ℕ) → Possibly s (Serve (Pick n cpu at)) (pick_armed spec s o n cpu at)
  did_pick s None n cpu at = tt
  did_pick s (Some a) n cpu at =
      either_way (Possibly s (Serve (Pick n cpu at))) (is_due a n cpu at && is_idle s.run) (Some (taken spec s a)) None
      (λ yes. let parts = both_true (is_due a n cpu at) (is_idle s.run) yes in
      let due = both_true (a.n == n && a.cpu == cpu) (nat_le a.due at) parts.0 in
      (let here = both_true (a.n == n) (a.cpu == cpu) due.0 in did_taken s a n cpu at parts.1 here.0 here.1))
      (λ _. tt)

  did_begin : (s : State) (r : Run) (n cpu : ℕ) → s.run ≡ r → Possibly s (Serve (Begin n cpu)) (begin_run s r n cpu)
  did_begin s Idle n cpu is = tt
  did_begin s (Picked a) n cpu is =
      either_way (Possibly s (Serve (Begin n cpu))) (a.n == n && a.cpu == cpu) (Some (go s a)) None
      (λ yes. let here = both_true (a.n == n) (a.cpu == cpu) yes in
      let is_n : a.n ≡ n = eqb-true a.n n here.0 in
      let is_cpu : a.cpu ≡ cpu = eqb-true a.cpu cpu here.1 in
      begins n cpu a.func a.arg (go s a).0 refl (subst (λ (x : Run). IsTaken x n cpu) (sym is) (is_n, is_cpu)) (cc (is_n, is_cpu)))
      (λ _. tt)
  did_begin s (Cancelled m at) n cpu is =
      either_way (Possibly s (Serve (Begin n cpu))) (m == n && at == cpu) (Some (s, Skip)) None
      (λ yes. let here = both_true (m == n) (at == cpu) yes in skips n cpu (let is_n : m ≡ n = eqb-true m n here.0 in let is_cpu : at ≡ cpu = eqb-true at cpu here.1 in cc (is, is_n, is_cpu)))
      (λ _. tt)
  did_begin s (Running m at) n cpu is = tt

  did_over : (s : State) (r : Run) (m at n cpu : ℕ) → s.run ≡ r → ((m ≡ n) × (at ≡ cpu) → IsOver r n cpu) → Possibly s (Serve (End n cpu)) (cond (m == n && at == cpu) (Some (ended s cpu)) None)
  did_over s r m at n cpu is fits =
      either_way (Possibly s (Serve (End n cpu))) (m == n && at == cpu) (Some (ended s cpu)) None
      (λ yes. let here = both_true (m == n) (at == cpu) yes in
      ends n cpu (ended s cpu).0 s.adrain s.waiting refl refl (subst (λ (x : Run). IsOver x n cpu) (sym is) (fits (eqb-true m n here.0, eqb-true at cpu here.1))))
      (λ _. tt)

  did_end : (s : State) (r : Run) (n cpu : ℕ) → s.run ≡ r → Possibly s (Serve (End n cpu)) (end_run s r n cpu)
  did_end s Idle n cpu is = tt
  did_end s (Picked a) n cpu is = tt
  did_end s (Cancelled m at) n cpu is = did_over s (Cancelled m at) m at n cpu is (λ h. h)
  did_end s (Running m at) n cpu is = did_over s (Running m at) m at n cpu is (λ h. h)

  possibly : (s : State) (op : Op) → Possibly s op (step spec s op)
  possibly s (Call op) = did_call s op
  possibly s (Serve (Pick n cpu at)) = did_pick s s.armed n cpu at
  possibly s (Serve (Begin n cpu)) = did_begin s s.run n cpu refl
  possibly s (Serve (End n cpu)) = did_end s s.run n cpu refl

  -- an operation that is possible did one of these
  pub did : (s : State) (op : Op) (outcome : State × Reply) → step spec s op ≡ Some outcome → Did spec s op outcome.1 outcome.0
  did s op outcome is = subst (Possibly s op) is (possibly s op)
