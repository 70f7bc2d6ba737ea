-- The CPUs that a callout names exist, before a call and after it.
use Rattle.std.proofs.Common.{◌≡◌, ℕ, ◌≤◌, ◌<◌, Bool, false, not, ◌&&◌, ◌||◌, ◌==◌, refl, sym, ◌∙◌, arith, Option, Some, None}
use Rattle.std.specs.Prelude.{⊤, is_some, unwrap_or}
use Rattle.co_object.specs.declared.Arming.{Arming}
use Rattle.co_object.specs.declared.State.{State}
use Rattle.co_object.specs.declared.PlainOp.{PlainOp}
use Rattle.co_object.specs.declared.PlainOp.TheVariants.{Reset, Schedule, Stop, AsyncDrain, Active, Pending, Deactivate, Init, Retire}
use Rattle.co_object.specs.declared.CallOp.{CallOp}
use Rattle.co_object.specs.declared.CallOp.TheVariants.{Plain, DrainTry}
use Rattle.co_object.specs.declared.Reply.{Reply}
use Rattle.co_object.specs.declared.Reply.TheVariants.{Worn, Done, InUse}
use Rattle.co_object.specs.Stand.{is_idle}
use Rattle.co_object.specs.Arm.{is_draining, arm, refuse, reset, reset_to_last, made_max}
use Rattle.co_object.specs.Stop.{stop}
use Rattle.co_object.specs.Drain.{serviced, drain_at, drain_later}
use Rattle.co_object.specs.Callout.{live_call, retired_call, call}
use Rattle.co_object.proofs.Changes.{either_way}

-- a CPU that is named is one of so many
abbrev pub IsBelow : ℕ → Option ℕ → Type 0
IsBelow n None = ⊤
IsBelow n (Some cpu) = cpu < n

abbrev pub NamesCpu : ℕ → CallOp → Type 0
NamesCpu n (Plain (Reset due prec func arg cpu)) = IsBelow n cpu
NamesCpu n (Plain (Schedule due prec cpu)) = IsBelow n cpu
NamesCpu n call = ⊤

pub record CpusFit (n : ℕ) (state : State) : Type 0 where
  pub home : state.home < n
  pub target : (arming : Arming) → state.armed ≡ Some arming → arming.cpu < n

module _ (n : ℕ) (some : 1 ≤ n) where
  abbrev Fit : State × Reply → Type 0
  Fit o = CpusFit n o.0

  -- nothing is armed after it, and the home stays
  unarmed : (s t : State) → t.home ≡ s.home → t.armed ≡ None → CpusFit n s → CpusFit n t
  unarmed s t home none fit = record {
    home = (let h = fit.home in omega (arith, home, h));
    target = λ arming is. (let clash : None ≡ Some arming = sym none ∙ is in cc);
  }

  -- what is armed stays, and so does the home
  stays : (s t : State) → t.home ≡ s.home → t.armed ≡ s.armed → CpusFit n s → CpusFit n t
  stays s t home armed fit = record {
    home = (let h = fit.home in omega (arith, home, h));
    target = λ arming is. fit.target arming (sym armed ∙ is);
  }

  named : (s : State) (cpu : Option ℕ) → CpusFit n s → IsBelow n cpu → unwrap_or cpu s.home < n
  named s None fit below = fit.home
  named s (Some x) fit below = below

  fit_reset : (s : State) (due prec func arg : ℕ) (cpu : Option ℕ) → CpusFit n s → IsBelow n cpu → Fit (reset s due prec func arg cpu)
  fit_reset s due prec func arg cpu fit below =
      either_way Fit (s.made == made_max) (s, Worn) _ (λ _. fit) (λ _.
      either_way Fit (is_draining s && not (is_idle s.run)) (refuse s) (arm s due prec func arg (unwrap_or cpu s.home))
      (λ _. stays s (refuse s).0 refl refl fit)
      (λ _. record { home = named s cpu fit below; target = λ arming is. (let new : Arming = record { n = s.made; due = due; prec = prec; func = func; arg = arg; cpu = unwrap_or cpu s.home } in let e : Some new ≡ Some arming = is in let f : new.cpu ≡ arming.cpu = cc in let h = named s cpu fit below in omega (arith, f, h)) }))

  fit_schedule : (s : State) (last : Option (ℕ × ℕ)) (due prec : ℕ) (cpu : Option ℕ) → CpusFit n s → IsBelow n cpu → Fit (reset_to_last s last due prec cpu)
  fit_schedule s None due prec cpu fit below = fit
  fit_schedule s (Some last) due prec cpu fit below = fit_reset s due prec last.0 last.1 cpu fit below

  fit_stop : (s : State) → CpusFit n s → Fit (stop s)
  fit_stop s fit = unarmed s (stop s).0 refl refl fit

  fit_later : (s : State) (standing : Option ℕ) (func : ℕ) → CpusFit n s → Fit (drain_later s standing func)
  fit_later s (Some f) func fit = fit
  fit_later s None func fit = unarmed s (drain_later s None func).0 refl refl fit

  fit_live : (s : State) (op : PlainOp) → CpusFit n s → NamesCpu n (Plain op) → Fit (live_call s op)
  fit_live s (Reset due prec func arg cpu) fit below = fit_reset s due prec func arg cpu fit below
  fit_live s (Schedule due prec cpu) fit below = fit_schedule s s.last due prec cpu fit below
  fit_live s Stop fit below = fit_stop s fit
  fit_live s (AsyncDrain func) fit below = either_way Fit (is_idle s.run) (stop s) (drain_later s s.adrain func) (λ _. fit_stop s fit) (λ _. fit_later s s.adrain func fit)
  fit_live s Active fit below = fit
  fit_live s Pending fit below = fit
  fit_live s Deactivate fit below = stays s (record s { active = false }) refl refl fit
  fit_live s Init fit below = fit
  fit_live s Retire fit below =
      either_way Fit (is_some s.armed || not (is_idle s.run)) (s, InUse (is_some s.armed) (not (is_idle s.run))) (record s { live = false }, Done) (λ _. fit) (λ _. stays s (record s { live = false }) refl refl fit)

  fit_retired : (s : State) (op : PlainOp) → CpusFit n s → Fit (retired_call s op)
  fit_retired s Init fit = record { home = omega arith; target = fit.target }
  fit_retired s (Reset due prec func arg cpu) fit = fit
  fit_retired s (Schedule due prec cpu) fit = fit
  fit_retired s Stop fit = fit
  fit_retired s (AsyncDrain func) fit = fit
  fit_retired s Active fit = fit
  fit_retired s Pending fit = fit
  fit_retired s Deactivate fit = fit
  fit_retired s Retire fit = fit

  fit_drain : (s : State) (o : Option ℕ) (took : Bool) → CpusFit n s → Fit (drain_at s o took)
  fit_drain s None took fit = unarmed s (drain_at s None took).0 refl refl fit
  fit_drain s (Some m) took fit = unarmed s (drain_at s (Some m) took).0 refl refl fit

  pub fit_call : (s : State) (op : CallOp) → CpusFit n s → NamesCpu n op → Fit (call s op)
  fit_call s (Plain op) fit below = either_way Fit s.live (live_call s op) (retired_call s op) (λ _. fit_live s op fit below) (λ _. fit_retired s op fit)
  fit_call s (DrainTry took) fit below = fit_drain s (serviced s.run) (is_some s.armed || took) fit
