-- A call of a function that its hold covers is refused for no cause.
use Rattle.std.proofs.Common.{◌≡◌, ℕ, ◌<◌, ◌≤◌, Bool, true, false, cond, length, refl, ap, ◌∙◌, arith}
use Rattle.std.proofs.lemmas.Bool.Decides.{nat_tests}
use Rattle.std.specs.Prelude.{nat_lt}
use Rattle.std.specs.declared.option.Option.{Option}
use Rattle.std.specs.declared.option.Option.TheVariants.{Some, None}
use Rattle.co_hand.specs.Ports.{NamesCpuBelow}
use Rattle.co_lock.specs.declared.held.Held.{Held}
use Rattle.co_lock.specs.Covers.{covers}
use Rattle.co_object.specs.declared.op.CallOp.TheVariants.{Plain}
use Rattle.co_object.specs.declared.op.PlainOp.{PlainOp}
use Rattle.co_object.specs.declared.op.PlainOp.TheVariants.{Reset, Schedule, Stop, AsyncDrain, Active, Pending, Deactivate, Init, Retire}
use Rattle.co_desk.specs.Params.{spec_at}
use Rattle.co_desk.specs.declared.params.Params.{Params}
use Rattle.co_timers.specs.declared.answers.Refused.{Refused}
use Rattle.co_timers.specs.declared.answers.Refused.TheVariants.{NoCallout, NoCpu}
use Rattle.co_timers.specs.Answers.{names_cpu, refusal, uncovered}

below_true : (i n : ℕ) → i < n → nat_lt i n ≡ true
below_true i n low = go (nat_lt i n) refl where
  go : (b : Bool) → nat_lt i n ≡ b → nat_lt i n ≡ true
  go true h = h
  go false h = let past : n ≤ i = grind (arith, nat_tests, h) in absurd (omega arith)

named_cpu : (cpus : ℕ) (op : PlainOp) → NamesCpuBelow cpus op → names_cpu cpus (Plain op) ≡ true
named_cpu cpus (Reset due prec func arg None) h = refl
named_cpu cpus (Reset due prec func arg (Some cpu)) h = below_true cpu cpus h
named_cpu cpus (Schedule due prec None) h = refl
named_cpu cpus (Schedule due prec (Some cpu)) h = below_true cpu cpus h
named_cpu cpus Stop h = refl
named_cpu cpus (AsyncDrain func) h = refl
named_cpu cpus Active h = refl
named_cpu cpus Pending h = refl
named_cpu cpus Deactivate h = refl
named_cpu cpus Init h = refl
named_cpu cpus Retire h = refl

pub allowed : (p : Params) (hold : Option Held) (i : ℕ) (op : PlainOp) → i < length p.specs → NamesCpuBelow p.cpus op → covers hold (spec_at p i) (Plain op) ≡ true → refusal p hold i (Plain op) ≡ None
allowed p hold i op here cpu covered =
    ap (λ (b : Bool). cond {A = Option Refused} b (cond (names_cpu p.cpus (Plain op)) (cond (covers hold (spec_at p i) (Plain op)) None (Some (uncovered (Plain op)))) (Some NoCpu)) (Some NoCallout)) (below_true i (length p.specs) here)
    ∙ (ap (λ (b : Bool). cond {A = Option Refused} b (cond (covers hold (spec_at p i) (Plain op)) None (Some (uncovered (Plain op)))) (Some NoCpu)) (named_cpu p.cpus op cpu)
    ∙ ap (λ (b : Bool). cond {A = Option Refused} b None (Some (uncovered (Plain op)))) covered)
