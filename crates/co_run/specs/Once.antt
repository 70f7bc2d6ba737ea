-- What a script keeps, and the locks that it names, have one proof each at most, so that a struct can keep them.
use Rattle.std.specs.Prelude.{◌≡◌, ℕ, zero, suc, ◌^◌, ◌⊎◌, Bool, true, false, List}
use Rattle.std.specs.Coded.{Unit-prop, le_prop}
use Rattle.std.proofs.Common.{inl, inr, ap, sym, refl, ◌∙◌, arith, pow-suc}
use Rattle.std.proofs.Props.{props}
use Rattle.std.proofs.lemmas.Nat.{pow_below}
use native.Mathlib.Nat.{ℕ_set}
use mathlib.Core.HLevel.{Σ_prop_path}
use Rattle.co_lock.specs.declared.lock_kind.LockKind.{LockKind}
use Rattle.co_program.specs.declared.act.Act.TheVariants.{Lock, ReadLock}
use Rattle.co_program.specs.declared.program.Task.{Task}
use Rattle.co_program.specs.declared.program.Task.TheVariants.{Does}
use Rattle.co_program.specs.declared.script.Script.{Script}
use Rattle.co_program.specs.Scripts.{IsScript}
use Rattle.co_run.specs.Acting.{HasLocks, TaskLocks}
use Rattle.co_lock.specs.Locks.{CanBeHeld}

one_or_two : (n : ℕ) → IsProp ((n ≡ 1) ⊎ (n ≡ 2))
one_or_two n (inl p) (inl q) = ap inl (ℕ_set n 1 p q)
one_or_two n (inl p) (inr q) = absurd (omega (arith, p, q))
one_or_two n (inr p) (inl q) = absurd (omega (arith, p, q))
one_or_two n (inr p) (inr q) = ap inr (ℕ_set n 2 p q)

same_power : (e f : ℕ) → 2 ^ e ≡ 2 ^ f → e ≡ f
same_power zero zero h = refl
same_power zero (suc f) h = let below = pow_below 0 (suc f) (omega arith) in absurd (omega (arith, h, below))
same_power (suc e) zero h = let below = pow_below 0 (suc e) (omega arith) in absurd (omega (arith, h, below))
same_power (suc e) (suc f) h = ap suc (same_power e f (let one = pow-suc 2 e in let two = pow-suc 2 f in omega (arith, h, one, two)))

power-prop : (n : ℕ) → IsProp ((e : ℕ) × (n ≡ 2 ^ e))
power-prop n a b = Σ_prop_path (λ e. ℕ_set n (2 ^ e)) (same_power a.0 b.0 (sym a.1 ∙ b.1))

pub IsScript-prop : (s : Script) → IsProp (IsScript s)
IsScript-prop s = hlevel (props, one_or_two, power-prop)

CanBeHeld-prop : (kinds : List LockKind) (exclusive : Bool) (id : ℕ) → IsProp (CanBeHeld kinds exclusive id)
CanBeHeld-prop kinds true id = le_prop
CanBeHeld-prop kinds false id = hlevel props

TaskLocks-prop : (s : Script) (task : Task) → IsProp (TaskLocks s task)
TaskLocks-prop s (Does (Lock id)) = le_prop
TaskLocks-prop s (Does (ReadLock id)) = hlevel props
TaskLocks-prop s task = Unit-prop

pub HasLocks-prop : (s : Script) → IsProp (HasLocks s)
HasLocks-prop s = hlevel (props, CanBeHeld-prop, TaskLocks-prop)
