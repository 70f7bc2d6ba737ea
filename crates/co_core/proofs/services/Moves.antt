-- What the end of a service leaves: the callout's arming stays, or moves to another CPU.
use Rattle.std.proofs.Common.{◌≡◌, ℕ, Bool, true, false, cond, refl, sym, ap, ◌∙◌, Option, Some, None, eqb-true, eq-eqb}
use Rattle.std.specs.Prelude.{◌==◌, ◌&&◌}
use Rattle.co_object.specs.declared.Arming.{Arming}
use Rattle.co_object.specs.declared.State.{State}
use Rattle.co_object.specs.declared.Run.{Run}
use Rattle.co_object.specs.declared.Run.TheVariants as run
use Rattle.co_object.specs.Serve.{end_run, ended, next_of}
use Rattle.co_object.specs.Stand.{off}
use Rattle.co_core.proofs.tables.Options.{some_is}
use Rattle.co_world.proofs.kept.ByCalls.{off_none}
use Rattle.co_world.proofs.kept.Listed.{off_listed}
use Rattle.co_world.proofs.kept.Invariant.{IsOver}

-- what is over may end
pub ends_at : (st : State) (r : Run) (n cpu : ℕ) → IsOver r n cpu → end_run st r n cpu ≡ Some (ended st cpu)
ends_at st run.Idle n cpu over = absurd over
ends_at st (run.Picked a) n cpu over = absurd over
ends_at st (run.Cancelled m at) n cpu over = ap (λ (b : Bool). cond (b && at == cpu) (Some (ended st cpu)) None) (eq-eqb m n over.0) ∙ ap (λ (b : Bool). cond b (Some (ended st cpu)) None) (eq-eqb at cpu over.1)
ends_at st (run.Running m at) n cpu over = ap (λ (b : Bool). cond (b && at == cpu) (Some (ended st cpu)) None) (eq-eqb m n over.0) ∙ ap (λ (b : Bool). cond b (Some (ended st cpu)) None) (eq-eqb at cpu over.1)

-- the callout's arming waits for nothing, or was waiting for this end
pub data Moves (st : State) (cpu : ℕ) : Type 0 where
  stays : next_of st.armed cpu ≡ None → ((y : ℕ) → off (ended st cpu).0 ≡ Some y → cpu ≡ y) → Moves st cpu
  leaves : (arming : Arming) → st.armed ≡ Some arming → next_of st.armed cpu ≡ Some (record { n = arming.n; cpu = arming.cpu; due = arming.due }) → Moves st cpu

pub moves_so : (st : State) (cpu : ℕ) → Moves st cpu
moves_so st cpu = go st.armed refl where
  go : (o : Option Arming) → st.armed ≡ o → Moves st cpu
  go None is = stays (ap (λ (o : Option Arming). next_of o cpu) is) (λ y e. (let clash : None ≡ Some y = sym (off_none (ended st cpu).0 is) ∙ e in cc))
  go (Some arming) is = at (arming.cpu == cpu) refl where
    next_so : next_of st.armed cpu ≡ cond (arming.cpu == cpu) None (Some (record { n = arming.n; cpu = arming.cpu; due = arming.due }))
    next_so = ap (λ (o : Option Arming). next_of o cpu) is

    at : (b : Bool) → (arming.cpu == cpu) ≡ b → Moves st cpu
    at true here =
        stays (next_so ∙ ap (λ (b : Bool). cond b None (Some (record { n = arming.n; cpu = arming.cpu; due = arming.due }))) here)
        (λ y e. sym (eqb-true arming.cpu cpu here) ∙ some_is arming.cpu y (sym (off_listed (ended st cpu).0 arming is refl) ∙ e))
    at false here = leaves arming is (next_so ∙ ap (λ (b : Bool). cond b None (Some (record { n = arming.n; cpu = arming.cpu; due = arming.due }))) here)
