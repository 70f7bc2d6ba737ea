-- Callouts that begin at a CPU.
use Rattle.std.proofs.Common.{◌≡◌, ℕ, zero, suc, ◌<◌, ◌≤◌, ◌==◌, Bool, true, false, cond, List, length, map, replicate, get_or, refl, arith}
use Rattle.std.specs.Prelude.{slice_index_or}
use Rattle.std.specs.declared.option.Option.{Option}
use Rattle.std.specs.declared.option.Option.TheVariants.{None}
use Rattle.std.proofs.lemmas.List.{get_or-map, get_or_past, length-map, length-replicate}
use Rattle.co_object.specs.declared.alone.Alone.{Alone}
use Rattle.co_object.specs.declared.spec.Spec.{Spec}
use Rattle.co_object.proofs.Numbers.{same_number}
use Rattle.co_wheel.specs.Callouts.{new_callout, first_callouts}
use Rattle.co_service.specs.Booted.{come_to}
use Rattle.co_desk.specs.Params.{no_spec}

module _ {A : Type 0} where
  abbrev none : Option A
  none = None

  pub none_at : (n i : ℕ) → get_or (replicate n none) i None ≡ None
  none_at zero i = refl
  none_at (suc n) zero = refl
  none_at (suc n) (suc i) = none_at n i

-- these callouts are at a wheel by number, those below `k` alone
pub record AreCome (specs : List Spec) (k : ℕ) (here : List (Option Alone)) : Type 0 where
  pub count : length here ≡ length specs
  pub come : (i : ℕ) → i < k → get_or here i None ≡ new_callout (slice_index_or specs i no_spec)
  pub missing : (i : ℕ) → k ≤ i → get_or here i None ≡ None

pub first_come : (cpu : ℕ) (specs : List Spec) → AreCome specs (come_to cpu specs) (first_callouts specs cpu)
first_come cpu specs = by_test (cpu == 0) where
  by_test : (b : Bool) → AreCome specs (cond b (length specs) 0) (cond b (map new_callout specs) (replicate (length specs) (none {A = Alone})))
  by_test true = record {
    count = length-map specs new_callout;
    come = λ i below. get_or-map new_callout specs i no_spec None below;
    missing = λ i from. get_or_past (map new_callout specs) i None (let n = length-map specs new_callout in omega arith);
  }
  by_test false = record {
    count = length-replicate (length specs) (none {A = Alone});
    come = λ i below. absurd (omega arith);
    missing = λ i from. none_at (length specs) i;
  }

pub not_first : (n : ℕ) → (n ≡ 0 → ⊥) → (n == 0) ≡ false
not_first n other = by_test (n == 0) refl where
  by_test : (b : Bool) → (n == 0) ≡ b → b ≡ false
  by_test true is = absurd (other (same_number n 0 is))
  by_test false is = refl
