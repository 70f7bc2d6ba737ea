-- No more callouts have come due in a queue than the script has: each stands there once.
use Rattle.std.proofs.Common.{◌≡◌, ℕ, ◌+◌, ◌≤◌, ◌<◌, cond, Bool, List, [], ◌∷◌, length, refl, ap, arith, eq-eqb}
use Rattle.std.specs.Prelude.{◌==◌}
use Rattle.co_object.specs.Queue.{Queue as TimerQueue, Due}
use Rattle.co_object.proofs.Each.{Each}
use Rattle.co_object.proofs.Passing.{passing}
use Rattle.co_program.specs.declared.Script.{Script}
use Rattle.co_program.specs.Existing.{IsCallout}
use Rattle.co_world.proofs.kept.Invariant.{IsLane}
use Rattle.co_object.proofs.EntriesKept.{EntriesFit}
use Rattle.co_world.proofs.basics.Sums.{total, total_above, total_at, total_of_both, total_of_ones, total_of_zeros}
use Rattle.co_world.proofs.measure.Queues.{crowd}

-- elements whose numbers are below n, counted number by number
counted : {X : Type 0} (key : X → ℕ) (n : ℕ) (xs : List X) → Each (λ x. key x < n) xs → length xs ≤ total (λ i. passing (λ x. key x == i) xs) 0 n
counted key n [] below = omega arith
counted key n (x ∷ xs) below =
    let rest : ℕ → ℕ = λ i. passing (λ z. key z == i) xs in
    let all : ℕ → ℕ = λ i. passing (λ z. key z == i) (x ∷ xs) in
    let one : all (key x) ≡ 1 + rest (key x) = ap (λ (b : Bool). cond b 1 0 + rest (key x)) (eq-eqb (key x) (key x) refl) in
    let within : key x < 0 + n = (let h = below.0 in omega arith) in
    let more : total rest 0 n + all (key x) ≤ total all 0 n + total (λ i. 0) 0 n + rest (key x) = total_at all rest (λ i. 0) 0 n (key x) (omega arith) within (λ i other. omega arith) in
    omega (arith, one, more, total_of_zeros 0 n, counted key n xs below.1)

pub few_due : (s : Script) (q : TimerQueue) → EntriesFit (λ i n t. IsCallout s i) q → IsLane s q → crowd q ≤ length s.timers
few_due s q names lane =
    let n : ℕ = length s.timers in
    let slow : ℕ → ℕ = λ i. passing (λ (d : Due). d.i == i) q.expired in
    let fast : ℕ → ℕ = λ i. passing (λ (d : Due). d.i == i) q.urgent in
    let once : total (λ i. slow i + fast i) 0 n ≤ total (λ i. 0) 0 n + total (λ i. 1) 0 n =
    total_above (λ i. 0) (λ i. slow i + fast i) (λ i. 1) 0 n (λ i low. (let h = lane.once i in omega arith)) in
    omega (
      arith,
      once,
      total_of_both slow fast 0 n,
      total_of_zeros 0 n,
      total_of_ones 0 n,
      counted (λ (d : Due). d.i) n q.expired names.expired,
      counted (λ (d : Due). d.i) n q.urgent names.urgent,
    )
