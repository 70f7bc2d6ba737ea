-- How many intervals lead behind now.
use Rattle.std.proofs.Common.{ℕ, ◌+◌, ◌-◌, ◌*◌, ◌/◌, ◌<◌, ◌≤◌, refl, arith}
use Rattle.std.proofs.Math.Nat.{mod-lt}
use Rattle.std.proofs.lemmas.Nat.{div-add-mod', div_below}
use Rattle.co_itimer.specs.Laws.{IsLeastStep, FollowsInStep}

-- so many whole intervals and one more are past the span
past : (span interval : ℕ) → 0 < interval → span < (span / interval + 1) * interval
past span interval some =
    let split = div-add-mod' span interval in
    let rest = mod-lt span some in
    omega (arith, split, rest)

least_step : (now interval t : ℕ) → 0 < interval → t ≤ now → IsLeastStep now interval t ((now - t) / interval + 1)
least_step now interval t some come = record {
  some = omega arith;
  above = (let h = past (now - t) interval some in omega (arith, h, come));
  least = λ j one above.
      let short : now - t < j * interval = omega (arith, above, come) in
      omega (arith, div_below (now - t) interval j some short);
}

pub follows-in_step : FollowsInStep
follows-in_step now interval t some come = ((now - t) / interval + 1, least_step now interval t some come, refl)
