-- The state after some draws: one more, and draws after draws.
use Rattle.std.proofs.Common.{◌≡◌, ℕ, zero, suc, ◌+◌, refl, ap, ◌∙◌, arith}
use Rattle.co_gen.specs.Generator.{next_state, state_after}

pub no-draws : (s : ℕ) → state_after s 0 ≡ s
unfolding state_after
no-draws s = refl

pub one-draw-more : (s k : ℕ) → state_after s (k + 1) ≡ next_state (state_after s k)
unfolding state_after
one-draw-more s k = let next : k + 1 ≡ suc k = omega arith in ap (state_after s) next

pub draws-after : (s k m : ℕ) → state_after (state_after s k) m ≡ state_after s (k + m)
unfolding state_after
draws-after s k zero = let none : k ≡ k + 0 = omega arith in ap (state_after s) none
draws-after s k (suc m) = let next : suc (k + m) ≡ k + suc m = omega arith in ap next_state (draws-after s k m) ∙ ap (state_after s) next
