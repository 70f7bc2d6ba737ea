-- The rows of a summary.
use Rattle.std.proofs.Common.{◌≡◌, ℕ, List, Result, Ok, Err, ◌∙◌}
use Rattle.std.specs.Prelude.{IfOk}

-- a text of equal rows
pub same_rows : {E : Type 0} (r : Result (List ℕ) E) (t u : List ℕ) → t ≡ u → IfOk r (λ x. x ≡ t) → IfOk r (λ x. x ≡ u)
same_rows (Ok x) t u e h = h ∙ e
same_rows (Err x) t u e h = tt
