-- The first star of a word, looked for byte by byte.
use Rattle.std.proofs.Common.{◌≡◌, ℕ, ◌+◌, ◌<◌, ◌≤◌, false, cond, not, List, drop, get_or, length, ap, ◌∙◌, arith}
use Rattle.std.specs.Prelude.{◌==◌}
use Rattle.std.specs.List.{position_or_len}
use Rattle.std.proofs.lemmas.Bool.{eq-eqb}
use Rattle.std.proofs.lemmas.List.{drop_all, drop_more}
use Rattle.co_grammar.specs.Turns.{is_star}

pub place_more : (w : List ℕ) (i : ℕ) → i < length w → (get_or w i 0 == 42) ≡ false → i + position_or_len is_star (drop i w) ≡ i + 1 + position_or_len is_star (drop (i + 1) w)
place_more w i within other =
    let there : position_or_len is_star (drop i w) ≡ 1 + position_or_len is_star (drop (i + 1) w) =
    ap (position_or_len is_star) (drop_more w i 0 within) ∙ ap (λ b. cond (not b) (1 + position_or_len is_star (drop (i + 1) w)) 0) other in
    omega (arith, there)

pub place_here : (w : List ℕ) (i : ℕ) → i < length w → get_or w i 0 ≡ 42 → position_or_len is_star (drop i w) ≡ 0
place_here w i within same = ap (position_or_len is_star) (drop_more w i 0 within) ∙ ap (λ b. cond (not b) (1 + position_or_len is_star (drop (i + 1) w)) 0) (eq-eqb (get_or w i 0) 42 same)

pub place_none : (w : List ℕ) (i : ℕ) → length w ≤ i → position_or_len is_star (drop i w) ≡ 0
place_none w i past = ap (position_or_len is_star) (drop_all i w past)
