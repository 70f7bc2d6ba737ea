-- When two words are the same.
use Rattle.std.proofs.Common.{◌≡◌, ℕ, ◌≤◌, true, List, length, take, sym, ◌∙◌}
use Rattle.std.proofs.lemmas.List.{take_all}
use Rattle.std.proofs.lemmas.Slice.Eq.{bytes_eq-Decides}
use Rattle.co_text.specs.Values.{is_word}

pub all-same : (xs ys : List ℕ) (n : ℕ) → length xs ≤ n → length ys ≤ n → take n xs ≡ take n ys → is_word xs ys ≡ true
all-same xs ys n long more same = (bytes_eq-Decides xs ys).1 (sym (take_all n xs long) ∙ (same ∙ take_all n ys more))
