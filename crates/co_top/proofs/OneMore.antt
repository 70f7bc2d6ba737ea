-- What holds of each element of a list so far, one after the other.
use Rattle.std.proofs.Common.{◌≡◌, ℕ, ◌+◌, ◌<◌, ◌≤◌, List, [], ◌∷◌, ◌++◌, length, take, get_or, ap, sym, subst, ◌∙◌}
use Rattle.std.specs.List.{AllByRecursion}
use Rattle.std.proofs.lemmas.List.{take_all, take_more}
use Rattle.co_run.proofs.shown.OneMore.{all_one_more}

pub one_more : {X : Type 0} (P : X → Type 0) (xs : List X) (i : ℕ) (x : X) → i < length xs → x ≡ get_or xs i x → AllByRecursion P (take i xs) → P x → AllByRecursion P (take (i + 1) xs)
one_more P xs i x below is all here = subst (AllByRecursion P) (sym (take_more xs i x below ∙ ap (λ y. take i xs ++ y ∷ []) (sym is))) (all_one_more P (take i xs) x all here)

pub all_taken : {X : Type 0} (P : X → Type 0) (xs : List X) (i : ℕ) → length xs ≤ i → AllByRecursion P (take i xs) → AllByRecursion P xs
all_taken P xs i long all = subst (AllByRecursion P) (take_all i xs long) all
