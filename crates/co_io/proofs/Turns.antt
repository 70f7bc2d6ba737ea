-- What one more turn of a loop that reads or writes makes of the turns before: counts rise, room shrinks, bytes move on.
use Rattle.std.proofs.Common.{◌≡◌, ℕ, ◌+◌, ◌-◌, ◌≤◌, ◌<◌, List, [], ◌∷◌, ◌++◌, length, take, drop, get_or, Option, None, Some, sym, ap, ◌∙◌, subst, arith, append_assoc, append-nil, length-append, take-append-drop}
use Rattle.std.specs.List.{concat}
use Rattle.std.specs.Io.KnownBytes.{Appends}
use Rattle.std.proofs.KnownBytes.{Appends-trans}
use Rattle.std.proofs.lemmas.List.{take_rest, take_all, take_more, take-append-le, length-take-le, drop-drop}
use Rattle.std.proofs.lemmas.List.Folds.{concat-append}
use Rattle.co_io.specs.Room.{Fills, IsTooSmallFor}
use Rattle.co_io.specs.Writing.{AppendsFront}

Fills-trans : (a b c : Option ℕ) (m n : ℕ) → Fills a b m → Fills b c n → Fills a c (m + n)
Fills-trans None b c m n p q = tt
Fills-trans (Some x) None c m n p q = absurd p
Fills-trans (Some x) (Some y) None m n p q = absurd q
Fills-trans (Some x) (Some y) (Some z) m n p q = omega arith

-- a write that took n bytes of the rest fills the room that the bytes before it left
pub filled_more : (a b c : Option ℕ) (done rest : List ℕ) (n : ℕ) → n ≤ length rest → Fills a b (length done) → Fills b c n → Fills a c (length (done ++ take n rest))
filled_more a b c done rest n within p q =
    subst (Fills a c) (sym (length-append done (take n rest) ∙ ap (λ k. length done + k) (length-take-le n rest within))) (Fills-trans a b c (length done) n p q)

-- and moves the seam between what is done and the rest
pub moves_seam : (all done rest : List ℕ) (n : ℕ) → all ≡ done ++ rest → all ≡ (done ++ take n rest) ++ take (length rest - n) (drop n rest)
moves_seam all done rest n split =
    split ∙ ap (λ l. done ++ l) (sym (take-append-drop n rest)) ∙ sym (append_assoc done (take n rest) (drop n rest)) ∙ ap (λ l. (done ++ take n rest) ++ l) (sym (take_rest rest n))

-- a piece that was copied off the front of what is left, and what is left then
pub left_after : (bytes copied tail : List ℕ) (at n : ℕ) → copied ≡ take n (drop at bytes) → length copied ≡ n → drop at bytes ≡ take n (copied ++ tail) ++ drop (at + n) bytes
left_after bytes copied tail at n is len =
    let front : take n (copied ++ tail) ≡ take n (drop at bytes) = take-append-le n copied tail (omega arith) ∙ take_all n copied (omega arith) ∙ is in
    sym (take-append-drop n (drop at bytes)) ∙ ap (λ l. l ++ drop n (drop at bytes)) (sym front) ∙ ap (λ l. take n (copied ++ tail) ++ l) (drop-drop n at bytes)

-- ---- pieces, one after the other

-- what is written so far, and the next piece
pub concat_more : (pieces : List (List ℕ)) (i : ℕ) (d : List ℕ) → i < length pieces → concat (take (i + 1) pieces) ≡ concat (take i pieces) ++ get_or pieces i d
concat_more pieces i d inside =
    ap concat (take_more pieces i d inside) ∙ concat-append (take i pieces) (get_or pieces i d ∷ []) ∙ ap (λ l. concat (take i pieces) ++ l) (append-nil (get_or pieces i d))

-- and the pieces after it
concat_split : (pieces : List (List ℕ)) (i : ℕ) (d : List ℕ) → i < length pieces → concat pieces ≡ (concat (take i pieces) ++ get_or pieces i d) ++ concat (drop (i + 1) pieces)
concat_split pieces i d inside =
    ap concat (sym (take-append-drop (i + 1) pieces)) ∙ concat-append (take (i + 1) pieces) (drop (i + 1) pieces) ∙ ap (λ l. l ++ concat (drop (i + 1) pieces)) (concat_more pieces i d inside)

seam : (done written rest tail : List ℕ) → (done ++ (written ++ rest)) ++ tail ≡ (done ++ written) ++ (rest ++ tail)
seam done written rest tail =
    ap (λ l. l ++ tail) (sym (append_assoc done written rest)) ∙ append_assoc (done ++ written) rest tail

-- a proper front of the next piece ends a proper front of them all
pub front_more : (a b c : Option (List ℕ)) (pieces : List (List ℕ)) (i : ℕ) (d : List ℕ) → i < length pieces → Appends a b (concat (take i pieces)) → AppendsFront b c (get_or pieces i d) → AppendsFront a c (concat pieces)
front_more a b c pieces i d inside before (written, rest, split, some, after) =
    let tail = concat (drop (i + 1) pieces) in
    let done = concat (take i pieces) in
    let whole : concat pieces ≡ (done ++ written) ++ (rest ++ tail) = concat_split pieces i d inside ∙ ap (λ l. (done ++ l) ++ tail) split ∙ seam done written rest tail in
    let more : length (rest ++ tail) ≡ length rest + length tail = length-append rest tail in
    (done ++ written, rest ++ tail, whole, omega arith, Appends-trans _ _ _ _ _ before after)

-- where the next piece finds no room, they all found none
pub too_small : (a b : Option ℕ) (pieces : List (List ℕ)) (i : ℕ) (d : List ℕ) → i < length pieces → Fills a b (length (concat (take i pieces))) → IsTooSmallFor (length (get_or pieces i d)) b → IsTooSmallFor (length (concat pieces)) a
too_small None b pieces i d inside filled small = tt
too_small (Some x) None pieces i d inside filled small = absurd filled
too_small (Some x) (Some y) pieces i d inside filled small =
    let done = concat (take i pieces) in
    let piece = get_or pieces i d in
    let tail = concat (drop (i + 1) pieces) in
    let all : length (concat pieces) ≡ length done + length piece + length tail = ap length (concat_split pieces i d inside) ∙ length-append (done ++ piece) tail ∙ ap (λ n. n + length tail) (length-append done piece) in
    omega arith

-- and a piece that is written fills the room
pub filled_by : (a b c : Option ℕ) (pieces : List (List ℕ)) (i : ℕ) (d : List ℕ) → i < length pieces → Fills a b (length (concat (take i pieces))) → Fills b c (length (get_or pieces i d)) → Fills a c (length (concat (take (i + 1) pieces)))
filled_by a b c pieces i d inside before after =
    subst (Fills a c) (sym (ap length (concat_more pieces i d inside) ∙ length-append (concat (take i pieces)) (get_or pieces i d))) (Fills-trans a b c (length (concat (take i pieces))) (length (get_or pieces i d)) before after)
