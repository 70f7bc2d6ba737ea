-- A text in pieces that a piece is put to, and texts whose pieces stand one behind the other.
use Rattle.std.proofs.Common.{◌≡◌, ℕ, List, [], ◌∷◌, ◌++◌, ap, sym, ◌∙◌, append_assoc, append-nil}
use Rattle.std.specs.List.{concat}
use Rattle.std.proofs.lemmas.List.Folds.{concat-append}

concat-one : (pieces : List (List ℕ)) (piece : List ℕ) → concat (pieces ++ piece ∷ []) ≡ concat pieces ++ piece
concat-one pieces piece = concat-append pieces (piece ∷ []) ∙ ap (λ t. concat pieces ++ t) (append-nil piece)

-- the last piece is put to the full ones
pub all-pieces : (full pieces : List (List ℕ)) (page piece whole : List ℕ) → concat full ++ page ≡ whole → piece ≡ page → pieces ≡ full ++ piece ∷ [] → concat pieces ≡ whole
all-pieces full pieces page piece whole is same put = ap concat put ∙ (concat-one full piece ∙ (ap (λ t. concat full ++ t) same ∙ is))

-- the same, and nothing stands behind them
pub filled : (full pieces : List (List ℕ)) (page piece rest whole : List ℕ) → concat full ++ page ≡ whole → piece ≡ page → rest ≡ [] → pieces ≡ full ++ piece ∷ [] → concat pieces ++ rest ≡ whole
filled full pieces page piece rest whole is same none put =
    ap (λ t. concat pieces ++ t) none ∙ (append-nil (concat pieces) ∙ all-pieces full pieces page piece whole is same put)

-- the pieces of one text more stand behind those of others
pub text-appended : (before now after pieces texts : List (List ℕ)) (text : List ℕ) → concat now ≡ concat before ++ concat texts → concat pieces ≡ text → after ≡ now ++ pieces
    → concat after ≡ concat before ++ concat (texts ++ text ∷ [])
text-appended before now after pieces texts text is told put =
    ap concat put
    ∙ (concat-append now pieces
    ∙ (ap (λ t. t ++ concat pieces) is
    ∙ (append_assoc (concat before) (concat texts) (concat pieces)
    ∙ ap (λ t. concat before ++ t) (ap (λ t. concat texts ++ t) told ∙ sym (concat-one texts text)))))
