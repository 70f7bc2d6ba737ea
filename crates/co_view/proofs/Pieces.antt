-- Words of which the last is a time, and further words behind first ones.
use Rattle.std.proofs.Common.{◌≡◌, ℕ, codes, List, [], ◌∷◌, ◌++◌, ap, sym, subst, Result, ◌∙◌, append_assoc, append-nil}
use Rattle.std.specs.Prelude.{OnOk}
use Rattle.co_text.specs.Lines.{spaced}
use Rattle.co_text.specs.Values.{Word}
use Rattle.co_text.proofs.Spacing.{spaced-append}
use Rattle.co_notes.specs.Parts.{joined}

at_end : (ws : List Word) (t : Word) → spaced (ws ++ codes "at" ∷ t ∷ []) ≡ spaced ws ++ (codes " at " ++ t)
at_end ws t = spaced-append ws (codes "at" ∷ t ∷ []) ∙ ap (λ u. spaced ws ++ (codes " at " ++ u)) (append-nil t)

pub more_at : (old p1 p2 p3 t : List ℕ) (ws : List Word) → p1 ≡ old ++ spaced ws → p2 ≡ p1 ++ codes " at " → p3 ≡ p2 ++ t → p3 ≡ old ++ spaced (ws ++ codes "at" ∷ t ∷ [])
more_at old p1 p2 p3 t ws e1 e2 e3 = rw (e3, e2, e1, at_end ws t) (pieces old (spaced ws) (codes " at ") t)
  where
    pieces : (a b m c : List ℕ) → ((a ++ b) ++ m) ++ c ≡ a ++ (b ++ (m ++ c))
    pieces a b m c = append_assoc (a ++ b) m c ∙ append_assoc a b (m ++ c)

pub begun_at : (old p1 p2 p3 t : List ℕ) (w : Word) (ws : List Word) → p1 ≡ old ++ (w ++ spaced ws) → p2 ≡ p1 ++ codes " at " → p3 ≡ p2 ++ t → p3 ≡ old ++ joined (w ∷ (ws ++ codes "at" ∷ t ∷ []))
begun_at old p1 p2 p3 t w ws e1 e2 e3 = rw (e3, e2, e1, at_end ws t) (pieces old w (spaced ws) (codes " at ") t)
  where
    pieces : (o a b m c : List ℕ) → ((o ++ (a ++ b)) ++ m) ++ c ≡ o ++ (a ++ (b ++ (m ++ c)))
    pieces o a b m c = append_assoc (o ++ (a ++ b)) m c ∙ (append_assoc o (a ++ b) (m ++ c) ∙ ap (λ u. o ++ u) (append_assoc a b (m ++ c)))

pub begun_more : (old p1 p2 : List ℕ) (w : Word) (ws vs : List Word) → p1 ≡ old ++ joined (w ∷ ws) → p2 ≡ p1 ++ spaced vs → p2 ≡ old ++ joined (w ∷ (ws ++ vs))
begun_more old p1 p2 w ws vs e1 e2 = rw (e2, e1, spaced-append ws vs) (append_assoc old (w ++ spaced ws) (spaced vs) ∙ ap (λ u. old ++ u) (append_assoc w (spaced ws) (spaced vs)))

-- the same of words that are equal

pub begun_is : {X E : Type 0} (r : Result X E) (old new : List ℕ) (ws vs : List Word) → ws ≡ vs → OnOk r (new ≡ old ++ joined ws) → OnOk r (new ≡ old ++ joined vs)
begun_is r old new ws vs e h = subst (λ (us : List Word). OnOk r (new ≡ old ++ joined us)) e h

pub more_is : {X E : Type 0} (r : Result X E) (old new : List ℕ) (ws vs : List Word) → ws ≡ vs → OnOk r (new ≡ old ++ spaced ws) → OnOk r (new ≡ old ++ spaced vs)
more_is r old new ws vs e h = subst (λ (us : List Word). OnOk r (new ≡ old ++ spaced us)) e h

pub said_is : {X E : Type 0} (r : Result X E) (old new t u : List ℕ) → t ≡ u → OnOk r (new ≡ old ++ t) → OnOk r (new ≡ old ++ u)
said_is r old new t u e h = subst (λ (v : List ℕ). OnOk r (new ≡ old ++ v)) e h

-- ---- texts that are written piece by piece

pub two_texts : (old p1 p2 a b : List ℕ) → p1 ≡ old ++ a → p2 ≡ p1 ++ b → p2 ≡ old ++ (a ++ b)
two_texts old p1 p2 a b e1 e2 = rw (e2, e1) (append_assoc old a b)

pub four_texts : (old p1 p2 p3 p4 a b c d : List ℕ) → p1 ≡ old ++ a → p2 ≡ p1 ++ b → p3 ≡ p2 ++ c → p4 ≡ p3 ++ d → p4 ≡ old ++ (a ++ (b ++ (c ++ d)))
four_texts old p1 p2 p3 p4 a b c d e1 e2 e3 e4 = rw (e4, e3, e2, e1) (simp append_assoc)

-- a word and further ones
pub four_words : (old p1 p2 p3 p4 : List ℕ) (w : Word) (us vs ws : List Word) → p1 ≡ old ++ spaced (w ∷ []) → p2 ≡ p1 ++ spaced us → p3 ≡ p2 ++ spaced vs → p4 ≡ p3 ++ spaced ws → p4 ≡ old ++ spaced (w ∷ (us ++ (vs ++ ws)))
four_words old p1 p2 p3 p4 w us vs ws e1 e2 e3 e4 = rw (spaced-append (w ∷ []) (us ++ (vs ++ ws)), spaced-append us (vs ++ ws), spaced-append vs ws) (four_texts old p1 p2 p3 p4 (spaced (w ∷ [])) (spaced us) (spaced vs) (spaced ws) e1 e2 e3 e4)

-- a text behind a text
pub behind : (w t u : List ℕ) → t ≡ u → w ++ t ≡ w ++ u
behind w t u e = ap (λ v. w ++ v) e

-- what an arming is doing
pub doing_is : (n doing end : List ℕ) → n ++ (doing ++ end) ≡ (n ++ doing) ++ end
doing_is n doing end = sym (append_assoc n doing end)
