-- Words behind spaces, and lines written piece by piece: what each piece adds at the end of a text comes to whole lines.
use Rattle.std.proofs.Common.{◌≡◌, ℕ, suc, ◌+◌, ◌<◌, List, [], ◌∷◌, ◌++◌, length, take, get_or, refl, ap, sym, ◌∙◌, arith, append_assoc, append-nil, take-suc}
use Rattle.co_text.specs.Lines.{spaced, line_text, text}
use Rattle.co_text.specs.Values.{Word}
use Rattle.co_text.specs.Written.{token_word, token_words}
use Rattle.co_text.specs.declared.token.Token.{Token}

pub spaced-append : (vs ws : List (List ℕ)) → spaced (vs ++ ws) ≡ spaced vs ++ spaced ws
spaced-append [] ws = refl
spaced-append (v ∷ vs) ws = ap (λ t. 32 ∷ (v ++ t)) (spaced-append vs ws) ∙ ap (λ t. 32 ∷ t) (sym (append_assoc v (spaced vs) (spaced ws)))

pub words-append : (ss ts : List Token) → token_words (ss ++ ts) ≡ token_words ss ++ token_words ts
words-append [] ts = refl
words-append (s ∷ ss) ts = ap (λ ws. token_word s ∷ ws) (words-append ss ts)

one-more : (i : ℕ) (ts : List Token) (d : Token) → i < length ts → take (i + 1) ts ≡ take i ts ++ get_or ts i d ∷ []
one-more i ts d inside = let e : i + 1 ≡ suc i = omega arith in ap (λ k. take k ts) e ∙ take-suc ts i d inside

single : (w : List ℕ) → spaced (w ∷ []) ≡ 32 ∷ w
single w = simp append-nil

-- one more word behind the first i
pub more-step : (old self p t : List ℕ) (ts : List Token) (i : ℕ) (d : Token) → self ≡ old ++ spaced (token_words (take i ts)) → p ≡ self ++ 32 ∷ [] → t ≡ p ++ token_word (get_or ts i d) → i < length ts → t ≡ old ++ spaced (token_words (take (i + 1) ts))
more-step old self p t ts i d e f g inside =
    let w : List ℕ = token_word (get_or ts i d) in
    let words : spaced (token_words (take (i + 1) ts)) ≡ spaced (token_words (take i ts)) ++ 32 ∷ w =
    ap (λ us. spaced (token_words us)) (one-more i ts d inside) ∙ (ap spaced (words-append (take i ts) (get_or ts i d ∷ [])) ∙ (spaced-append (token_words (take i ts)) (w ∷ []) ∙ ap (λ u. spaced (token_words (take i ts)) ++ u) (single w))) in
    rw (g, f, e, words) (pieces old (spaced (token_words (take i ts))) w)
  where
    pieces : (a b c : List ℕ) → ((a ++ b) ++ 32 ∷ []) ++ c ≡ a ++ (b ++ 32 ∷ c)
    pieces a b c = append_assoc (a ++ b) (32 ∷ []) c ∙ append_assoc a b (32 ∷ c)

-- lines

pub text_one : (ws : List Word) → text (ws ∷ []) ≡ line_text ws
text_one ws = append-nil (line_text ws)

pub text_append : (xs ys : List (List Word)) → text (xs ++ ys) ≡ text xs ++ text ys
text_append [] ys = refl
text_append (x ∷ xs) ys = ap (λ t. line_text x ++ t) (text_append xs ys) ∙ sym (append_assoc (line_text x) (text xs) (text ys))

-- first words, further ones, and the end
pub one_more : (old p1 p2 p3 : List ℕ) (w : Word) (ws vs : List Word) → p1 ≡ old ++ (w ++ spaced ws) → p2 ≡ p1 ++ spaced vs → p3 ≡ p2 ++ 10 ∷ [] → p3 ≡ old ++ line_text (w ∷ (ws ++ vs))
one_more old p1 p2 p3 w ws vs e1 e2 e3 = rw (e3, e2, e1, spaced-append ws vs) (pieces old w (spaced ws) (spaced vs) (10 ∷ []))
  where
    pieces : (o a b c z : List ℕ) → ((o ++ (a ++ b)) ++ c) ++ z ≡ o ++ (a ++ ((b ++ c) ++ z))
    pieces o a b c z = simp append_assoc

-- the same as the lines of a text
pub one_line : (old p1 p2 p3 : List ℕ) (w : Word) (ws vs : List Word) → p1 ≡ old ++ (w ++ spaced ws) → p2 ≡ p1 ++ spaced vs → p3 ≡ p2 ++ 10 ∷ [] → p3 ≡ old ++ text ((w ∷ (ws ++ vs)) ∷ [])
one_line old p1 p2 p3 w ws vs e1 e2 e3 = one_more old p1 p2 p3 w ws vs e1 e2 e3 ∙ ap (λ t. old ++ t) (sym (text_one (w ∷ (ws ++ vs))))

-- some words and further ones
pub both_more : (old p1 p2 : List ℕ) (vs ws : List Word) → p1 ≡ old ++ spaced vs → p2 ≡ p1 ++ spaced ws → p2 ≡ old ++ spaced (vs ++ ws)
both_more old p1 p2 vs ws e1 e2 = rw (e2, e1, spaced-append vs ws) (append_assoc old (spaced vs) (spaced ws))

-- texts appended one after the other

pub one_piece : (old p1 a b : List ℕ) → p1 ≡ old ++ (a ++ b) → p1 ≡ old ++ (a ++ (b ++ []))
one_piece old p1 a b e1 = rw e1 (simp append-nil)

pub two_pieces : (old p1 p2 a b : List ℕ) → p1 ≡ old ++ a → p2 ≡ p1 ++ b → p2 ≡ old ++ (a ++ (b ++ []))
two_pieces old p1 p2 a b e1 e2 = rw (e2, e1) (simp (append_assoc, append-nil))

pub three_pieces : (old p1 p2 p3 a b c : List ℕ) → p1 ≡ old ++ a → p2 ≡ p1 ++ b → p3 ≡ p2 ++ c → p3 ≡ old ++ (a ++ (b ++ (c ++ [])))
three_pieces old p1 p2 p3 a b c e1 e2 e3 = rw (e3, e2, e1) (simp (append_assoc, append-nil))

pub four_pieces : (old p1 p2 p3 p4 a b c d : List ℕ) → p1 ≡ old ++ a → p2 ≡ p1 ++ b → p3 ≡ p2 ++ c → p4 ≡ p3 ++ d → p4 ≡ old ++ (a ++ (b ++ (c ++ (d ++ []))))
four_pieces old p1 p2 p3 p4 a b c d e1 e2 e3 e4 = rw (e4, e3, e2, e1) (simp (append_assoc, append-nil))

pub five_pieces : (old p1 p2 p3 p4 p5 a b c d e : List ℕ) → p1 ≡ old ++ a → p2 ≡ p1 ++ b → p3 ≡ p2 ++ c → p4 ≡ p3 ++ d → p5 ≡ p4 ++ e → p5 ≡ old ++ (a ++ (b ++ (c ++ (d ++ (e ++ [])))))
five_pieces old p1 p2 p3 p4 p5 a b c d e e1 e2 e3 e4 e5 = rw (e5, e4, e3, e2, e1) (simp (append_assoc, append-nil))

pub six_pieces : (old p1 p2 p3 p4 p5 p6 a b c d e f : List ℕ) → p1 ≡ old ++ a → p2 ≡ p1 ++ b → p3 ≡ p2 ++ c → p4 ≡ p3 ++ d → p5 ≡ p4 ++ e → p6 ≡ p5 ++ f → p6 ≡ old ++ (a ++ (b ++ (c ++ (d ++ (e ++ (f ++ []))))))
six_pieces old p1 p2 p3 p4 p5 p6 a b c d e f e1 e2 e3 e4 e5 e6 = rw (e6, e5, e4, e3, e2, e1) (simp (append_assoc, append-nil))
