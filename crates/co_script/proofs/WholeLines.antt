-- The lines of a text have its bytes, so that what stands behind a line is the text from some byte on.
use Rattle.std.proofs.Common.{◌≡◌, ℕ, ◌+◌, ◌-◌, ◌≤◌, Bool, true, false, List, [], ◌∷◌, ◌++◌, length, drop, refl, ap, sym, ◌∙◌, arith, length-append}
use Rattle.std.proofs.lemmas.Bool.{eqb-true}
use Rattle.std.proofs.lemmas.List.{drop-drop, length-drop}
use Rattle.co_text.specs.Lines.{Line, lines_of, lines_behind, is_feed}
use Rattle.co_script.specs.LineBytes.{line_bytes}

-- the bytes of lines, their line feeds among them
abbrev pub bytes_of : List Line → List ℕ
bytes_of [] = []
bytes_of (l ∷ ls) = line_bytes l ++ bytes_of ls

bytes-behind : (b : Bool) (c : ℕ) (ls : List Line) → is_feed c ≡ b → bytes_of (lines_behind b c ls) ≡ c ∷ bytes_of ls
bytes-behind true c ls e = ap (λ d. d ∷ bytes_of ls) (sym (eqb-true c 10 e))
bytes-behind false c [] e = refl
bytes-behind false c (l ∷ ls) e = refl

pub bytes-back : (bs : List ℕ) → bytes_of (lines_of bs) ≡ bs
bytes-back [] = refl
bytes-back (c ∷ cs) = bytes-behind (is_feed c) c (lines_of cs) refl ∙ ap (λ l. c ∷ l) (bytes-back cs)

-- a text is its first line and the text behind it
pub first-bytes : (rest after : List ℕ) (l : Line) → lines_of rest ≡ l ∷ lines_of after → rest ≡ line_bytes l ++ after
first-bytes rest after l e = sym (bytes-back rest) ∙ (ap bytes_of e ∙ ap (λ t. line_bytes l ++ t) (bytes-back after))

drop-front : (xs ys : List ℕ) → drop (length xs) (xs ++ ys) ≡ ys
drop-front [] ys = refl
drop-front (x ∷ xs) ys = drop-front xs ys

pub behind : (text after : List ℕ) (at : ℕ) (l : Line) → at ≤ length text → lines_of (drop at text) ≡ l ∷ lines_of after → after ≡ drop (length text - length after) text
behind text after at l within e =
    let b : List ℕ = line_bytes l in
    let cut : drop at text ≡ b ++ after = first-bytes (drop at text) after l e in
    let n : at + length b ≡ length text - length after = omega (arith, ap length cut, length-append b after, length-drop {A = ℕ} at text) in
    sym (ap (λ k. drop k text) (sym n) ∙ (sym (drop-drop (length b) at text) ∙ (ap (drop (length b)) cut ∙ drop-front b after)))

-- behind a text without lines there is none
pub no-lines : (text : List ℕ) (at : ℕ) → at ≤ length text → lines_of (drop at text) ≡ [] → at ≡ length text
no-lines text at within e =
    let none : drop at text ≡ [] = sym (bytes-back (drop at text)) ∙ ap bytes_of e in
    omega (arith, ap length none, length-drop {A = ℕ} at text)
