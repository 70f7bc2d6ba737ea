-- A text that is cut before a line.
use Rattle.std.proofs.Common.{◌≡◌, ℕ, ◌+◌, ◌-◌, Bool, false, List, [], ◌∷◌, ◌++◌, length, take, refl, ap, sym, ◌∙◌, arith, append_assoc, length-append}
use Rattle.std.specs.Prelude.{Option, Some, None, codes, if◌then◌else◌}
use Rattle.std.specs.Option.{option_map}
use Rattle.co_text.specs.Lines.{Line, lines_of}
use Rattle.co_script.specs.LineBytes.{line_bytes}
use Rattle.co_script.proofs.WholeLines.{first-bytes}
use Rattle.co_report.specs.Reading.{is_line, Halves, line_before, halves}

take-all-front : (xs ys : List ℕ) → take (length xs) (xs ++ ys) ≡ xs
take-all-front [] ys = refl
take-all-front (x ∷ xs) ys = ap (λ l. x ∷ l) (take-all-front xs ys)

take-front : (xs ys : List ℕ) → take (length (xs ++ ys) - length ys) (xs ++ ys) ≡ xs
take-front xs ys =
    let n : length (xs ++ ys) - length ys ≡ length xs = omega (arith, length-append xs ys) in
    ap (λ k. take k (xs ++ ys)) n ∙ take-all-front xs ys

-- one more line before it
pub before_more : (text front rest after : List ℕ) (l : Line) → text ≡ front ++ rest → lines_of rest ≡ l ∷ lines_of after → text ≡ (front ++ line_bytes l) ++ after
before_more text front rest after l e h = e ∙ (ap (λ r. front ++ r) (first-bytes rest after l h) ∙ sym (append_assoc front (line_bytes l) after))

pub front_of : (text front rest : List ℕ) → text ≡ front ++ rest → take (length text - length rest) text ≡ front
front_of text front rest e = ap (λ t. take (length t - length rest) t) e ∙ take-front front rest

-- a text cut in two, with some lines more in front
abbrev pub behind_lines : List ℕ → ℕ → Halves → Halves
behind_lines front count h = record { script = front ++ h.script; count = count + h.count; notes = h.notes }

behind-more : (front : List ℕ) (count : ℕ) (l : Line) (o : Option Halves) → option_map (behind_lines front count) (option_map (line_before l) o) ≡ option_map (behind_lines (front ++ line_bytes l) (count + 1)) o
behind-more front count l None = refl
behind-more front count l (Some h) =
    let e : count + (h.count + 1) ≡ (count + 1) + h.count = omega arith in
    ap (λ t. Some (record { script = t; count = count + (h.count + 1); notes = h.notes })) (sym (append_assoc front (line_bytes l) h.script))
    ∙ ap (λ n. Some (record { script = (front ++ line_bytes l) ++ h.script; count = n; notes = h.notes })) e

pub whole_start : (text : List ℕ) → text ≡ take (length text - length text) text ++ text
whole_start text = let none : length text - length text ≡ 0 = omega arith in ap (λ n. take n text ++ text) (sym none)

-- one line further
pub whole_more : (text rest after : List ℕ) (l : Line) → text ≡ take (length text - length rest) text ++ rest → lines_of rest ≡ l ∷ lines_of after → text ≡ take (length text - length after) text ++ after
whole_more text rest after l e h =
    let front : List ℕ = take (length text - length rest) text in
    let more : text ≡ (front ++ line_bytes l) ++ after = before_more text front rest after l e h in
    more ∙ ap (λ t. t ++ after) (sym (front_of text (front ++ line_bytes l) after more))

abbrev halves_by : Bool → Line → List Line → Option Halves
halves_by b l ls = if b then Some (record { script = []; count = 0; notes = ls }) else option_map (line_before l) (halves ls)

pub halves_more : (text rest after : List ℕ) (l : Line) (count : ℕ) → text ≡ take (length text - length rest) text ++ rest → lines_of rest ≡ l ∷ lines_of after → is_line (codes "histories") l ≡ false
    → option_map (behind_lines (take (length text - length rest) text) count) (halves (lines_of rest)) ≡ option_map (behind_lines (take (length text - length after) text) (count + 1)) (halves (lines_of after))
halves_more text rest after l count e h other =
    let front : List ℕ = take (length text - length rest) text in
    let more : text ≡ (front ++ line_bytes l) ++ after = before_more text front rest after l e h in
    ap (λ ls. option_map (behind_lines front count) (halves ls)) h
    ∙ (ap (λ b. option_map (behind_lines front count) (halves_by b l (lines_of after))) other
    ∙ (behind-more front count l (halves (lines_of after))
    ∙ ap (λ t. option_map (behind_lines t (count + 1)) (halves (lines_of after))) (sym (front_of text (front ++ line_bytes l) after more))))
