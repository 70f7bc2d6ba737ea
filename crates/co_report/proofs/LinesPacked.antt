-- Note lines in few bytes: what one more of them makes, and the line at an index.
use Rattle.std.proofs.Common.{◌≡◌, ℕ, zero, suc, ◌+◌, ◌<◌, ◌≤◌, ◌==◌, true, false, List, [], ◌∷◌, ◌++◌, length, map, take, refl, ap, sym, ◌∙◌, arith}
use Rattle.std.specs.Prelude.{Result, Ok, Err, OnOk, Some, slice_get, nat_le, if◌then◌else◌}
use Rattle.std.proofs.lemmas.Bool.{and_parts, leb-true, eqb-true}
use Rattle.std.proofs.lemmas.Bool.Decides.{nat_tests}
use Rattle.co_object.specs.declared.note.Note.{Note}
use Rattle.co_report.specs.declared.line.Line.{Line}
use Rattle.co_report.specs.declared.packed_lines.Stretch.{Stretch}
use Rattle.co_report.specs.PackedLines.{is_next_of, line_of, lines_from, no_stretch, note_from_line, line_in, stretch_at}

-- ---- stretches

pub stretch-more : (first : Stretch) (xs : List Stretch) (x : Stretch) (at : ℕ) → stretch_at first (xs ++ x ∷ []) at ≡ (if nat_le x.at at then x else stretch_at first xs at)
stretch-more first [] x at = refl
stretch-more first (y ∷ ys) x at = stretch-more (if nat_le y.at at then y else first) ys x at

pub stretch-last : (xs : List Stretch) (x : Stretch) (at : ℕ) → x.at ≤ at → stretch_at no_stretch (xs ++ x ∷ []) at ≡ x
stretch-last xs x at h =
    let low : nat_le x.at at ≡ true = grind (arith, nat_tests) in
    stretch-more no_stretch xs x at ∙ ap (λ b. if b then x else stretch_at no_stretch xs at) low

pub stretch-before : (xs : List Stretch) (x : Stretch) (at : ℕ) → at < x.at → stretch_at no_stretch (xs ++ x ∷ []) at ≡ stretch_at no_stretch xs at
stretch-before xs x at h =
    let low : nat_le x.at at ≡ false = grind (arith, nat_tests) in
    stretch-more no_stretch xs x at ∙ ap (λ b. if b then x else stretch_at no_stretch xs at) low

-- ---- lines

abbrev line_at : List Stretch → ℕ → Note → Line
line_at xs at n = line_of (line_in (stretch_at no_stretch xs at) at) n

lines-more : (xs : List Stretch) (at m : ℕ) (ns : List Note) (n : Note) → m ≡ at + length ns → lines_from xs at (ns ++ n ∷ []) ≡ lines_from xs at ns ++ line_at xs m n ∷ []
lines-more xs at m [] n h = let e : at ≡ m = omega (arith, h) in ap (λ k. line_at xs k n ∷ []) e
lines-more xs at m (y ∷ ys) n h = ap (λ ls. line_at xs at y ∷ ls) (lines-more xs (at + 1) m ys n (omega (arith, h)))

-- a stretch that begins behind the notes changes none of their lines
lines-before : (xs : List Stretch) (x : Stretch) (at : ℕ) (ns : List Note) → at + length ns ≤ x.at → lines_from (xs ++ x ∷ []) at ns ≡ lines_from xs at ns
lines-before xs x at [] h = refl
lines-before xs x at (n ∷ ns) h =
    ap (λ (s : Stretch). line_of (line_in s at) n ∷ lines_from (xs ++ x ∷ []) (at + 1) ns) (stretch-before xs x at (omega (arith, h)))
    ∙ ap (λ ls. line_at xs at n ∷ ls) (lines-before xs x (at + 1) ns (omega (arith, h)))

pub length-lines : (xs : List Stretch) (at : ℕ) (ns : List Note) → length (lines_from xs at ns) ≡ length ns
length-lines xs at [] = refl
length-lines xs at (n ∷ ns) = ap suc (length-lines xs (at + 1) ns)

-- the notes of the lines are those that they were made of
pub notes-back : (xs : List Stretch) (at : ℕ) (ns : List Note) → map note_from_line (lines_from xs at ns) ≡ ns
notes-back xs at [] = refl
notes-back xs at (n ∷ ns) = ap (λ rest. n ∷ rest) (notes-back xs (at + 1) ns)

-- its number
pub number-here : (xs : List Stretch) (at m k : ℕ) (ns : List Note) (line : Line) → m ≡ at + k → slice_get (lines_from xs at ns) k ≡ Some line → line_in (stretch_at no_stretch xs m) m ≡ line.line
number-here xs at m k [] line h there = cc
number-here xs at m zero (y ∷ ys) line h there =
    let e : at ≡ m = omega (arith, h) in
    let same : line_at xs at y ≡ line = cc in
    ap (λ k. line_in (stretch_at no_stretch xs k) k) (sym e) ∙ ap (λ (l : Line). l.line) same
number-here xs at m (suc k) (y ∷ ys) line h there = number-here xs (at + 1) m k ys line (omega (arith, h)) there

pub line-here : (xs : List Stretch) (at m k : ℕ) (ns : List Note) (n : Note) → m ≡ at + k → slice_get ns k ≡ Some n → slice_get (lines_from xs at ns) k ≡ Some (line_at xs m n)
line-here xs at m k [] n h there = cc
line-here xs at m zero (y ∷ ys) n h there = let e : at ≡ m = omega (arith, h) in let same : y ≡ n = cc in ap (λ k. Some (line_at xs k y)) e ∙ ap (λ x. Some (line_at xs m x)) same
line-here xs at m (suc k) (y ∷ ys) n h there = line-here xs (at + 1) m k ys n (omega (arith, h)) there

-- ---- one line more

-- where a call is done, so is what follows from it
pub then-ok : {A E P Q : Type 0} (r : Result A E) → (P → Q) → OnOk r P → OnOk r Q
then-ok (Ok x) f p = f p
then-ok (Err e) f p = tt

-- of the last stretch
pub pushed-on : (xs : List Stretch) (x : Stretch) (ns : List Note) (n : Note) (at line : ℕ) → at ≡ length ns → is_next_of x at line ≡ true
    → lines_from (xs ++ x ∷ []) 0 (ns ++ n ∷ []) ≡ lines_from (xs ++ x ∷ []) 0 ns ++ line_of line n ∷ []
pushed-on xs x ns n at line h next =
    let both = and_parts (nat_le x.at at) (line_in x at == line) next in
    let here : stretch_at no_stretch (xs ++ x ∷ []) at ≡ x = stretch-last xs x at (leb-true x.at at both.0) in
    let number : line_in x at ≡ line = eqb-true (line_in x at) line both.1 in
    lines-more (xs ++ x ∷ []) 0 at ns n (omega (arith, h))
    ∙ (ap (λ (s : Stretch). lines_from (xs ++ x ∷ []) 0 ns ++ line_of (line_in s at) n ∷ []) here
    ∙ ap (λ k. lines_from (xs ++ x ∷ []) 0 ns ++ line_of k n ∷ []) number)

abbrev pub begun : (at line : ℕ) → Stretch
begun at line = record { at = at; line = line }

-- of one that begins with it
pub pushed-apart : (xs : List Stretch) (ns : List Note) (n : Note) (at line : ℕ) → at ≡ length ns → line ≤ 18446744073709551615
    → lines_from (xs ++ begun at line ∷ []) 0 (ns ++ n ∷ []) ≡ lines_from xs 0 ns ++ line_of line n ∷ []
pushed-apart xs ns n at line h few =
    let here : stretch_at no_stretch (xs ++ begun at line ∷ []) at ≡ begun at line = stretch-last xs (begun at line) at (omega arith) in
    let number : line_in (begun at line) at ≡ line = omega (arith, few) in
    lines-more (xs ++ begun at line ∷ []) 0 at ns n (omega (arith, h))
    ∙ (ap (λ (s : Stretch). lines_from (xs ++ begun at line ∷ []) 0 ns ++ line_of (line_in s at) n ∷ []) here
    ∙ (ap (λ k. lines_from (xs ++ begun at line ∷ []) 0 ns ++ line_of k n ∷ []) number
    ∙ ap (λ ls. ls ++ line_of line n ∷ []) (lines-before xs (begun at line) 0 ns (omega (arith, h)))))

-- ---- going along the stretches

pub later-more : (xs : List Stretch) (i at : ℕ) (x found next : Stretch) → take (i + 1) xs ≡ take i xs ++ x ∷ [] → found ≡ stretch_at no_stretch (take i xs) at
    → next ≡ (if nat_le x.at at then x else found) → next ≡ stretch_at no_stretch (take (i + 1) xs) at
later-more xs i at x found next more so_far is =
    is
    ∙ (ap (λ (f : Stretch). if nat_le x.at at then x else f) so_far
    ∙ (sym (stretch-more no_stretch (take i xs) x at)
    ∙ ap (λ ss. stretch_at no_stretch ss at) (sym more)))
