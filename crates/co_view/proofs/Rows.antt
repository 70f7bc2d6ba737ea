-- Rows that are written one by one.
use Rattle.std.proofs.Common.{◌≡◌, Bool, true, cond, ℕ, zero, suc, ◌+◌, ◌<◌, List, [], ◌∷◌, ◌++◌, length, take, get_or, Result, Ok, Err, refl, ap, sym, ◌∙◌, arith, append_assoc, append-nil, take-suc}
use Rattle.std.specs.Prelude.{IfOk, OnOk, Some, slice_get}
use Rattle.std.proofs.lemmas.Option.{slice_get-get_or}
use Rattle.std.specs.List.{flat_map, range_with_len, concat}
use Rattle.co_report.proofs.SectionsWritten.{range-more}
use Rattle.co_report.specs.declared.line.Line.{Line}
use Rattle.co_view.specs.declared.lanes.Focus.{Focus}
use Rattle.co_view.specs.Lanes.{concerns, lane_row, passing, row_at, shown_row}

-- one more lane
pub passing_more : (k : ℕ) → passing (k + 1) ≡ passing k ++ 124 ∷ 9 ∷ []
passing_more zero = refl
passing_more (suc k) = (let n : suc k + 1 ≡ suc (k + 1) = omega arith in ap passing n ∙ ap (λ t. 124 ∷ 9 ∷ t) (passing_more k))

rows_more : {X : Type 0} (f : X → List ℕ) (xs : List X) (x : X) → flat_map f (xs ++ x ∷ []) ≡ flat_map f xs ++ f x
rows_more f [] x = append-nil (f x)
rows_more f (y ∷ ys) x = ap (λ t. f y ++ t) (rows_more f ys x) ∙ sym (append_assoc (f y) (flat_map f ys) (f x))

pub lane_step : (old p t : List ℕ) (k : ℕ) → p ≡ old ++ passing k → t ≡ p ++ 124 ∷ 9 ∷ [] → t ≡ old ++ passing (k + 1)
lane_step old p t k e f = rw (f, e, passing_more k) (append_assoc old (passing k) (124 ∷ 9 ∷ []))

-- one more number
pub number_step : (f : ℕ → List ℕ) (old p t : List ℕ) (i : ℕ) → p ≡ old ++ flat_map f (range_with_len 0 i) → t ≡ p ++ f i → t ≡ old ++ flat_map f (range_with_len 0 (i + 1))
number_step f old p t i e g =
    let n : 0 + i ≡ i = omega arith in
    let more : flat_map f (range_with_len 0 (i + 1)) ≡ flat_map f (range_with_len 0 i) ++ f i =
    ap (flat_map f) (range-more 0 i ∙ ap (λ k. range_with_len 0 i ++ k ∷ []) n) ∙ rows_more f (range_with_len 0 i) i in
    rw (g, e, more) (append_assoc old (flat_map f (range_with_len 0 i)) (f i))

-- one more item of a list
pub item_step : {X : Type 0} (f : X → List ℕ) (old p t : List ℕ) (xs : List X) (i : ℕ) (d x : X) → p ≡ old ++ flat_map f (take i xs) → t ≡ p ++ f x → x ≡ get_or xs i d → i < length xs → t ≡ old ++ flat_map f (take (i + 1) xs)
item_step f old p t xs i d x e g at inside =
    let next : take (i + 1) xs ≡ take i xs ++ get_or xs i d ∷ [] = (let n : i + 1 ≡ suc i = omega arith in ap (λ k. take k xs) n) ∙ take-suc xs i d inside in
    let more : flat_map f (take (i + 1) xs) ≡ flat_map f (take i xs) ++ f (get_or xs i d) = ap (flat_map f) next ∙ rows_more f (take i xs) (get_or xs i d) in
    rw (g, at, e, more) (append_assoc old (flat_map f (take i xs)) (f (get_or xs i d)))

-- ---- pieces

concat_more : (ps : List (List ℕ)) (p : List ℕ) → concat (ps ++ p ∷ []) ≡ concat ps ++ p
concat_more [] p = append-nil p
concat_more (q ∷ ps) p = ap (λ t. q ++ t) (concat_more ps p) ∙ sym (append_assoc q (concat ps) p)

-- a page becomes a piece
pub closed : (ps qs : List (List ℕ)) (p e : List ℕ) → qs ≡ ps ++ p ∷ [] → e ≡ [] → concat qs ++ e ≡ concat ps ++ p
closed ps qs p e is empty = rw (is, empty) (append-nil (concat (ps ++ p ∷ [])) ∙ concat_more ps p)

-- a page grows
pub grown : (ps : List (List ℕ)) (p q t : List ℕ) → q ≡ p ++ t → concat ps ++ q ≡ (concat ps ++ p) ++ t
grown ps p q t e = rw e (sym (append_assoc (concat ps) p t))

-- ---- what is said of a result where it is Ok

pub ok_then : {X E P Q : Type 0} (r : Result X E) → OnOk r P → (P → Q) → OnOk r Q
ok_then (Ok x) h f = f h
ok_then (Err e) h f = tt

-- pieces of one text are pieces of an equal one
pub same_text : {E : Type 0} (r : Result (List (List ℕ)) E) (t u : List ℕ) → t ≡ u → IfOk r (λ ps. concat ps ≡ t) → IfOk r (λ ps. concat ps ≡ u)
same_text (Ok ps) t u e h = h ∙ e
same_text (Err x) t u e h = tt

-- the line at this index
pub some_read : (lines : List Line) (i : ℕ) (l : Line) → i < length lines → l ≡ get_or lines i l → slice_get lines i ≡ Some l
some_read lines i l inside is = slice_get-get_or lines i l inside ∙ ap (λ m. Some m) (sym is)

-- the row of the note of a line that there is, and that is shown
pub shown_is : {X E : Type 0} (r : Result X E) (old new : List ℕ) (f : Focus) (lines : List Line) (i : ℕ) (l : Line) (b : Bool) → slice_get lines i ≡ Some l → b ≡ concerns f l → b ≡ true →
    OnOk r (new ≡ old ++ lane_row l) → OnOk r (new ≡ old ++ row_at f lines i)
shown_is r old new f lines i l b at b_is shown h =
    let same : row_at f lines i ≡ lane_row l = ap (shown_row f) at ∙ ap (λ (c : Bool). cond {A = List ℕ} c (lane_row l) []) (sym b_is ∙ shown) in
    ok_then r h (λ e. e ∙ ap (λ t. old ++ t) (sym same))
