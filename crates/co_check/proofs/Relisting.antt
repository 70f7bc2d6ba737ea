-- The lists of notes that a report's lines show, by their numbers.
use Rattle.std.proofs.Common.{◌≡◌, ℕ, zero, suc, ◌+◌, ◌<◌, ◌≤◌, ◌&&◌, Bool, true, false, cond, nat_lt, List, [], ◌∷◌, ◌++◌, map, take, append_assoc, refl, ap, sym, ◌∙◌, arith}
use Rattle.std.specs.Prelude.{Option, Some, slice_get}
use Rattle.std.specs.List.{cons_option, filter, filter_map, find, range_with_len}
use Rattle.std.specs.Option.{option_map}
use Rattle.std.proofs.lemmas.Bool.Decides.{nat_tests}
use Rattle.std.proofs.lemmas.Option.{slice_get-map, slice_get_within}
use Rattle.co_object.specs.declared.Note.{Note}
use Rattle.co_object.proofs.Passing.{passing}
use Rattle.co_program.specs.declared.script.Script.{Script}
use Rattle.co_program.specs.Actors.{actor_count}
use Rattle.co_report.specs.declared.line.Line.{Line}
use Rattle.co_check.specs.Numbers.{lines_made_by}
use Rattle.co_check.specs.Runs.{lines_in}
use Rattle.co_check.specs.Shown.{is_by, is_note}
use Rattle.co_check.proofs.Counting.{is_below, one-split}
use Rattle.co_check.proofs.Pigeons.{append-nil, passing-alike, IsNumbered, all-below, one-note}
use Rattle.co_check.proofs.Reported.{get-range, length-range}
use Rattle.co_check.proofs.Taking.{some-is}

-- a line with the note that it shows: its position is the number of the lines of its place above
pub record Noted : Type 0 where
  pub line : Line
  pub note : Note

abbrev pub noted_at : List Line → Line → Noted
noted_at above l = record { line = l; note = record { place = l.place; pos = lines_in l.place above; entry = l.entry } }

abbrev pub noted_from : List Line → List Line → List Noted
noted_from above [] = []
noted_from above (l ∷ ls) = noted_at above l ∷ noted_from (above ++ l ∷ []) ls

abbrev pub noted : List Line → List Noted
noted lines = noted_from [] lines

-- an actor's note of a number, and its list
abbrev pub note_numbered : List Line → ℕ → ℕ → Option Note
note_numbered lines a k = option_map (λ x. x.note) (find (λ x. is_note a k x.line) (noted lines))

abbrev pub list_by : List Line → ℕ → List Note
list_by lines a = filter_map (note_numbered lines a) (range_with_len 0 (lines_made_by a lines))

abbrev pub lists_by : Script → List Line → List (List Note)
lists_by s lines = map (list_by lines) (range_with_len 0 (actor_count s))

-- ---- notes and lines by index

pub noted-get : (above lines : List Line) (j : ℕ) (l : Line) → slice_get lines j ≡ Some l → slice_get (noted_from above lines) j ≡ Some (noted_at (above ++ take j lines) l)
noted-get above [] j l h = cc
noted-get above (x ∷ xs) zero l h = ap (λ y. Some (noted_at above y)) (some-is x l h) ∙ ap (λ (ls : List Line). Some (noted_at ls l)) (sym (append-nil above))
noted-get above (x ∷ xs) (suc j) l h = noted-get (above ++ x ∷ []) xs j l h ∙ ap (λ (ls : List Line). Some (noted_at ls l)) (append_assoc above (x ∷ []) (take j xs))

-- what is noted is a line's note
pub record IsNotedAt (above lines : List Line) (j : ℕ) (x : Noted) : Type 0 where
  pub at : slice_get lines j ≡ Some x.line
  pub is : x ≡ noted_at (above ++ take j lines) x.line

pub noted-back : (above lines : List Line) (j : ℕ) (x : Noted) → slice_get (noted_from above lines) j ≡ Some x → IsNotedAt above lines j x
noted-back above [] j x h = cc
noted-back above (l ∷ ls) zero x h =
    let e : noted_at above l ≡ x = some-is (noted_at above l) x h in
    record {
      at = ap (λ (y : Noted). Some y.line) e;
      is = sym e ∙ (ap (λ (y : Line). noted_at above y) (ap (λ (y : Noted). y.line) e) ∙ ap (λ (ys : List Line). noted_at ys x.line) (sym (append-nil above)));
    }
noted-back above (l ∷ ls) (suc j) x h =
    let r = noted-back (above ++ l ∷ []) ls j x h in
    record { at = r.at; is = r.is ∙ ap (λ (ys : List Line). noted_at ys x.line) (append_assoc above (l ∷ []) (take j ls)) }

pub passing-noted : (p : Line → Bool) (above lines : List Line) → passing (λ (x : Noted). p x.line) (noted_from above lines) ≡ passing p lines
passing-noted p above [] = refl
passing-noted p above (l ∷ ls) = ap (λ n. cond (p l) 1 0 + n) (passing-noted p (above ++ l ∷ []) ls)

-- ---- the one that passes

pub record TheOne {X : Type 0} (p : X → Bool) (xs : List X) : Type 0 where
  pub one : X
  pub index : ℕ
  pub found : find p xs ≡ Some one
  pub at : slice_get xs index ≡ Some one
  pub passes : p one ≡ true
  -- of those that pass another test too there is this one, or none
  pub both : (q : X → Bool) → passing (λ x. p x && q x) xs ≡ cond (q one) 1 0

none-both : {X : Type 0} (p q : X → Bool) (xs : List X) → passing p xs ≡ 0 → passing (λ x. p x && q x) xs ≡ 0
none-both p q [] h = refl
none-both p q (x ∷ xs) h = at_test (p x) h (λ rest. none-both p q xs rest) where
  at_test : (b : Bool) → cond b 1 0 + passing p xs ≡ 0 → (passing p xs ≡ 0 → passing (λ x. p x && q x) xs ≡ 0) → cond (b && q x) 1 0 + passing (λ x. p x && q x) xs ≡ 0
  at_test true h later = absurd (omega (arith, h))
  at_test false h later = omega (arith, later (omega (arith, h)))

pub the-one : {X : Type 0} (p : X → Bool) (xs : List X) → passing p xs ≡ 1 → TheOne p xs
the-one p [] h = absurd (omega (arith, h))
the-one p (x ∷ xs) h = at_test (p x) refl h (λ rest. the-one p xs rest) where
  at_test : (b : Bool) → p x ≡ b → cond b 1 0 + passing p xs ≡ 1 → (passing p xs ≡ 1 → TheOne p xs) → TheOne p (x ∷ xs)
  at_test true is h later = record {
    one = x;
    index = 0;
    found = ap (λ b. cond {A = Option _} b (Some x) (find p xs)) is;
    at = refl;
    passes = is;
    both = λ q. ap (λ b. cond (b && q x) 1 0 + passing (λ y. p y && q y) xs) is ∙ omega (arith, none-both p q xs (omega (arith, h)));
  }
  at_test false is h later =
      let r = later (omega (arith, h)) in
      record {
        one = r.one;
        index = suc r.index;
        found = ap (λ b. cond {A = Option _} b (Some x) (find p xs)) is ∙ r.found;
        at = r.at;
        passes = r.passes;
        both = λ q. ap (λ b. cond (b && q x) 1 0 + passing (λ y. p y && q y) xs) is ∙ omega (arith, r.both q);
      }

-- ---- tests over the notes of all lists

both-split : (a n : ℕ) (t : Noted → Bool) (xs : List Noted) →
    passing (λ x. is_below a (suc n) x.line && t x) xs ≡ passing (λ x. is_below a n x.line && t x) xs + passing (λ x. is_note a n x.line && t x) xs
both-split a n t [] = refl
both-split a n t (x ∷ xs) = omega (arith, one (t x), both-split a n t xs) where
  one : (c : Bool) → cond (is_below a (suc n) x.line && c) 1 0 ≡ cond (is_below a n x.line && c) 1 0 + cond (is_note a n x.line && c) 1 0
  one true = plain (is_below a (suc n) x.line) (is_below a n x.line) (is_note a n x.line) (one-split (is_by a x.line) x.line.number n) where
    plain : (b c d : Bool) → cond b 1 0 ≡ cond c 1 0 + cond d 1 0 → cond (b && true) 1 0 ≡ cond (c && true) 1 0 + cond (d && true) 1 0
    plain true true true h = absurd (omega (arith, h))
    plain true true false h = refl
    plain true false true h = refl
    plain true false false h = absurd (omega (arith, h))
    plain false true d h = absurd (omega (arith, h))
    plain false false true h = absurd (omega (arith, h))
    plain false false false h = refl
  one false = nothing (is_below a (suc n) x.line) (is_below a n x.line) (is_note a n x.line) where
    nothing : (b c d : Bool) → cond (b && false) 1 0 ≡ cond (c && false) 1 0 + cond (d && false) 1 0
    nothing true true true = refl
    nothing true true false = refl
    nothing true false true = refl
    nothing true false false = refl
    nothing false true true = refl
    nothing false true false = refl
    nothing false false true = refl
    nothing false false false = refl

pub passing-never : {X : Type 0} (p : X → Bool) (xs : List X) → ((x : X) → p x ≡ false) → passing p xs ≡ 0
passing-never p [] h = refl
passing-never p (x ∷ xs) h = omega (arith, ap (λ b. cond {A = ℕ} b 1 0) (h x), passing-never p xs h)

pub passing-filter : {X : Type 0} (p q : X → Bool) (xs : List X) → passing p (filter q xs) ≡ passing (λ x. q x && p x) xs
passing-filter p q [] = refl
passing-filter p q (x ∷ xs) = at_test (q x) (passing-filter p q xs) where
  at_test : (b : Bool) → passing p (filter q xs) ≡ passing (λ x. q x && p x) xs → passing p (cond b (x ∷ filter q xs) (filter q xs)) ≡ cond (b && p x) 1 0 + passing (λ x. q x && p x) xs
  at_test true rest = ap (λ n. cond (p x) 1 0 + n) rest
  at_test false rest = rest ∙ none (passing (λ x. q x && p x) xs) where
    none : (n : ℕ) → n ≡ 0 + n
    none n = omega arith

not-below-zero : (a n : ℕ) (b c : Bool) → ((b && nat_lt n 0) && c) ≡ false
not-below-zero a n true c = ap (λ d. d && c) (none n) where
  none : (m : ℕ) → nat_lt m 0 ≡ false
  none m = grind (arith, nat_tests)
not-below-zero a n false c = refl

module _ (lines : List Line) (right : (j : ℕ) (l : Line) → slice_get lines j ≡ Some l → IsNumbered lines j l) where
  -- the line of a number
  pub numbered-one : (a k : ℕ) → k < lines_made_by a lines → TheOne (λ (x : Noted). is_note a k x.line) (noted lines)
  numbered-one a k below = the-one (λ (x : Noted). is_note a k x.line) (noted lines) (passing-noted (is_note a k) [] lines ∙ one-note lines right a k below)

  collected : (a : ℕ) (t : Note → Bool) (n from : ℕ) → from + n ≤ lines_made_by a lines →
      passing t (filter_map (note_numbered lines a) (range_with_len from n)) + passing (λ (x : Noted). is_below a from x.line && t x.note) (noted lines)
      ≡ passing (λ (x : Noted). is_below a (from + n) x.line && t x.note) (noted lines)
  collected a t zero from below = start (ap (λ m. passing (λ (x : Noted). is_below a m x.line && t x.note) (noted lines)) (none from)) where
    none : (m : ℕ) → m + zero ≡ m
    none m = omega arith

    start : passing (λ (x : Noted). is_below a (from + zero) x.line && t x.note) (noted lines) ≡ passing (λ (x : Noted). is_below a from x.line && t x.note) (noted lines)
        → 0 + passing (λ (x : Noted). is_below a from x.line && t x.note) (noted lines) ≡ passing (λ (x : Noted). is_below a (from + zero) x.line && t x.note) (noted lines)
    start e = omega (arith, e)
  collected a t (suc n) from below = then (numbered-one a from (omega (arith, below))) (collected a t n (from + 1) (omega (arith, below))) where
    rest : List Note
    rest = filter_map (note_numbered lines a) (range_with_len (from + 1) n)

    next : (m k : ℕ) → m + 1 + k ≡ m + suc k
    next m k = omega arith

    one-more : (m : ℕ) → m + 1 ≡ suc m
    one-more m = omega arith

    then : TheOne (λ (x : Noted). is_note a from x.line) (noted lines)
        → passing t (filter_map (note_numbered lines a) (range_with_len (from + 1) n)) + passing (λ (x : Noted). is_below a (from + 1) x.line && t x.note) (noted lines)
        ≡ passing (λ (x : Noted). is_below a (from + 1 + n) x.line && t x.note) (noted lines)
        → passing t (cons_option (note_numbered lines a from) (filter_map (note_numbered lines a) (range_with_len (from + 1) n))) + passing (λ (x : Noted). is_below a from x.line && t x.note) (noted lines)
        ≡ passing (λ (x : Noted). is_below a (from + suc n) x.line && t x.note) (noted lines)
    then r later =
        let here = ap (λ (o : Option Note). passing t (cons_option o (filter_map (note_numbered lines a) (range_with_len (from + 1) n)))) (ap (option_map (λ (x : Noted). x.note)) r.found) in
        let split = both-split a from (λ (x : Noted). t x.note) (noted lines) in
        let up = ap (λ m. passing (λ (x : Noted). is_below a m x.line && t x.note) (noted lines)) (one-more from) in
        let end = ap (λ m. passing (λ (x : Noted). is_below a m x.line && t x.note) (noted lines)) (next from n) in
        omega (arith, here, split, up, end, later, r.both (λ (x : Noted). t x.note))

  -- the notes of an actor's list are those of its lines
  pub list-passing : (a : ℕ) (t : Note → Bool) → passing t (list_by lines a) ≡ passing (λ (x : Noted). is_by a x.line && t x.note) (noted lines)
  list-passing a t = then (collected a t (lines_made_by a lines) 0 (omega arith)) where
    start : (m : ℕ) → 0 + m ≡ m
    start m = omega arith

    same : passing (λ (x : Noted). is_below a (lines_made_by a lines) x.line && t x.note) (noted lines) ≡ passing (λ (x : Noted). is_by a x.line && t x.note) (noted lines)
    same = passing-alike _ _ (noted lines) (λ i x at. ap (λ b. b && t x.note) (all-below lines right a x.line i (noted-back [] lines i x at).at))

    none : passing (λ (x : Noted). is_below a 0 x.line && t x.note) (noted lines) ≡ 0
    none = passing-never _ (noted lines) (λ x. not-below-zero a x.line.number (is_by a x.line) (t x.note))

    then : passing t (list_by lines a) + passing (λ (x : Noted). is_below a 0 x.line && t x.note) (noted lines) ≡ passing (λ (x : Noted). is_below a (0 + lines_made_by a lines) x.line && t x.note) (noted lines)
        → passing t (list_by lines a) ≡ passing (λ (x : Noted). is_by a x.line && t x.note) (noted lines)
    then h = omega (arith, h, same, none, ap (λ m. passing (λ (x : Noted). is_below a m x.line && t x.note) (noted lines)) (start (lines_made_by a lines)))

  -- ---- notes by actor and number

  each-number : (a k : ℕ) → k < lines_made_by a lines → (n : Note) × (note_numbered lines a k ≡ Some n)
  each-number a k below = let r = numbered-one a k below in (r.one.note, ap (option_map (λ (x : Noted). x.note)) r.found)

  pub list-get : (a k : ℕ) → k < lines_made_by a lines → slice_get (list_by lines a) k ≡ note_numbered lines a k
  list-get a k below =
      get-range (note_numbered lines a) 0 (lines_made_by a lines) k (λ m h le. each-number a m (omega (arith, h))) below ∙ ap (note_numbered lines a) (start k) where
        start : (m : ℕ) → 0 + m ≡ m
        start m = omega arith

  pub list-few : (a k : ℕ) (n : Note) → slice_get (list_by lines a) k ≡ Some n → k < lines_made_by a lines
  list-few a k n at = omega (arith, slice_get_within (list_by lines a) k n at, length-range (note_numbered lines a) 0 (lines_made_by a lines))

pub range-get : (from n i : ℕ) → i < n → slice_get (range_with_len from n) i ≡ Some (from + i)
range-get from zero i h = absurd (omega (arith, h))
range-get from (suc n) zero h = ap Some (start from) where
  start : (m : ℕ) → m ≡ m + 0
  start m = omega arith
range-get from (suc n) (suc i) h = range-get (from + 1) n i (omega (arith, h)) ∙ ap Some (next from i) where
  next : (m k : ℕ) → m + 1 + k ≡ m + suc k
  next m k = omega arith

pub lists-get : (s : Script) (lines : List Line) (a : ℕ) → a < actor_count s → slice_get (lists_by s lines) a ≡ Some (list_by lines a)
lists-get s lines a below =
    slice_get-map (list_by lines) (range_with_len 0 (actor_count s)) a ∙ (ap (option_map (list_by lines)) (range-get 0 (actor_count s) a below) ∙ ap (λ m. Some (list_by lines m)) (start a)) where
      start : (m : ℕ) → 0 + m ≡ m
      start m = omega arith
