-- The lists that a report's lines show are well formed, and the lines are their histories.
use Rattle.std.proofs.Common.{◌≡◌, ℕ, zero, suc, ◌+◌, ◌<◌, ◌≤◌, ◌==◌, ◌&&◌, Bool, true, false, cond, nat_lt, List, [], ◌∷◌, ◌++◌, map, take, length, refl, ap, sym, subst, ◌∙◌, arith}
use Rattle.std.specs.Prelude.{Option, Some, None, slice_get}
use Rattle.std.specs.List.{AllByRecursion, cons_option, filter_map, range_with_len}
use Rattle.std.specs.Option.{option_map}
use Rattle.std.proofs.lemmas.Bool.Decides.{nat_tests}
use Rattle.co_object.specs.declared.Note.{Note}
use Rattle.co_object.specs.declared.Place.{Place}
use Rattle.co_object.specs.Lists.{same_place, notes_of, all_notes_of, count_at, IsRising, IsWellFormed}
use Rattle.co_object.proofs.Passing.{passing, count-passing, passing-append}
use Rattle.co_program.specs.declared.script.Script.{Script}
use Rattle.co_program.specs.Actors.{actor_count}
use Rattle.co_report.specs.declared.line.Line.{Line}
use Rattle.co_check.specs.Lines.{IsLineOf, AreLinesOf}
use Rattle.co_check.specs.Numbers.{lines_made_by}
use Rattle.co_check.specs.Runs.{lines_in}
use Rattle.co_check.specs.Shown.{actor_of, is_by, is_note, is_in_place_by}
use Rattle.co_check.proofs.Counting.{any-at, count-rises}
use Rattle.co_check.proofs.Pigeons.{passing-alike, IsNumbered}
use Rattle.co_check.proofs.Relisting.{Noted, noted_from, noted, note_numbered, list_by, lists_by, noted-back, passing-never, passing-filter, numbered-one, list-passing}
use Rattle.co_check.proofs.SameValues.{equal, itself, first, second, all}
use Rattle.co_check.proofs.Showing.{same-itself, same-equal}
use Rattle.co_check.proofs.Taking.{some-is}

-- ---- the lines of a place

abbrev in_place : Place → Line → Bool
in_place p l = same_place l.place p

-- the notes of a place at a position: one, if the place has so many lines
abbrev is_there : Place → ℕ → Noted → Bool
is_there p q x = same_place x.note.place p && x.note.pos == q

module _ (p : Place) (q : ℕ) where
  counted : (above : List Line) → lines_in p above ≡ passing (in_place p) above
  counted above = count-passing (λ (l : Line). same_place l.place p) above

  more : (above : List Line) (l : Line) → passing (in_place p) (above ++ l ∷ []) ≡ passing (in_place p) above + cond (same_place l.place p) 1 0
  more above l = passing-append (in_place p) above (l ∷ []) ∙ nothing (passing (in_place p) above) (cond (same_place l.place p) 1 0) where
    nothing : (m n : ℕ) → m + (n + 0) ≡ m + n
    nothing m n = omega arith

  -- the note of one line
  here : (above : List Line) (l : Line) → (same_place l.place p && lines_in l.place above == q) ≡ (same_place l.place p && passing (in_place p) above == q)
  here above l = at_test (same_place l.place p) refl where
    at_test : (b : Bool) → same_place l.place p ≡ b → (b && lines_in l.place above == q) ≡ (b && passing (in_place p) above == q)
    at_test false is = refl
    at_test true is = ap (λ n. n == q) (ap (λ r. lines_in r above) (same-equal l.place p is) ∙ counted above)

  low : (above lines : List Line) → q < passing (in_place p) above → passing (is_there p q) (noted_from above lines) ≡ 0
  low above [] h = refl
  low above (l ∷ ls) h = then (low (above ++ l ∷ []) ls (omega (arith, h, more above l))) (same_place l.place p) refl where
    apart : (m n : ℕ) → n < m → (m == n) ≡ false
    apart m n h = grind (arith, nat_tests)

    none : (b : Bool) → (b && passing (in_place p) above == q) ≡ false
    none true = apart (passing (in_place p) above) q h
    none false = refl

    then : passing (is_there p q) (noted_from (above ++ l ∷ []) ls) ≡ 0 → (b : Bool) → same_place l.place p ≡ b → cond (same_place l.place p && lines_in l.place above == q) 1 0 + passing (is_there p q) (noted_from (above ++ l ∷ []) ls) ≡ 0
    then rest b is = omega (arith, rest, ap (λ c. cond {A = ℕ} c 1 0) (here above l ∙ none (same_place l.place p)))

  high : (above lines : List Line) → passing (in_place p) above + passing (in_place p) lines ≤ q → passing (is_there p q) (noted_from above lines) ≡ 0
  high above [] h = refl
  high above (l ∷ ls) h = then (λ g. high (above ++ l ∷ []) ls g) (same_place l.place p) refl where
    apart : (m n : ℕ) → m < n → (m == n) ≡ false
    apart m n h = grind (arith, nat_tests)

    then : (passing (in_place p) (above ++ l ∷ []) + passing (in_place p) ls ≤ q → passing (is_there p q) (noted_from (above ++ l ∷ []) ls) ≡ 0) → (b : Bool) → same_place l.place p ≡ b → cond (same_place l.place p && lines_in l.place above == q) 1 0 + passing (is_there p q) (noted_from (above ++ l ∷ []) ls) ≡ 0
    then later true is =
        let up : cond {A = ℕ} (same_place l.place p) 1 0 ≡ 1 = ap (λ c. cond {A = ℕ} c 1 0) is in
        let rest = later (omega (arith, h, more above l, up)) in
        let none : (same_place l.place p && passing (in_place p) above == q) ≡ false = ap (λ b. b && passing (in_place p) above == q) is ∙ apart (passing (in_place p) above) q (omega (arith, h, up)) in
        omega (arith, rest, ap (λ c. cond {A = ℕ} c 1 0) (here above l ∙ none))
    then later false is =
        let up : cond {A = ℕ} (same_place l.place p) 1 0 ≡ 0 = ap (λ c. cond {A = ℕ} c 1 0) is in
        let rest = later (omega (arith, h, more above l, up)) in
        let none : (same_place l.place p && lines_in l.place above == q) ≡ false = ap (λ b. b && lines_in l.place above == q) is in
        omega (arith, rest, ap (λ c. cond {A = ℕ} c 1 0) none)

  once : (above lines : List Line) → passing (in_place p) above ≤ q → q < passing (in_place p) above + passing (in_place p) lines → passing (is_there p q) (noted_from above lines) ≡ 1
  once above [] le below = absurd (omega (arith, le, below))
  once above (l ∷ ls) le below = then (λ g k. once (above ++ l ∷ []) ls g k) (same_place l.place p) refl (passing (in_place p) above == q) refl where
    is-it : (m n : ℕ) → (m == n) ≡ true → m ≡ n
    is-it m n h = grind (arith, nat_tests)

    is-past : (m n : ℕ) → m ≤ n → (m == n) ≡ false → m < n
    is-past m n le h = grind (arith, nat_tests)

    then : (passing (in_place p) (above ++ l ∷ []) ≤ q → q < passing (in_place p) (above ++ l ∷ []) + passing (in_place p) ls → passing (is_there p q) (noted_from (above ++ l ∷ []) ls) ≡ 1) → (b : Bool) → same_place l.place p ≡ b → (c : Bool) → (passing (in_place p) above == q) ≡ c →
        cond (same_place l.place p && lines_in l.place above == q) 1 0 + passing (is_there p q) (noted_from (above ++ l ∷ []) ls) ≡ 1
    then later true is true this =
        let up : cond {A = ℕ} (same_place l.place p) 1 0 ≡ 1 = ap (λ c. cond {A = ℕ} c 1 0) is in
        let rest = low (above ++ l ∷ []) ls (omega (arith, more above l, up, is-it (passing (in_place p) above) q this)) in
        let one : (same_place l.place p && passing (in_place p) above == q) ≡ true = ap (λ b. b && passing (in_place p) above == q) is ∙ this in
        omega (arith, rest, ap (λ c. cond {A = ℕ} c 1 0) (here above l ∙ one))
    then later true is false other =
        let up : cond {A = ℕ} (same_place l.place p) 1 0 ≡ 1 = ap (λ c. cond {A = ℕ} c 1 0) is in
        let past = is-past (passing (in_place p) above) q le other in
        let rest = later (omega (arith, more above l, up, past)) (omega (arith, more above l, up, below)) in
        let none : (same_place l.place p && passing (in_place p) above == q) ≡ false = ap (λ b. b && passing (in_place p) above == q) is ∙ other in
        omega (arith, rest, ap (λ c. cond {A = ℕ} c 1 0) (here above l ∙ none))
    then later false is c other =
        let up : cond {A = ℕ} (same_place l.place p) 1 0 ≡ 0 = ap (λ c. cond {A = ℕ} c 1 0) is in
        let rest = later (omega (arith, more above l, up, le)) (omega (arith, more above l, up, below)) in
        let none : (same_place l.place p && lines_in l.place above == q) ≡ false = ap (λ b. b && lines_in l.place above == q) is in
        omega (arith, rest, ap (λ c. cond {A = ℕ} c 1 0) none)

-- ---- the notes of all lists

passing-all : {X : Type 0} (xs : List X) → passing (λ x. true) xs ≡ length xs
passing-all [] = refl
passing-all (x ∷ xs) = omega (arith, passing-all xs)

module _ (s : Script) (lines : List Line) (of_script : AreLinesOf s lines) (right : (j : ℕ) (l : Line) → slice_get lines j ≡ Some l → IsNumbered lines j l) where
  -- the notes of actors from one number on
  gathered : (p : Place) (t : Note → Bool) (n from : ℕ) →
      passing t (all_notes_of p (map (list_by lines) (range_with_len from n))) + passing (λ (x : Noted). nat_lt (actor_of x.line.entry) from && (same_place x.note.place p && t x.note)) (noted lines)
      ≡ passing (λ (x : Noted). nat_lt (actor_of x.line.entry) (from + n) && (same_place x.note.place p && t x.note)) (noted lines)
  gathered p t zero from = start (ap (λ m. passing (λ (x : Noted). nat_lt (actor_of x.line.entry) m && (same_place x.note.place p && t x.note)) (noted lines)) (none from)) where
    none : (m : ℕ) → m + zero ≡ m
    none m = omega arith

    start : passing (λ (x : Noted). nat_lt (actor_of x.line.entry) (from + zero) && (same_place x.note.place p && t x.note)) (noted lines) ≡ passing (λ (x : Noted). nat_lt (actor_of x.line.entry) from && (same_place x.note.place p && t x.note)) (noted lines)
        → 0 + passing (λ (x : Noted). nat_lt (actor_of x.line.entry) from && (same_place x.note.place p && t x.note)) (noted lines) ≡ passing (λ (x : Noted). nat_lt (actor_of x.line.entry) (from + zero) && (same_place x.note.place p && t x.note)) (noted lines)
    start e = omega (arith, e)
  gathered p t (suc n) from = then (gathered p t n (from + 1)) where
    u : Noted → Bool
    u = λ x. same_place x.note.place p && t x.note

    next : (m k : ℕ) → m + 1 + k ≡ m + suc k
    next m k = omega arith

    split : (xs : List Noted) → passing (λ x. nat_lt (actor_of x.line.entry) (from + 1) && (same_place x.note.place p && t x.note)) xs
        ≡ passing (λ x. nat_lt (actor_of x.line.entry) from && (same_place x.note.place p && t x.note)) xs + passing (λ x. is_by from x.line && (same_place x.note.place p && t x.note)) xs
    split [] = refl
    split (x ∷ xs) = omega (arith, one (actor_of x.line.entry) (same_place x.note.place p && t x.note), split xs) where
      one : (m : ℕ) (c : Bool) → cond (nat_lt m (from + 1) && c) 1 0 ≡ cond (nat_lt m from && c) 1 0 + cond (m == from && c) 1 0
      one m true = grind (arith, nat_tests)
      one m false = nothing (nat_lt m (from + 1)) (nat_lt m from) (m == from) where
        nothing : (b c d : Bool) → cond (b && false) 1 0 ≡ cond (c && false) 1 0 + cond (d && false) 1 0
        nothing true true true = refl
        nothing true true false = refl
        nothing true false true = refl
        nothing true false false = refl
        nothing false true true = refl
        nothing false true false = refl
        nothing false false true = refl
        nothing false false false = refl

    then : passing t (all_notes_of p (map (list_by lines) (range_with_len (from + 1) n))) + passing (λ (x : Noted). nat_lt (actor_of x.line.entry) (from + 1) && (same_place x.note.place p && t x.note)) (noted lines)
        ≡ passing (λ (x : Noted). nat_lt (actor_of x.line.entry) (from + 1 + n) && (same_place x.note.place p && t x.note)) (noted lines)
        → passing t (notes_of p (list_by lines from) ++ all_notes_of p (map (list_by lines) (range_with_len (from + 1) n))) + passing (λ (x : Noted). nat_lt (actor_of x.line.entry) from && (same_place x.note.place p && t x.note)) (noted lines)
        ≡ passing (λ (x : Noted). nat_lt (actor_of x.line.entry) (from + suc n) && (same_place x.note.place p && t x.note)) (noted lines)
    then later =
        let both = passing-append t (notes_of p (list_by lines from)) (all_notes_of p (map (list_by lines) (range_with_len (from + 1) n))) in
        let mine = passing-filter t (λ (x : Note). same_place x.place p) (list_by lines from) in
        let listed = list-passing lines right from (λ (x : Note). same_place x.place p && t x) in
        let end = ap (λ m. passing (λ (x : Noted). nat_lt (actor_of x.line.entry) m && (same_place x.note.place p && t x.note)) (noted lines)) (next from n) in
        omega (arith, both, mine, listed, split (noted lines), later, end)

  line-of : (xs : List Line) → AreLinesOf s xs → (j : ℕ) (l : Line) → slice_get xs j ≡ Some l → IsLineOf s l
  line-of [] h j l at = cc
  line-of (x ∷ xs) h zero l at = subst (IsLineOf s) (some-is x l at) h.0
  line-of (x ∷ xs) h (suc j) l at = line-of xs h.1 j l at

  pub of-script : (j : ℕ) (l : Line) → slice_get lines j ≡ Some l → IsLineOf s l
  of-script j l at = line-of lines of_script j l at

  -- a test counts the same notes among the lists and among the lines
  pub all-passing : (p : Place) (t : Note → Bool) → passing t (all_notes_of p (lists_by s lines)) ≡ passing (λ (x : Noted). same_place x.note.place p && t x.note) (noted lines)
  all-passing p t = then (gathered p t (actor_count s) 0) where
    start : (m : ℕ) → 0 + m ≡ m
    start m = omega arith

    lower : (m n : ℕ) → m < n → nat_lt m n ≡ true
    lower m n h = grind (arith, nat_tests)

    never : (m : ℕ) (c : Bool) → (nat_lt m 0 && c) ≡ false
    never m c = ap (λ b. b && c) (none m) where
      none : (m : ℕ) → nat_lt m 0 ≡ false
      none m = grind (arith, nat_tests)

    same : passing (λ (x : Noted). nat_lt (actor_of x.line.entry) (actor_count s) && (same_place x.note.place p && t x.note)) (noted lines) ≡ passing (λ (x : Noted). same_place x.note.place p && t x.note) (noted lines)
    same = passing-alike _ _ (noted lines) (λ i x at. ap (λ b. b && (same_place x.note.place p && t x.note)) (lower (actor_of x.line.entry) (actor_count s) (of-script i x.line (noted-back [] lines i x at).at).actor))

    none : passing (λ (x : Noted). nat_lt (actor_of x.line.entry) 0 && (same_place x.note.place p && t x.note)) (noted lines) ≡ 0
    none = passing-never _ (noted lines) (λ x. never (actor_of x.line.entry) (same_place x.note.place p && t x.note))

    then : passing t (all_notes_of p (lists_by s lines)) + passing (λ (x : Noted). nat_lt (actor_of x.line.entry) 0 && (same_place x.note.place p && t x.note)) (noted lines)
        ≡ passing (λ (x : Noted). nat_lt (actor_of x.line.entry) (0 + actor_count s) && (same_place x.note.place p && t x.note)) (noted lines)
        → passing t (all_notes_of p (lists_by s lines)) ≡ passing (λ (x : Noted). same_place x.note.place p && t x.note) (noted lines)
    then h = omega (arith, h, same, none, ap (λ m. passing (λ (x : Noted). nat_lt (actor_of x.line.entry) m && (same_place x.note.place p && t x.note)) (noted lines)) (start (actor_count s)))

  and-true : (b : Bool) → (b && true) ≡ b
  and-true true = refl
  and-true false = refl

  noted-places : (p : Place) (above ls : List Line) → passing (λ (x : Noted). same_place x.note.place p && true) (noted_from above ls) ≡ passing (in_place p) ls
  noted-places p above [] = refl
  noted-places p above (l ∷ ls) = ap (λ b. cond b 1 0 + passing (λ (x : Noted). same_place x.note.place p && true) (noted_from (above ++ l ∷ []) ls)) (and-true (same_place l.place p)) ∙ ap (λ n. cond (same_place l.place p) 1 0 + n) (noted-places p (above ++ l ∷ []) ls)

  -- a place has as many notes as lines
  pub as-many : (p : Place) → length (all_notes_of p (lists_by s lines)) ≡ passing (in_place p) lines
  as-many p = sym (passing-all (all_notes_of p (lists_by s lines))) ∙ (all-passing p (λ n. true) ∙ noted-places p [] lines)

  at-position : (p : Place) (q : ℕ) → count_at q (all_notes_of p (lists_by s lines)) ≡ passing (is_there p q) (noted lines)
  at-position p q = count-passing (λ (n : Note). n.pos == q) (all_notes_of p (lists_by s lines)) ∙ all-passing p (λ n. n.pos == q)

  -- ---- positions rise

  keeps : (xs : List Line) (i j : ℕ) (x : Line) → slice_get xs i ≡ Some x → i < j → slice_get (take j xs) i ≡ Some x
  keeps [] i j x at h = cc
  keeps (y ∷ ys) zero zero x at h = absurd (omega (arith, h))
  keeps (y ∷ ys) zero (suc j) x at h = at
  keeps (y ∷ ys) (suc i) zero x at h = absurd (omega (arith, h))
  keeps (y ∷ ys) (suc i) (suc j) x at h = keeps ys i j x at (omega (arith, h))

  abbrev Rise : Place → Note → Note → Type 0
  Rise p n m = same_place n.place p ≡ true → same_place m.place p ≡ true → n.pos < m.pos

  -- of two lines of an actor in a place the one with the higher number stands below
  below-it : (a k m j i : ℕ) (x y : Line) (p : Place) → k < m → slice_get lines j ≡ Some x → slice_get lines i ≡ Some y → is_note a k x ≡ true → is_note a m y ≡ true → x.place ≡ p → y.place ≡ p → j < i
  below-it a k m j i x y p less at_x at_y hx hy px py = go (nat_lt j i) refl where
    nx : x.number ≡ k
    nx = equal x.number k (second (actor_of x.entry == a) (x.number == k) hx)

    ny : y.number ≡ m
    ny = equal y.number m (second (actor_of y.entry == a) (y.number == m) hy)

    by : actor_of y.entry ≡ actor_of x.entry
    by = equal (actor_of y.entry) a (first (actor_of y.entry == a) (y.number == m) hy) ∙ sym (equal (actor_of x.entry) a (first (actor_of x.entry == a) (x.number == k) hx))

    lower : (m n : ℕ) → m < n → nat_lt m n ≡ true
    lower m n h = grind (arith, nat_tests)

    there : (is_in_place_by (actor_of x.entry) x.place y && nat_lt x.number y.number) ≡ true
    there = all (is_in_place_by (actor_of x.entry) x.place y) (nat_lt x.number y.number)
        (all (actor_of y.entry == actor_of x.entry) (same_place y.place x.place) (ap (λ n. n == actor_of x.entry) by ∙ itself (actor_of x.entry)) (ap (λ q. same_place q x.place) (py ∙ sym px) ∙ same-itself x.place))
        (lower x.number y.number (omega (arith, nx, ny, less)))

    lt : nat_lt j i ≡ true → j < i
    lt h = grind (arith, nat_tests)

    ge : nat_lt j i ≡ false → i ≤ j
    ge h = grind (arith, nat_tests)

    apart : i ≡ j → ⊥
    apart e =
        let is : x ≡ y = some-is x y (sym at_x ∙ (ap (slice_get lines) (sym e) ∙ at_y)) in
        absurd (omega (arith, nx, ny, less, ap (λ (l : Line). l.number) is))

    go : (b : Bool) → nat_lt j i ≡ b → j < i
    go true h = lt h
    go false h = past (nat_lt i j) refl where
      above : i < j → ⊥
      above h =
          let found = any-at (λ z. is_in_place_by (actor_of x.entry) x.place z && nat_lt x.number z.number) (take j lines) i y (keeps lines i j y at_y h) there in
          let none = (right j x at_x).rises in
          cc

      lt' : nat_lt i j ≡ true → i < j
      lt' h = grind (arith, nat_tests)

      past : (b : Bool) → nat_lt i j ≡ b → j < i
      past true h2 = absurd (above (lt' h2))
      past false h2 = absurd (apart (eq-of h2 (ge h))) where
        eq-of : nat_lt i j ≡ false → i ≤ j → i ≡ j
        eq-of h le = grind (arith, nat_tests)

  risen : (a k m : ℕ) (n n2 : Note) (p : Place) → k < m → m < lines_made_by a lines → note_numbered lines a k ≡ Some n → note_numbered lines a m ≡ Some n2 → Rise p n n2
  risen a k m n n2 p less below is is2 pn pn2 =
      let r = numbered-one lines right a k (omega (arith, less, below)) in
      let r2 = numbered-one lines right a m below in
      let b = noted-back [] lines r.index r.one r.at in
      let b2 = noted-back [] lines r2.index r2.one r2.at in
      let e : r.one.note ≡ n = some-is r.one.note n (sym (ap (option_map (λ (x : Noted). x.note)) r.found) ∙ is) in
      let e2 : r2.one.note ≡ n2 = some-is r2.one.note n2 (sym (ap (option_map (λ (x : Noted). x.note)) r2.found) ∙ is2) in
      let place : r.one.line.place ≡ p = sym (ap (λ (x : Noted). x.note.place) b.is) ∙ (ap (λ (x : Note). x.place) e ∙ same-equal n.place p pn) in
      let place2 : r2.one.line.place ≡ p = sym (ap (λ (x : Noted). x.note.place) b2.is) ∙ (ap (λ (x : Note). x.place) e2 ∙ same-equal n2.place p pn2) in
      let pos : n.pos ≡ lines_in p (take r.index lines) = ap (λ (x : Note). x.pos) (sym e) ∙ (ap (λ (x : Noted). x.note.pos) b.is ∙ ap (λ q. lines_in q (take r.index lines)) place) in
      let pos2 : n2.pos ≡ lines_in p (take r2.index lines) = ap (λ (x : Note). x.pos) (sym e2) ∙ (ap (λ (x : Noted). x.note.pos) b2.is ∙ ap (λ q. lines_in q (take r2.index lines)) place2) in
      let order = below-it a k m r.index r2.index r.one.line r2.one.line p less b.at b2.at r.passes r2.passes place place2 in
      let up = count-rises (λ (l : Line). same_place l.place p) lines r.index r2.index r.one.line b.at (ap (λ q. same_place q p) place ∙ same-itself p) order in
      omega (arith, pos, pos2, up)

  rising-more : (x : ℕ) (ys : List ℕ) → AllByRecursion (λ y. x < y) ys → IsRising ys → IsRising (x ∷ ys)
  rising-more x [] h r = tt
  rising-more x (y ∷ ys) h r = (h.0, r)

  module _ (a : ℕ) (p : Place) where
    -- what comes later in the list is above
    later-above : (k : ℕ) (n : Note) → note_numbered lines a k ≡ Some n → same_place n.place p ≡ true → (count from : ℕ) → from + count ≡ lines_made_by a lines → k < from →
        AllByRecursion (λ y. n.pos < y) (map (λ x. x.pos) (notes_of p (filter_map (note_numbered lines a) (range_with_len from count))))
    later-above k n is here zero from sum less = tt
    later-above k n is here (suc count) from sum less = at_note (note_numbered lines a from) refl (later-above k n is here count (from + 1) (omega (arith, sum)) (omega (arith, less))) where
      at_place : (x : Note) → note_numbered lines a from ≡ Some x → (b : Bool) → same_place x.place p ≡ b → (rest : List Note) → AllByRecursion (λ y. n.pos < y) (map (λ x. x.pos) (notes_of p rest)) →
          AllByRecursion (λ y. n.pos < y) (map (λ x. x.pos) (cond {A = List Note} b (x ∷ notes_of p rest) (notes_of p rest)))
      at_place x is2 true there rest h = (risen a k from n x p less (omega (arith, sum)) is is2 here there, h)
      at_place x is2 false there rest h = h

      at_note : (o : Option Note) → note_numbered lines a from ≡ o → AllByRecursion (λ y. n.pos < y) (map (λ x. x.pos) (notes_of p (filter_map (note_numbered lines a) (range_with_len (from + 1) count)))) →
          AllByRecursion (λ y. n.pos < y) (map (λ x. x.pos) (notes_of p (cons_option o (filter_map (note_numbered lines a) (range_with_len (from + 1) count)))))
      at_note None is2 h = h
      at_note (Some x) is2 h = at_place x is2 (same_place x.place p) refl (filter_map (note_numbered lines a) (range_with_len (from + 1) count)) h

    rises-from : (count from : ℕ) → from + count ≡ lines_made_by a lines → IsRising (map (λ x. x.pos) (notes_of p (filter_map (note_numbered lines a) (range_with_len from count))))
    rises-from zero from sum = tt
    rises-from (suc count) from sum = at_note (note_numbered lines a from) refl (rises-from count (from + 1) (omega (arith, sum))) where
      at_place : (x : Note) → note_numbered lines a from ≡ Some x → (b : Bool) → same_place x.place p ≡ b → IsRising (map (λ x. x.pos) (notes_of p (filter_map (note_numbered lines a) (range_with_len (from + 1) count)))) →
          IsRising (map (λ x. x.pos) (cond {A = List Note} b (x ∷ notes_of p (filter_map (note_numbered lines a) (range_with_len (from + 1) count))) (notes_of p (filter_map (note_numbered lines a) (range_with_len (from + 1) count)))))
      at_place x is true there h = rising-more x.pos (map (λ x. x.pos) (notes_of p (filter_map (note_numbered lines a) (range_with_len (from + 1) count)))) (later-above from x is there count (from + 1) (omega (arith, sum)) (omega arith)) h
      at_place x is false there h = h

      at_note : (o : Option Note) → note_numbered lines a from ≡ o → IsRising (map (λ x. x.pos) (notes_of p (filter_map (note_numbered lines a) (range_with_len (from + 1) count)))) →
          IsRising (map (λ x. x.pos) (notes_of p (cons_option o (filter_map (note_numbered lines a) (range_with_len (from + 1) count)))))
      at_note None is h = h
      at_note (Some x) is h = at_place x is (same_place x.place p) refl h

  each-rises : (p : Place) (n from : ℕ) → AllByRecursion (λ notes. IsRising (map (λ x. x.pos) (notes_of p notes))) (map (list_by lines) (range_with_len from n))
  each-rises p zero from = tt
  each-rises p (suc n) from = (rises-from from p (lines_made_by from lines) 0 (start (lines_made_by from lines)), each-rises p n (from + 1)) where
    start : (m : ℕ) → 0 + m ≡ m
    start m = omega arith

  pub well-formed : IsWellFormed (lists_by s lines)
  well-formed = record {
    once = λ p q below. at-position p q ∙ once p q [] lines (omega arith) (omega (arith, below, as-many p));
    others = λ p q past. at-position p q ∙ high p q [] lines (omega (arith, past, as-many p));
    rising = λ p. each-rises p (actor_count s) 0;
  }
