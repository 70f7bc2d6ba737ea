-- The lines that show the notes of a run: their numbers are right, and each actor's are seen as its notes.
use Rattle.std.proofs.Common.{◌≡◌, ℕ, zero, suc, ◌+◌, ◌<◌, ◌≤◌, ◌==◌, ◌&&◌, Bool, true, false, cond, nat_lt, List, [], ◌∷◌, map, take, refl, ap, sym, subst, ◌∙◌, arith}
use Rattle.std.specs.Prelude.{Option, Some, None, slice_get, option_and_then}
use Rattle.std.specs.List.{AllByRecursion, list_any}
use Rattle.std.proofs.lemmas.Bool.Decides.{nat_tests}
use Rattle.co_object.specs.declared.Note.{Note}
use Rattle.co_object.specs.declared.Place.{Place}
use Rattle.co_object.specs.declared.Place.TheVariants as place
use Rattle.co_object.specs.Lists.{same_place, notes_of, IsRising, IsWellFormed}
use Rattle.co_report.specs.declared.line.Line.{Line}
use Rattle.co_print.specs.Origins.{note_at}
use Rattle.co_check.specs.Numbers.{lines_made_by, is_beyond, is_taken, falls, number_at}
use Rattle.co_check.specs.Runs.{Show, IsLineOfNote, lines_in}
use Rattle.co_check.specs.Shown.{actor_of, is_note, is_in_place_by}
use Rattle.co_check.proofs.Counting.{any-at, none-any, take-get, count-rises, count-enough}
use Rattle.co_check.proofs.Numbered.{all-fine, le-false}
use Rattle.co_check.proofs.Taking.{some-is}
use Rattle.co_check.proofs.SameValues.{equal, itself, first, second, all}

-- ---- notes by number

-- an earlier note of the list
earlier : (notes : List Note) (k m : ℕ) (n : Note) → slice_get notes m ≡ Some n → k ≤ m → (x : Note) × (slice_get notes k ≡ Some x)
earlier [] k m n h le = cc
earlier (x ∷ xs) zero m n h le = (x, refl)
earlier (x ∷ xs) (suc k) zero n h le = absurd (omega arith)
earlier (x ∷ xs) (suc k) (suc m) n h le = earlier xs k m n h (omega arith)

earlier-in : (o : Option (List Note)) (k m : ℕ) (n : Note) → option_and_then (λ notes. slice_get notes m) o ≡ Some n → k ≤ m → (x : Note) × (option_and_then (λ notes. slice_get notes k) o ≡ Some x)
earlier-in None k m n h le = cc
earlier-in (Some notes) k m n h le = earlier notes k m n h le

-- positions rise in an actor's list
rising-tail : (x : ℕ) (ys : List ℕ) → IsRising (x ∷ ys) → IsRising ys
rising-tail x [] h = tt
rising-tail x (y ∷ ys) h = h.1

rising-head : (x : ℕ) (ys : List ℕ) (m y : ℕ) → IsRising (x ∷ ys) → slice_get ys m ≡ Some y → x < y
rising-head x [] m y h at = cc
rising-head x (z ∷ zs) zero y h at = omega (arith, h.0, some-is z y at)
rising-head x (z ∷ zs) (suc m) y h at = omega (arith, h.0, rising-head z zs m y h.1 at)

-- a note of the place stands among those of the place
among : (p : Place) (notes : List Note) (k : ℕ) (n : Note) → slice_get notes k ≡ Some n → same_place n.place p ≡ true → (m : ℕ) × (slice_get (map (λ x. x.pos) (notes_of p notes)) m ≡ Some n.pos)
among p [] k n h same = cc
among p (x ∷ xs) zero n h same = (zero, head) where
  is : x ≡ n
  is = some-is x n h

  head : slice_get (map (λ y. y.pos) (cond {A = List Note} (same_place x.place p) (x ∷ notes_of p xs) (notes_of p xs))) zero ≡ Some n.pos
  head = ap (λ b. slice_get (map (λ (y : Note). y.pos) (cond {A = List Note} b (x ∷ notes_of p xs) (notes_of p xs))) zero) (ap (λ (y : Note). same_place y.place p) is ∙ same) ∙ ap (λ (y : Note). Some y.pos) is
among p (x ∷ xs) (suc k) n h same = at_test (same_place x.place p) (among p xs k n h same) where
  at_test : (b : Bool) → (m : ℕ) × (slice_get (map (λ y. y.pos) (notes_of p xs)) m ≡ Some n.pos) → (m : ℕ) × (slice_get (map (λ y. y.pos) (cond {A = List Note} b (x ∷ notes_of p xs) (notes_of p xs))) m ≡ Some n.pos)
  at_test true (m, at) = (suc m, at)
  at_test false (m, at) = (m, at)

in-order : (p : Place) (notes : List Note) (k m : ℕ) (x y : Note) → IsRising (map (λ n. n.pos) (notes_of p notes)) → slice_get notes k ≡ Some x → slice_get notes m ≡ Some y → k < m → same_place x.place p ≡ true → same_place y.place p ≡ true → x.pos < y.pos
in-order p [] k m x y rise at_k at_m below px py = cc
in-order p (n ∷ ns) zero zero x y rise at_k at_m below px py = absurd (omega arith)
in-order p (n ∷ ns) (suc k) zero x y rise at_k at_m below px py = absurd (omega arith)
in-order p (n ∷ ns) zero (suc m) x y rise at_k at_m below px py =
    let is : n ≡ x = some-is n x at_k in
    let here : same_place n.place p ≡ true = ap (λ (z : Note). same_place z.place p) is ∙ px in
    let rise' : IsRising (map (λ z. z.pos) (n ∷ notes_of p ns)) = subst (λ b. IsRising (map (λ z. z.pos) (cond {A = List Note} b (n ∷ notes_of p ns) (notes_of p ns)))) here rise in
    let r = among p ns m y at_m py in
    omega (arith, rising-head n.pos (map (λ z. z.pos) (notes_of p ns)) r.0 y.pos rise' r.1, ap (λ (z : Note). z.pos) is)
in-order p (n ∷ ns) (suc k) (suc m) x y rise at_k at_m below px py = in-order p ns k m x y (rest (same_place n.place p) rise) at_k at_m (omega arith) px py where
  rest : (b : Bool) → IsRising (map (λ z. z.pos) (cond {A = List Note} b (n ∷ notes_of p ns) (notes_of p ns))) → IsRising (map (λ z. z.pos) (notes_of p ns))
  rest true h = rising-tail n.pos (map (λ z. z.pos) (notes_of p ns)) h
  rest false h = h

all-read : (P : List Note → Type 0) (lists : List (List Note)) (a : ℕ) (notes : List Note) → AllByRecursion P lists → slice_get lists a ≡ Some notes → P notes
all-read P [] a notes h at = cc
all-read P (x ∷ xs) zero notes h at = subst P (some-is x notes at) h.0
all-read P (x ∷ xs) (suc a) notes h at = all-read P xs a notes h.1 at

in-list-order : (lists : List (List Note)) (a k m : ℕ) (x y : Note) → IsWellFormed lists → note_at lists a k ≡ Some x → note_at lists a m ≡ Some y → k < m → same_place x.place y.place ≡ true → same_place y.place y.place ≡ true → x.pos < y.pos
in-list-order lists a k m x y formed at_k at_m below px py = at_list (slice_get lists a) refl at_k at_m where
  at_list : (o : Option (List Note)) → slice_get lists a ≡ o → option_and_then (λ notes. slice_get notes k) o ≡ Some x → option_and_then (λ notes. slice_get notes m) o ≡ Some y → x.pos < y.pos
  at_list None is hk hm = cc
  at_list (Some notes) is hk hm = in-order y.place notes k m x y (all-read (λ ns. IsRising (map (λ n. n.pos) (notes_of y.place ns))) lists a notes (formed.rising y.place) is) hk hm below px py

pub same-itself : (p : Place) → same_place p p ≡ true
same-itself (place.Timer i) = itself i
same-itself (place.Cpu i) = itself i
same-itself (place.Actor i) = itself i

pub same-equal : (p q : Place) → same_place p q ≡ true → p ≡ q
same-equal (place.Timer i) (place.Timer j) h = ap place.Timer (equal i j h)
same-equal (place.Cpu i) (place.Cpu j) h = ap place.Cpu (equal i j h)
same-equal (place.Actor i) (place.Actor j) h = ap place.Actor (equal i j h)
same-equal (place.Timer i) (place.Cpu j) h = cc
same-equal (place.Timer i) (place.Actor j) h = cc
same-equal (place.Cpu i) (place.Timer j) h = cc
same-equal (place.Cpu i) (place.Actor j) h = cc
same-equal (place.Actor i) (place.Timer j) h = cc
same-equal (place.Actor i) (place.Cpu j) h = cc

-- ---- numbers

module _ (lists : List (List Note)) (lines : List Line) (formed : IsWellFormed lists) (show : Show lists lines) where
  pub is-note : (j a k : ℕ) (l : Line) (n : Note) → IsLineOfNote lines j a k l n → is_note a k l ≡ true
  is-note j a k l n h = all (actor_of l.entry == a) (l.number == k) (ap (λ m. m == a) h.actor ∙ itself a) (ap (λ m. m == k) h.number_is ∙ itself k)

  -- each note has a line
  pub stands : (a k : ℕ) (n : Note) → note_at lists a k ≡ Some n → list_any (is_note a k) lines ≡ true
  stands a k n h = let r = show.each_note a k n h in any-at (is_note a k) lines r.0 r.1 r.2.at (is-note r.0 a k r.1 n r.2)

  -- a line by its actor and number
  pub shows : (i a k : ℕ) (x : Line) → slice_get lines i ≡ Some x → is_note a k x ≡ true → (n : Note) × (note_at lists a k ≡ Some n) × (x.place ≡ n.place) × (lines_in x.place (take i lines) ≡ n.pos)
  shows i a k x at h =
      let r = show.each_line i x at in
      let by : actor_of x.entry ≡ a = equal (actor_of x.entry) a (first (actor_of x.entry == a) (x.number == k) h) in
      let number : x.number ≡ k = equal x.number k (second (actor_of x.entry == a) (x.number == k) h) in
      (r.0, ap (λ m. note_at lists m k) (sym by) ∙ (ap (note_at lists (actor_of x.entry)) (sym number) ∙ r.1), r.2.place, r.2.pos)

  -- one line has it
  apart : (i j a k : ℕ) (x y : Line) → slice_get lines i ≡ Some x → slice_get lines j ≡ Some y → is_note a k x ≡ true → is_note a k y ≡ true → i < j → ⊥
  apart i j a k x y at_i at_j hx hy below =
      let rx = shows i a k x at_i hx in let ry = shows j a k y at_j hy in
      let same : rx.0 ≡ ry.0 = some-is rx.0 ry.0 (sym rx.1 ∙ ry.1) in
      let place : y.place ≡ x.place = ry.2 ∙ (ap (λ (n : Note). n.place) (sym same) ∙ sym rx.2) in
      let pos : lines_in x.place (take j lines) ≡ rx.0.pos = ap (λ p. lines_in p (take j lines)) (sym place) ∙ (ry.3 ∙ ap (λ (n : Note). n.pos) (sym same)) in
      let less = count-rises (λ l. same_place l.place x.place) lines i j x at_i (same-itself x.place) below in
      absurd (omega (arith, less, pos, rx.3))

  pub first-one : (j a k : ℕ) (l : Line) → slice_get lines j ≡ Some l → is_note a k l ≡ true → list_any (is_note a k) (take j lines) ≡ false
  first-one j a k l at h = none-any (is_note a k) (take j lines) (λ i x there hx. (let r = take-get j lines i x there in apart i j a k x l r.1 at hx h r.0))

  own : (l : Line) → is_note (actor_of l.entry) l.number l ≡ true
  own l = all (actor_of l.entry == actor_of l.entry) (l.number == l.number) (itself (actor_of l.entry)) (itself l.number)

  enough : (j : ℕ) (l : Line) → slice_get lines j ≡ Some l → l.number < lines_made_by (actor_of l.entry) lines
  enough j l at =
      let r = show.each_line j l at in
      let count = count-enough lines (actor_of l.entry) (l.number + 1) (λ k below. (let e = earlier-in (slice_get lists (actor_of l.entry)) k l.number r.0 r.1 (omega arith) in stands (actor_of l.entry) k e.0 e.1)) in
      omega (arith, count)

  lower : (j : ℕ) (l : Line) → slice_get lines j ≡ Some l → (i : ℕ) (x : Line) → slice_get lines i ≡ Some x → i < j → is_in_place_by (actor_of l.entry) l.place x ≡ true → l.number < x.number → ⊥
  lower j l at i x at_i below here less =
      let by : actor_of x.entry ≡ actor_of l.entry = equal (actor_of x.entry) (actor_of l.entry) (first (actor_of x.entry == actor_of l.entry) (same_place x.place l.place) here) in
      let place : x.place ≡ l.place = same-equal x.place l.place (second (actor_of x.entry == actor_of l.entry) (same_place x.place l.place) here) in
      let rl = show.each_line j l at in let rx = show.each_line i x at_i in
      let x_at : note_at lists (actor_of l.entry) x.number ≡ Some rx.0 = ap (λ m. note_at lists m x.number) (sym by) ∙ rx.1 in
      let places : rl.0.place ≡ rx.0.place = sym rl.2.place ∙ (sym place ∙ rx.2.place) in
      let rise = in-list-order lists (actor_of l.entry) l.number x.number rl.0 rx.0 formed rl.1 x_at less (ap (λ p. same_place p rx.0.place) places ∙ same-itself rx.0.place) (same-itself rx.0.place) in
      let up = count-rises (λ y. same_place y.place l.place) lines i j x at_i (ap (λ p. same_place p l.place) place ∙ same-itself l.place) below in
      let x_pos : lines_in l.place (take i lines) ≡ rx.0.pos = ap (λ p. lines_in p (take i lines)) (sym place) ∙ rx.2.pos in
      absurd (omega (arith, rise, up, x_pos, rl.2.pos))

  lt-true : (m n : ℕ) → nat_lt m n ≡ true → m < n
  lt-true m n h = grind (arith, nat_tests)

  pub number-fine : (j : ℕ) (l : Line) → slice_get lines j ≡ Some l → number_at lines (take j lines) l ≡ None
  number-fine j l at = all-fine (is_beyond lines l) (is_taken (take j lines) l) (falls (take j lines) l)
      (le-false (lines_made_by (actor_of l.entry) lines) l.number (enough j l at))
      (first-one j (actor_of l.entry) l.number l at (own l))
      (none-any (λ x. is_in_place_by (actor_of l.entry) l.place x && nat_lt l.number x.number) (take j lines)
      (λ i x there h. (let r = take-get j lines i x there in
      lower j l at i x r.1 r.0 (first (is_in_place_by (actor_of l.entry) l.place x) (nat_lt l.number x.number) h) (lt-true l.number x.number (second (is_in_place_by (actor_of l.entry) l.place x) (nat_lt l.number x.number) h)))))
