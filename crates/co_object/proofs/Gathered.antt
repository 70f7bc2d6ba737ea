-- The history of a place has the entries of the notes that stand in it, of all lists, and no others: each position is that
-- of one note, which is found by it.
use Rattle.std.proofs.Common.{◌≡◌, ℕ, zero, suc, ◌+◌, ◌<◌, ◌≤◌, ◌==◌, Bool, true, false, cond, ◌⊎◌, inl, inr, List, [], ◌∷◌, ◌++◌, length, refl, sym, ap, subst, ◌∙◌, arith}
use Rattle.std.specs.Prelude.{Option, Some, None}
use Rattle.std.specs.List.{AllByRecursion, filter, find, filter_map, cons_option, range_with_len}
use Rattle.std.specs.Option.{option_map}
use Rattle.std.proofs.lemmas.Bool.{eqb-true}
use Rattle.std.proofs.lemmas.Bool.Decides.{nat_tests}
use Rattle.co_object.specs.declared.note.AnyEntry.{AnyEntry}
use Rattle.co_object.specs.declared.note.AnyEntry.TheVariants as of
use Rattle.co_object.specs.declared.note.Entry.{Entry}
use Rattle.co_object.specs.declared.note.QEntry.{QEntry}
use Rattle.co_object.specs.declared.note.Place.{Place}
use Rattle.co_object.specs.declared.note.Place.TheVariants.{Timer, Cpu, Actor}
use Rattle.co_object.specs.declared.note.Note.{Note}
use Rattle.co_object.specs.Lists.{same_place, notes_of, all_notes_of, entry_at, history, callout_history, cpu_journal, count_at, IsWellFormed}
use Rattle.co_object.proofs.Passing.{passing, count-passing}
use Rattle.co_object.proofs.Members.{Has, has-left, has-right, has-filter, has-passing, find-has}

-- ---- lists

module _ {X : Type 0} where
  pub all-has : (P : X → Type 0) (xs : List X) (x : X) → AllByRecursion P xs → Has x xs → P x
  all-has P [] x all h = absurd h
  all-has P (y ∷ ys) x all h = elim h [ inl e ↦ subst P e all.0 | inr rest ↦ all-has P ys x all.1 rest ]

  pub all-of : (P : X → Type 0) (xs : List X) → ((x : X) → Has x xs → P x) → AllByRecursion P xs
  all-of P [] each = tt
  all-of P (y ∷ ys) each = (each y (inl refl), all-of P ys (λ x h. each x (inr h)))

  in-either : (x : X) (xs ys : List X) → Has x (xs ++ ys) → Has x xs ⊎ Has x ys
  in-either x [] ys h = inr h
  in-either x (y ∷ xs) ys h = elim h [
    | inl e ↦ inl (inl e)
    | inr rest ↦ elim (in-either x xs ys rest) [ inl left ↦ inl (inr left) | inr right ↦ inr right ]
  ]

  record Kept (p : X → Bool) (x : X) (xs : List X) : Type 0 where
    pub passes : p x ≡ true
    pub inside : Has x xs

  kept-in : (p : X → Bool) (x : X) (xs : List X) → Has x (filter p xs) → Kept p x xs
  kept-in p x [] h = absurd h
  kept-in p x (y ∷ ys) h = go (p y) refl h (λ rest. kept-in p x ys rest) where
    behind : Kept p x ys → Kept p x (y ∷ ys)
    behind k = record { passes = k.passes; inside = inr k.inside }

    go : (b : Bool) → p y ≡ b → Has x (cond b (y ∷ filter p ys) (filter p ys)) → (Has x (filter p ys) → Kept p x ys) → Kept p x (y ∷ ys)
    go true is h later = elim h [ inl e ↦ record { passes = subst (λ (z : X). p z ≡ true) e is; inside = inl e } | inr rest ↦ behind (later rest) ]
    go false is h later = behind (later h)

  found-in : (p : X → Bool) (x : X) (xs : List X) → find p xs ≡ Some x → Has x xs
  found-in p x [] h = cc
  found-in p x (y ∷ ys) h = go (p y) h (λ rest. found-in p x ys rest) where
    go : (b : Bool) → cond b (Some y) (find p ys) ≡ Some x → (find p ys ≡ Some x → Has x ys) → Has x (y ∷ ys)
    go true h later = let e : y ≡ x = cc in inl e
    go false h later = inr (later h)

  found-some : (p : X → Bool) (xs : List X) → 1 ≤ passing p xs → (x : X) × (find p xs ≡ Some x)
  found-some p [] h = absurd (omega arith)
  found-some p (y ∷ ys) h = go (p y) refl (λ later. found-some p ys later) where
    go : (b : Bool) → p y ≡ b → (1 ≤ passing p ys → (x : X) × (find p ys ≡ Some x)) → (x : X) × (cond b (Some y) (find p ys) ≡ Some x)
    go true is later = (y, refl)
    go false is later = later (let first : cond {A = ℕ} (p y) 1 0 ≡ 0 = ap (λ (b : Bool). cond {A = ℕ} b 1 0) is in omega (arith, h, first))

module _ {X Y : Type 0} (f : X → Option Y) where
  record Comes (y : Y) (xs : List X) : Type 0 where
    pub from : X
    pub inside : Has from xs
    pub is : f from ≡ Some y

  comes-from : (y : Y) (xs : List X) → Has y (filter_map f xs) → Comes y xs
  comes-from y [] h = absurd h
  comes-from y (x ∷ xs) h = go (f x) refl h (λ rest. comes-from y xs rest) where
    behind : Comes y xs → Comes y (x ∷ xs)
    behind c = record { from = c.from; inside = inr c.inside; is = c.is }

    go : (o : Option Y) → f x ≡ o → Has y (cons_option o (filter_map f xs)) → (Has y (filter_map f xs) → Comes y xs) → Comes y (x ∷ xs)
    go None is h later = behind (later h)
    go (Some z) is h later = elim h [ inl e ↦ record { from = x; inside = inl refl; is = is ∙ ap Some e } | inr rest ↦ behind (later rest) ]

  comes-to : (x : X) (y : Y) (xs : List X) → f x ≡ Some y → Has x xs → Has y (filter_map f xs)
  comes-to x y [] is h = absurd h
  comes-to x y (z ∷ xs) is h = elim h [
    | inl e ↦ (let there : f z ≡ Some y = ap f e ∙ is in first there)
    | inr rest ↦ behind (f z) (comes-to x y xs is rest)
  ]
    where
      first : f z ≡ Some y → Has y (cons_option (f z) (filter_map f xs))
      first there = rw there (inl refl)

      behind : (o : Option Y) → Has y (filter_map f xs) → Has y (cons_option o (filter_map f xs))
      behind None rest = rest
      behind (Some w) rest = inr rest

in-range : (k m n : ℕ) → m ≤ k → k < m + n → Has k (range_with_len m n)
in-range k m zero least less = absurd (omega arith)
in-range k m (suc n) least less = go (m == k) refl (λ later. in-range k (m + 1) n later (omega arith)) where
  differs : (m == k) ≡ false → m + 1 ≤ k
  differs is = grind (arith, nat_tests)

  go : (b : Bool) → (m == k) ≡ b → (m + 1 ≤ k → Has k (range_with_len (m + 1) n)) → Has k (range_with_len m (suc n))
  go true is rest = inl (eqb-true m k is)
  go false is rest = inr (rest (differs is))

-- ---- the notes of a place

same-is : (q p : Place) → same_place q p ≡ true → q ≡ p
same-is (Timer i) (Timer j) h = ap Timer (eqb-true i j h)
same-is (Timer i) (Cpu j) h = cc
same-is (Timer i) (Actor j) h = cc
same-is (Cpu i) (Timer j) h = cc
same-is (Cpu i) (Cpu j) h = ap Cpu (eqb-true i j h)
same-is (Cpu i) (Actor j) h = cc
same-is (Actor i) (Timer j) h = cc
same-is (Actor i) (Cpu j) h = cc
same-is (Actor i) (Actor j) h = ap Actor (eqb-true i j h)

number-itself : (i : ℕ) → (i == i) ≡ true
number-itself i = grind (arith, nat_tests)

place-itself : (p : Place) → same_place p p ≡ true
place-itself (Timer i) = number-itself i
place-itself (Cpu i) = number-itself i
place-itself (Actor i) = number-itself i

-- a note of one of the lists
abbrev pub HasNote : Note → List (List Note) → Type 0
HasNote n [] = ⊥
HasNote n (notes ∷ lists) = Has n notes ⊎ HasNote n lists

pub all-lists : (P : Note → Type 0) (lists : List (List Note)) → ((n : Note) → HasNote n lists → P n) → AllByRecursion (λ notes. AllByRecursion P notes) lists
all-lists P [] each = tt
all-lists P (notes ∷ lists) each = (all-of P notes (λ n h. each n (inl h)), all-lists P lists (λ n h. each n (inr h)))

pub lists-all : (P : Note → Type 0) (lists : List (List Note)) (n : Note) → AllByRecursion (λ notes. AllByRecursion P notes) lists → HasNote n lists → P n
lists-all P [] n all h = absurd h
lists-all P (notes ∷ lists) n all h = elim h [ inl here ↦ all-has P notes n all.0 here | inr rest ↦ lists-all P lists n all.1 rest ]

gathered : (n : Note) (lists : List (List Note)) → HasNote n lists → Has n (all_notes_of n.place lists)
gathered n [] h = absurd h
gathered n (notes ∷ lists) h = elim h [
  | inl here ↦ has-left n (notes_of n.place notes) (all_notes_of n.place lists) (has-filter (λ note. same_place note.place n.place) n notes (place-itself n.place) here)
  | inr rest ↦ has-right n (notes_of n.place notes) (all_notes_of n.place lists) (gathered n lists rest)
]

record Stands (p : Place) (n : Note) (lists : List (List Note)) : Type 0 where
  pub place : n.place ≡ p
  pub inside : HasNote n lists

stands : (p : Place) (n : Note) (lists : List (List Note)) → Has n (all_notes_of p lists) → Stands p n lists
stands p n [] h = absurd h
stands p n (notes ∷ lists) h = elim (in-either n (notes_of p notes) (all_notes_of p lists) h) [
  | inl here ↦ (let k : Kept (λ (note : Note). same_place note.place p) n notes = kept-in (λ (note : Note). same_place note.place p) n notes here in record { place = same-is n.place p k.passes; inside = inl k.inside })
  | inr rest ↦ (let st : Stands p n lists = stands p n lists rest in record { place = st.place; inside = inr st.inside })
]

-- ---- entries

-- the entry is that of a note in this place
pub record IsNoted (p : Place) (e : AnyEntry) (lists : List (List Note)) : Type 0 where
  pub note : Note
  pub inside : HasNote note lists
  pub place : note.place ≡ p
  pub entry : note.entry ≡ e

noted : (p : Place) (e : AnyEntry) (lists : List (List Note)) → Has e (history p lists) → IsNoted p e lists
noted p e lists h =
    let notes : List Note = all_notes_of p lists in
    let c : Comes (entry_at notes) e (range_with_len 0 (length notes)) = comes-from (entry_at notes) e (range_with_len 0 (length notes)) h in
    go c.from (find (λ note. note.pos == c.from) notes) refl c.is where
      go : (pos : ℕ) (o : Option Note) → find (λ note. note.pos == pos) (all_notes_of p lists) ≡ o → option_map (λ (note : Note). note.entry) o ≡ Some e → IsNoted p e lists
      go pos None at is = cc
      go pos (Some n) at is =
          let st : Stands p n lists = stands p n lists (found-in (λ note. note.pos == pos) n (all_notes_of p lists) at) in
          let same : n.entry ≡ e = cc in
          record { note = n; inside = st.inside; place = st.place; entry = same }

-- a note is the one at its position
pub record IsAtItsPlace (n : Note) (lists : List (List Note)) : Type 0 where
  pub below : n.pos < length (all_notes_of n.place lists)
  pub at : entry_at (all_notes_of n.place lists) n.pos ≡ Some n.entry

pub at-its-place : (n : Note) (lists : List (List Note)) → IsWellFormed lists → HasNote n lists → IsAtItsPlace n lists
at-its-place n lists formed inside = record {
  below = below;
  at = ap (option_map (λ (note : Note). note.entry)) (find-has is_at n notes (sym (count-passing is_at notes) ∙ formed.once n.place n.pos below) itself here);
} where
  notes : List Note
  notes = all_notes_of n.place lists

  is_at : Note → Bool
  is_at note = note.pos == n.pos

  itself : is_at n ≡ true
  itself = number-itself n.pos

  here : Has n notes
  here = gathered n lists inside

  some : 1 ≤ count_at n.pos notes
  some = let one : 1 ≤ passing is_at notes = has-passing is_at n notes itself here in let same : count_at n.pos notes ≡ passing is_at notes = count-passing is_at notes in omega (arith, one, same)

  below : n.pos < length notes
  below = let none : length notes ≤ n.pos → count_at n.pos notes ≡ 0 = formed.others n.place n.pos in let one = some in grind arith

-- each position is that of a note
pub record IsTaken (p : Place) (pos : ℕ) (lists : List (List Note)) : Type 0 where
  pub note : Note
  pub inside : HasNote note lists
  pub place : note.place ≡ p
  pub at : entry_at (all_notes_of p lists) pos ≡ Some note.entry

pub taken-at : (p : Place) (pos : ℕ) (lists : List (List Note)) → IsWellFormed lists → pos < length (all_notes_of p lists) → IsTaken p pos lists
taken-at p pos lists formed below =
    let one : count_at pos (all_notes_of p lists) ≡ 1 = formed.once p pos below in
    let same : count_at pos (all_notes_of p lists) ≡ passing is_at (all_notes_of p lists) = count-passing is_at (all_notes_of p lists) in
    let f = found-some is_at (all_notes_of p lists) (omega (arith, one, same)) in
    let st : Stands p f.0 lists = stands p f.0 lists (found-in is_at f.0 (all_notes_of p lists) f.1) in
    record { note = f.0; inside = st.inside; place = st.place; at = ap (option_map (λ (note : Note). note.entry)) f.1 } where
      is_at : Note → Bool
      is_at note = note.pos == pos

entered : (n : Note) (lists : List (List Note)) → IsWellFormed lists → HasNote n lists → Has n.entry (history n.place lists)
entered n lists formed inside =
    let here : IsAtItsPlace n lists = at-its-place n lists formed inside in
    comes-to (entry_at (all_notes_of n.place lists)) n.pos n.entry (range_with_len 0 (length (all_notes_of n.place lists))) here.at
    (in-range n.pos 0 (length (all_notes_of n.place lists)) (omega arith) (omega (arith, here.below)))

-- ---- of callouts and of CPUs

module _ (lists : List (List Note)) where
  of-kind : {E : Type 0} (f : AnyEntry → Option E) (make : E → AnyEntry) → ((x : AnyEntry) (e : E) → f x ≡ Some e → x ≡ make e) → (p : Place) (e : E) → Has e (filter_map f (history p lists)) → IsNoted p (make e) lists
  of-kind f make is_made p e h =
      let c : Comes f e (history p lists) = comes-from f e (history p lists) h in
      subst (λ (x : AnyEntry). IsNoted p x lists) (is_made c.from e c.is) (noted p c.from lists c.inside)

  timer-made : (f : AnyEntry → Option Entry) → ((e : Entry) → f (of.Timer e) ≡ Some e) → ((e : _) → f (of.Cpu e) ≡ None) → ((e : _) → f (of.Own e) ≡ None) → (x : AnyEntry) (e : Entry) → f x ≡ Some e → x ≡ of.Timer e
  timer-made f timer cpu own (of.Timer y) e is = let both : Some y ≡ Some e = sym (timer y) ∙ is in let same : y ≡ e = cc in ap of.Timer same
  timer-made f timer cpu own (of.Cpu y) e is = let clash : None ≡ Some e = sym (cpu y) ∙ is in cc
  timer-made f timer cpu own (of.Own y) e is = let clash : None ≡ Some e = sym (own y) ∙ is in cc

  cpu-made : (f : AnyEntry → Option QEntry) → ((e : _) → f (of.Timer e) ≡ None) → ((e : QEntry) → f (of.Cpu e) ≡ Some e) → ((e : _) → f (of.Own e) ≡ None) → (x : AnyEntry) (e : QEntry) → f x ≡ Some e → x ≡ of.Cpu e
  cpu-made f timer cpu own (of.Timer y) e is = let clash : None ≡ Some e = sym (timer y) ∙ is in cc
  cpu-made f timer cpu own (of.Cpu y) e is = let both : Some y ≡ Some e = sym (cpu y) ∙ is in let same : y ≡ e = cc in ap of.Cpu same
  cpu-made f timer cpu own (of.Own y) e is = let clash : None ≡ Some e = sym (own y) ∙ is in cc

  -- each entry of a callout's history is that of a note
  pub callout-noted : (i : ℕ) (e : Entry) → Has e (callout_history i lists) → IsNoted (Timer i) (of.Timer e) lists
  callout-noted i e h = of-kind _ of.Timer (timer-made _ (λ e. refl) (λ e. refl) (λ e. refl)) (Timer i) e h

  pub cpu-noted : (cpu : ℕ) (e : QEntry) → Has e (cpu_journal cpu lists) → IsNoted (Cpu cpu) (of.Cpu e) lists
  cpu-noted cpu e h = of-kind _ of.Cpu (cpu-made _ (λ e. refl) (λ e. refl) (λ e. refl)) (Cpu cpu) e h

  -- and the entry of each note in its place stands in the place's history
  module _ (formed : IsWellFormed lists) where
    pub callout-entered : (i : ℕ) (e : Entry) (n : Note) → HasNote n lists → n.place ≡ Timer i → n.entry ≡ of.Timer e → Has e (callout_history i lists)
    callout-entered i e n inside place entry =
        comes-to _ (of.Timer e) e (history (Timer i) lists) refl
        (subst (λ (x : AnyEntry). Has x (history (Timer i) lists)) entry (subst (λ (p : Place). Has n.entry (history p lists)) place (entered n lists formed inside)))

    pub cpu-entered : (cpu : ℕ) (e : QEntry) (n : Note) → HasNote n lists → n.place ≡ Cpu cpu → n.entry ≡ of.Cpu e → Has e (cpu_journal cpu lists)
    cpu-entered cpu e n inside place entry =
        comes-to _ (of.Cpu e) e (history (Cpu cpu) lists) refl
        (subst (λ (x : AnyEntry). Has x (history (Cpu cpu) lists)) entry (subst (λ (p : Place). Has n.entry (history p lists)) place (entered n lists formed inside)))
