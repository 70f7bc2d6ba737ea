-- Where the notes of lists fit their places, so does what a report shows of each place.
use Rattle.std.proofs.Common.{◌≡◌, ℕ, ◌+◌, ◌^◌, ◌<◌, ◌≤◌, ◌==◌, Bool, true, false, cond, List, [], ◌∷◌, ◌++◌, length, refl, ap, subst, arith}
use Rattle.std.specs.Prelude.{Option, Some, None}
use Rattle.std.specs.List.{AllByRecursion, filter, find, filter_map, cons_option, range_with_len}
use Rattle.std.specs.Option.{option_map}
use Rattle.std.proofs.lemmas.Bool.{eqb-true}
use Rattle.co_object.specs.declared.Note.{Note}
use Rattle.co_object.specs.declared.Place.{Place}
use Rattle.co_object.specs.declared.Place.TheVariants as place
use Rattle.co_object.specs.Lists.{same_place}
use Rattle.co_program.specs.declared.Script.{Script}
use Rattle.co_print.specs.Histories.{Numbered, numbered_from, numbered_of, all_numbered_of, shown, shown_at, shown_history}
use Rattle.co_notes.specs.declared.reading.notes.NumberedEntry.{NumberedEntry}
use Rattle.co_notes.specs.NoteFits.{EntryFits, ShownFits}
use Rattle.co_report.specs.Laws.{ListsFit}

module _ (s : Script) (p : Place) where
  -- a numbered note of this place
  pub record Stands (x : Numbered) : Type 0 where
    pub number : x.number < 2 ^ 64
    pub entry : EntryFits s p x.note.entry

  same-is : (q r : Place) → same_place q r ≡ true → q ≡ r
  same-is (place.Timer i) (place.Timer j) h = ap place.Timer (eqb-true i j h)
  same-is (place.Timer i) (place.Cpu j) h = cc
  same-is (place.Timer i) (place.Actor j) h = cc
  same-is (place.Cpu i) (place.Timer j) h = cc
  same-is (place.Cpu i) (place.Cpu j) h = ap place.Cpu (eqb-true i j h)
  same-is (place.Cpu i) (place.Actor j) h = cc
  same-is (place.Actor i) (place.Timer j) h = cc
  same-is (place.Actor i) (place.Cpu j) h = cc
  same-is (place.Actor i) (place.Actor j) h = ap place.Actor (eqb-true i j h)

  numbered-stand : (k : ℕ) (ns : List Note) → k + length ns ≤ 2 ^ 64 → AllByRecursion (λ (n : Note). EntryFits s n.place n.entry) ns
      → AllByRecursion Stands (filter (λ x. same_place x.note.place p) (numbered_from k ns))
  numbered-stand k [] few all = tt
  numbered-stand k (n ∷ ns) few all = go (same_place n.place p) refl (numbered-stand (k + 1) ns (omega (arith, few)) all.1) where
    go : (b : Bool) → same_place n.place p ≡ b → AllByRecursion Stands (filter (λ x. same_place x.note.place p) (numbered_from (k + 1) ns))
        → AllByRecursion Stands (cond b (record { number = k; note = n } ∷ filter (λ x. same_place x.note.place p) (numbered_from (k + 1) ns)) (filter (λ x. same_place x.note.place p) (numbered_from (k + 1) ns)))
    go true h rest = (record { number = omega (arith, few); entry = subst (λ (q : Place). EntryFits s q n.entry) (same-is n.place p h) all.0 }, rest)
    go false h rest = rest

  append-all : (xs ys : List Numbered) → AllByRecursion Stands xs → AllByRecursion Stands ys → AllByRecursion Stands (xs ++ ys)
  append-all [] ys a b = b
  append-all (x ∷ xs) ys a b = (a.0, append-all xs ys a.1 b)

  all-stand : (lists : List (List Note)) → AllByRecursion (λ (ns : List Note). AllByRecursion (λ (n : Note). EntryFits s n.place n.entry) ns) lists → AllByRecursion (λ (ns : List Note). length ns < 2 ^ 64) lists
      → AllByRecursion Stands (all_numbered_of p lists)
  all-stand [] fit short = tt
  all-stand (ns ∷ lists) fit short =
      let few : 0 + length ns ≤ 2 ^ 64 = omega (arith, short.0) in
      append-all (numbered_of p ns) (all_numbered_of p lists) (numbered-stand 0 ns few fit.0) (all-stand lists fit.1 short.1)

  abbrev Shows : Option NumberedEntry → Type 0
  Shows None = Unit {0}
  Shows (Some x) = ShownFits s p x

  found : (xs : List Numbered) (pos : ℕ) → AllByRecursion Stands xs → Shows (shown_at xs pos)
  found [] pos all = tt
  found (x ∷ xs) pos all = go (x.note.pos == pos) (found xs pos all.1) where
    go : (b : Bool) → Shows (shown_at xs pos) → Shows (option_map shown (cond b (Some x) (find (λ y. y.note.pos == pos) xs)))
    go true rest = (all.0.number, all.0.entry)
    go false rest = rest

  each-found : (xs : List Numbered) (ks : List ℕ) → AllByRecursion Stands xs → AllByRecursion (ShownFits s p) (filter_map (shown_at xs) ks)
  each-found xs [] all = tt
  each-found xs (k ∷ ks) all = go (shown_at xs k) (found xs k all) (each-found xs ks all) where
    go : (o : Option NumberedEntry) → Shows o → AllByRecursion (ShownFits s p) (filter_map (shown_at xs) ks) → AllByRecursion (ShownFits s p) (cons_option o (filter_map (shown_at xs) ks))
    go None h rest = rest
    go (Some x) h rest = (h, rest)

pub history_fits : (s : Script) (lists : List (List Note)) → ListsFit s lists → (p : Place) → AllByRecursion (ShownFits s p) (shown_history lists p)
history_fits s lists f p = each-found s p (all_numbered_of p lists) (range_with_len 0 (length (all_numbered_of p lists))) (all-stand s p lists f.notes f.short)
