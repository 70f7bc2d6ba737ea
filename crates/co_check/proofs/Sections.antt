-- The lines of a report that stand in a place are the place's shown history.
use Rattle.std.proofs.Common.{◌≡◌, ℕ, zero, suc, ◌+◌, ◌<◌, ◌≤◌, ◌==◌, Bool, true, false, cond, nat_lt, List, [], ◌∷◌, ◌++◌, length, map, refl, ap, sym, ◌∙◌, arith, append-nil}
use Rattle.std.specs.List.{filter, filter_map, flat_map, range_with_len}
use Rattle.std.proofs.lemmas.Bool.{eqb-true, ltb-true, ltb-false}
use Rattle.std.proofs.lemmas.Bool.Decides.{nat_tests}
use Rattle.std.proofs.lemmas.Grind.{flat_map-append}
use Rattle.std.proofs.lemmas.List.Elements.{filter-append}
use Rattle.co_object.specs.declared.Note.{Note}
use Rattle.co_object.specs.declared.Place.{Place}
use Rattle.co_object.specs.declared.Place.TheVariants as place
use Rattle.co_object.specs.Lists.{same_place}
use Rattle.co_program.specs.declared.Script.{Script}
use Rattle.co_program.specs.Actors.{actor_count}
use Rattle.co_program.specs.Places.{place_exists, HavePlaces, AllHavePlaces}
use Rattle.co_report.specs.declared.line.Line.{Line}
use Rattle.co_print.specs.Histories.{Numbered, numbered_from, all_numbered_of, shown_at, shown_history, PlaceHistories}
use Rattle.co_notes.specs.declared.reading.notes.NumberedEntry.{NumberedEntry}
use Rattle.co_print.specs.Reports.{places}
use Rattle.co_report.specs.Laws.{note_lines, lines_of_places}
use Rattle.co_check.specs.Runs.{lines_at, shown_line}

map-append : {X Y : Type 0} (f : X → Y) (xs ys : List X) → map f (xs ++ ys) ≡ map f xs ++ map f ys
map-append f [] ys = refl
map-append f (x ∷ xs) ys = ap (λ rest. f x ∷ rest) (map-append f xs ys)

-- ---- the lines of one place among those of several

module _ (h : PlaceHistories) (p : Place) where
  abbrev shown_in : List Line → List NumberedEntry
  shown_in lines = map shown_line (lines_at p lines)

  -- what a place gives
  abbrev part : Place → List NumberedEntry
  part q = cond (same_place q p) (h q) []

  of_notes : (q : Place) (k : ℕ) (xs : List NumberedEntry) → shown_in (note_lines k q xs) ≡ cond (same_place q p) xs []
  of_notes q k [] = both (same_place q p) where
    both : (b : Bool) → ◌≡◌ {A = List NumberedEntry} [] (cond b [] [])
    both true = refl
    both false = refl
  of_notes q k (x ∷ xs) = go (same_place q p) (of_notes q (k + 1) xs) where
    go : (b : Bool) → shown_in (note_lines (k + 1) q xs) ≡ cond b xs [] →
        map shown_line (cond b (record { line = k; place = q; number = x.number; entry = x.entry } ∷ lines_at p (note_lines (k + 1) q xs)) (lines_at p (note_lines (k + 1) q xs))) ≡ cond b (x ∷ xs) []
    go true rest = ap (λ ys. x ∷ ys) rest
    go false rest = rest

  of_sections : (k : ℕ) (ps : List Place) → shown_in (lines_of_places h k ps) ≡ flat_map part ps
  of_sections k [] = refl
  of_sections k (q ∷ ps) =
      let here : List Line = note_lines (k + 1) q (h q) in
      let rest : List Line = lines_of_places h (k + 1 + length (h q)) ps in
      ap (map shown_line) (filter-append (λ (l : Line). same_place l.place p) here rest)
      ∙ (map-append shown_line (lines_at p here) (lines_at p rest)
      ∙ (ap (λ xs. xs ++ shown_in rest) (of_notes q (k + 1) (h q))
      ∙ ap (λ xs. part q ++ xs) (of_sections (k + 1 + length (h q)) ps)))

  -- ---- places of one kind

  module _ (kind : ℕ → Place) where
    abbrev parts_from : (from n : ℕ) → List NumberedEntry
    parts_from from n = flat_map part (map kind (range_with_len from n))

    -- of another kind than the place
    apart : ((k : ℕ) → same_place (kind k) p ≡ false) → (from n : ℕ) → parts_from from n ≡ []
    apart other from zero = refl
    apart other from (suc n) = ap (λ b. cond {A = List NumberedEntry} b (h (kind from)) [] ++ parts_from (from + 1) n) (other from) ∙ apart other (from + 1) n

    module _ (i : ℕ) (alike : (k : ℕ) → same_place (kind k) p ≡ (k == i)) where
      head_part : (from n : ℕ) (b : Bool) → (from == i) ≡ b → parts_from from (suc n) ≡ cond {A = List NumberedEntry} b (h (kind from)) [] ++ parts_from (from + 1) n
      head_part from n b is = ap (λ c. cond {A = List NumberedEntry} c (h (kind from)) [] ++ parts_from (from + 1) n) (alike from ∙ is)

      differs : (m : ℕ) → m < i → (m == i) ≡ false
      differs m less = grind (arith, nat_tests)

      differs-above : (m : ℕ) → i < m → (m == i) ≡ false
      differs-above m less = grind (arith, nat_tests)

      later : (m : ℕ) → m ≤ i → (m == i) ≡ false → m + 1 ≤ i
      later m least other = grind (arith, nat_tests)

      below : (from n : ℕ) → from + n ≤ i → parts_from from n ≡ []
      below from zero less = refl
      below from (suc n) less = head_part from n false (differs from (omega arith)) ∙ below (from + 1) n (omega arith)

      above : (from n : ℕ) → i < from → parts_from from n ≡ []
      above from zero more = refl
      above from (suc n) more = head_part from n false (differs-above from more) ∙ above (from + 1) n (omega arith)

      among : (from n : ℕ) → from ≤ i → i < from + n → parts_from from n ≡ h (kind i)
      among from zero least less = absurd (omega arith)
      among from (suc n) least less = go (from == i) refl (λ next. among (from + 1) n next (omega arith)) where
        go : (b : Bool) → (from == i) ≡ b → (from + 1 ≤ i → parts_from (from + 1) n ≡ h (kind i)) → parts_from from (suc n) ≡ h (kind i)
        go true is rest =
            let same : from ≡ i = eqb-true from i is in
            let next : i < from + 1 = omega (arith, same) in
            head_part from n true is ∙ (ap (λ xs. h (kind from) ++ xs) (above (from + 1) n next) ∙ (append-nil (h (kind from)) ∙ ap (λ k. h (kind k)) same))
        go false is rest = head_part from n false is ∙ rest (later from least is)

-- ---- what no place of the script has

module _ (s : Script) where
  alike-exist : (q p : Place) → same_place q p ≡ true → place_exists s q ≡ place_exists s p
  alike-exist (place.Timer i) (place.Timer j) h = ap (λ k. nat_lt k (length s.timers)) (eqb-true i j h)
  alike-exist (place.Timer i) (place.Cpu j) h = cc
  alike-exist (place.Timer i) (place.Actor j) h = cc
  alike-exist (place.Cpu i) (place.Timer j) h = cc
  alike-exist (place.Cpu i) (place.Cpu j) h = ap (λ k. nat_lt k s.cpus) (eqb-true i j h)
  alike-exist (place.Cpu i) (place.Actor j) h = cc
  alike-exist (place.Actor i) (place.Timer j) h = cc
  alike-exist (place.Actor i) (place.Cpu j) h = cc
  alike-exist (place.Actor i) (place.Actor j) h = ap (λ k. nat_lt k (actor_count s)) (eqb-true i j h)

  module _ (p : Place) (absent : place_exists s p ≡ false) where
    elsewhere : (q : Place) → place_exists s q ≡ true → same_place q p ≡ false
    elsewhere q there = go (same_place q p) refl where
      go : (b : Bool) → same_place q p ≡ b → b ≡ false
      go true is = let same : place_exists s q ≡ place_exists s p = alike-exist q p is in cc
      go false is = refl

    none-numbered : (k : ℕ) (notes : List Note) → HavePlaces s notes → filter (λ (x : Numbered). same_place x.note.place p) (numbered_from k notes) ≡ []
    none-numbered k [] have = refl
    none-numbered k (note ∷ notes) have =
        let rest : List Numbered = filter (λ (x : Numbered). same_place x.note.place p) (numbered_from (k + 1) notes) in
        ap (λ b. cond {A = List Numbered} b (record { number = k; note = note } ∷ rest) rest) (elsewhere note.place have.0) ∙ none-numbered (k + 1) notes have.1

    none-in : (lists : List (List Note)) → AllHavePlaces s lists → all_numbered_of p lists ≡ []
    none-in [] have = refl
    none-in (notes ∷ lists) have = ap (λ xs. xs ++ all_numbered_of p lists) (none-numbered 0 notes have.0) ∙ none-in lists have.1

    pub none-shown : (lists : List (List Note)) → AllHavePlaces s lists → shown_history lists p ≡ []
    none-shown lists have = ap (λ (notes : List Numbered). filter_map (shown_at notes) (range_with_len 0 (length notes))) (none-in lists have)

  -- ---- all places

  module _ (h : PlaceHistories) (none : (p : Place) → place_exists s p ≡ false → h p ≡ []) where
    abbrev timers_of : Place → List NumberedEntry
    timers_of p = parts_from h p place.Timer 0 (length s.timers)

    abbrev cpus_of : Place → List NumberedEntry
    cpus_of p = parts_from h p place.Cpu 0 s.cpus

    abbrev actors_of : Place → List NumberedEntry
    actors_of p = parts_from h p place.Actor 0 (actor_count s)

    whole : (p : Place) → flat_map (part h p) (places s) ≡ timers_of p ++ (cpus_of p ++ actors_of p)
    whole p =
        flat_map-append (part h p) (map place.Timer (range_with_len 0 (length s.timers))) (map place.Cpu (range_with_len 0 s.cpus) ++ map place.Actor (range_with_len 0 (actor_count s)))
        ∙ ap (λ xs. timers_of p ++ xs) (flat_map-append (part h p) (map place.Cpu (range_with_len 0 s.cpus)) (map place.Actor (range_with_len 0 (actor_count s))))

    -- the places of the place's own kind
    own : (p : Place) (kind : ℕ → Place) (i n : ℕ) → p ≡ kind i → ((k : ℕ) → same_place (kind k) p ≡ (k == i)) → place_exists s p ≡ nat_lt i n → parts_from h p kind 0 n ≡ h p
    own p kind i n is alike exists = go (nat_lt i n) refl where
      go : (b : Bool) → nat_lt i n ≡ b → parts_from h p kind 0 n ≡ h p
      go true less = among h p kind i alike 0 n (omega arith) (let l = ltb-true i n less in omega arith) ∙ ap h (sym is)
      go false not_less = below h p kind i alike 0 n (let l = ltb-false i n not_less in omega arith) ∙ sym (none p (exists ∙ not_less))

    gathered : (p : Place) → timers_of p ++ (cpus_of p ++ actors_of p) ≡ h p
    gathered (place.Timer i) =
        let p : Place = place.Timer i in
        ap (λ xs. xs ++ (cpus_of p ++ actors_of p)) (own p place.Timer i (length s.timers) refl (λ k. refl) refl)
        ∙ (ap (λ xs. h p ++ (xs ++ actors_of p)) (apart h p place.Cpu (λ k. refl) 0 s.cpus)
        ∙ (ap (λ xs. h p ++ xs) (apart h p place.Actor (λ k. refl) 0 (actor_count s)) ∙ append-nil (h p)))
    gathered (place.Cpu c) =
        let p : Place = place.Cpu c in
        ap (λ xs. xs ++ (cpus_of p ++ actors_of p)) (apart h p place.Timer (λ k. refl) 0 (length s.timers))
        ∙ (ap (λ xs. xs ++ actors_of p) (own p place.Cpu c s.cpus refl (λ k. refl) refl)
        ∙ (ap (λ xs. h p ++ xs) (apart h p place.Actor (λ k. refl) 0 (actor_count s)) ∙ append-nil (h p)))
    gathered (place.Actor a) =
        let p : Place = place.Actor a in
        ap (λ xs. xs ++ (cpus_of p ++ actors_of p)) (apart h p place.Timer (λ k. refl) 0 (length s.timers))
        ∙ (ap (λ xs. xs ++ actors_of p) (apart h p place.Cpu (λ k. refl) 0 s.cpus)
        ∙ own p place.Actor a (actor_count s) refl (λ k. refl) refl)

    pub sections_show : (k : ℕ) (p : Place) → map shown_line (lines_at p (lines_of_places h k (places s))) ≡ h p
    sections_show k p = of_sections h p k (places s) ∙ (whole p ∙ gathered p)
