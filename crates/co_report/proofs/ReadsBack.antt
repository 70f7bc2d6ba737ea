-- A printed report is read as its script and exactly its notes.
use Rattle.std.proofs.Common.{◌≡◌, ℕ, ◌+◌, ◌^◌, ◌<◌, ◌≤◌, true, false, ◌&&◌, List, [], ◌∷◌, ◌++◌, length, map, refl, ap, sym, ◌∙◌, arith, append_assoc, append-nil, decimal}
use Rattle.std.specs.Prelude.{Option, Some, None, Ok, ◌==◌, if◌then◌else◌, codes, bytes_eq}
use Rattle.std.specs.List.{AllByRecursion, flat_map}
use Rattle.std.specs.Char.{digit_value}
use Rattle.std.specs.Str.Parse.{AllDigits}
use Rattle.std.proofs.lemmas.Fmt.{decimal_is_IsNumeral}
use Rattle.std.proofs.lemmas.Bool.Decides.{nat_tests}
use Rattle.std.proofs.lemmas.Slice.Eq.{bytes_eq-Decides}
use Rattle.co_object.specs.declared.Place.{Place}
use Rattle.co_object.specs.declared.Place.TheVariants as place
use Rattle.co_program.specs.declared.Script.{Script}
use Rattle.co_text.specs.Fallible.{◌>>=◌, at_line}
use Rattle.co_text.specs.Lines.{Line, spaced}
use Rattle.co_text.specs.Values.{Word}
use Rattle.co_notes.proofs.PartSplits.{line_of}
use Rattle.co_grammar.specs.Spelling.{actor_word}
use Rattle.co_report.specs.declared.line.Line.{Line as NoteLine}
use Rattle.co_print.specs.Histories.{PlaceHistories}
use Rattle.co_notes.specs.declared.reading.notes.NumberedEntry.{NumberedEntry}
use Rattle.co_object.specs.Lists.{act_of, actor_of}
use Rattle.co_notes.specs.NoteTexts.{entry_words, shown_words}
use Rattle.co_print.specs.Reports.{heading, place_lines}
use Rattle.co_notes.specs.NoteFits.{ShownFits}
use Rattle.co_report.specs.Laws.{note_lines, lines_of_places, line_behind}
use Rattle.co_notes.specs.Parts.{joined}
use Rattle.co_report.specs.Reading.{Progress, closing_words, closed_by, with_note, note_read, line_after, histories_read}
use Rattle.co_notes.specs.NoteValues.{IsSmallScript}
use Rattle.co_notes.proofs.OneSpelling.{note-shown}

-- ---- a note is no heading

first-differs : (w rest v : List ℕ) (c : ℕ) → AllDigits 10 w → 0 < length w → 58 ≤ c → bytes_eq (w ++ rest) (c ∷ v) ≡ false
first-differs [] rest v c all some high = absurd (omega arith)
first-differs (d ∷ ds) rest v c all some high = ap (λ b. b && bytes_eq (ds ++ rest) v) (differs d c all.0 high) where
  differs : (d c : ℕ) → digit_value d < 10 → 58 ≤ c → (d == c) ≡ false
  differs d c digit high = grind (arith, nat_tests)

not-closing : (s : Script) (k : ℕ) (ws : List Word) (left : List Place) → k < 2 ^ 64 → bytes_eq (joined (decimal k ∷ ws)) (joined (closing_words s left)) ≡ false
not-closing s k ws [] h = let is = decimal_is_IsNumeral k h in first-differs (decimal k) (spaced ws) _ 101 is.0.1 is.0.0 (omega arith)
not-closing s k ws (place.Timer i ∷ ps) h = let is = decimal_is_IsNumeral k h in first-differs (decimal k) (spaced ws) _ 116 is.0.1 is.0.0 (omega arith)
not-closing s k ws (place.Cpu c ∷ ps) h = let is = decimal_is_IsNumeral k h in first-differs (decimal k) (spaced ws) _ 119 is.0.1 is.0.0 (omega arith)
not-closing s k ws (place.Actor a ∷ ps) h = let is = decimal_is_IsNumeral k h in first-differs (decimal k) (spaced ws) _ 97 is.0.1 is.0.0 (omega arith)

same-bytes : (bs : List ℕ) → bytes_eq bs bs ≡ true
same-bytes bs = (bytes_eq-Decides bs bs).1 refl

-- ---- the lines of the histories, one after the other

abbrev reached : Option Place → List Place → List NoteLine → Progress
reached p ps ls = record { current = p; left = ps; lines = ls; end = None }

module _ (s : Script) (small : IsSmallScript s) where
  -- a note of the open place
  note-step : (k : ℕ) (p : Place) (ps : List Place) (done : List NoteLine) (x : NumberedEntry) → ShownFits s p x
      → line_after s k (reached (Some p) ps done) (joined (shown_words s x)) ≡ Ok (reached (Some p) ps (done ++ record { line = k; place = p; number = x.number; entry = x.entry } ∷ []))
  note-step k p ps done x h =
      let d : Progress = reached (Some p) ps done in
      let bytes : List ℕ = joined (shown_words s x) in
      ap (λ b. if b then Ok (closed_by k d ps) else note_read s k d bytes) (not-closing s x.number ((actor_word s (actor_of x.entry) ++ 47 ∷ decimal (act_of x.entry)) ∷ entry_words x.entry) ps h.0)
      ∙ ap (λ r. r >>= λ y. Ok (with_note k d (Some p) y)) (note-shown s small p x h)

  notes-steps : (k : ℕ) (p : Place) (ps : List Place) (done : List NoteLine) (xs : List NumberedEntry) (more : List Line) → AllByRecursion (ShownFits s p) xs
      → histories_read s k (reached (Some p) ps done) (map line_of (map (shown_words s) xs) ++ more) ≡ histories_read s (k + length xs) (reached (Some p) ps (done ++ note_lines k p xs)) more
  notes-steps k p ps done [] more all =
      let e : k ≡ k + 0 = omega arith in
      ap (λ j. histories_read s j (reached (Some p) ps done) more) e ∙ ap (λ ls. histories_read s (k + 0) (reached (Some p) ps ls) more) (sym (append-nil done))
  notes-steps k p ps done (x ∷ xs) more all =
      let line : NoteLine = record { line = k; place = p; number = x.number; entry = x.entry } in
      let e : (k + 1) + length xs ≡ k + length (x ∷ xs) = omega arith in
      ap (λ r. at_line k r >>= λ d. histories_read s (k + 1) d (map line_of (map (shown_words s) xs) ++ more)) (note-step k p ps done x all.0)
      ∙ (notes-steps (k + 1) p ps (done ++ line ∷ []) xs more all.1
      ∙ (ap (λ j. histories_read s j (reached (Some p) ps ((done ++ line ∷ []) ++ note_lines (k + 1) p xs)) more) e
      ∙ ap (λ ls. histories_read s (k + length (x ∷ xs)) (reached (Some p) ps ls) more) (append_assoc done (line ∷ []) (note_lines (k + 1) p xs))))

  -- the heading of the next place
  heading-step : (k : ℕ) (c : Option Place) (p : Place) (ps : List Place) (done : List NoteLine) → line_after s k (reached c (p ∷ ps) done) (joined (heading s p)) ≡ Ok (reached (Some p) ps done)
  heading-step k c p ps done =
      let d : Progress = reached c (p ∷ ps) done in
      ap (λ b. if b then Ok (closed_by k d (p ∷ ps)) else note_read s k d (joined (heading s p))) (same-bytes (joined (heading s p)))

  abbrev pub sections : PlaceHistories → List Place → List (List Word)
  sections h ps = flat_map (place_lines s h) ps

  pub sections-steps : (h : PlaceHistories) (k : ℕ) (c : Option Place) (ps : List Place) (done : List NoteLine) → AllByRecursion (λ p. AllByRecursion (ShownFits s p) (h p)) ps
      → histories_read s k (reached c ps done) (map line_of (sections h ps ++ (codes "end" ∷ []) ∷ []))
      ≡ Ok (record { current = None; left = []; lines = done ++ lines_of_places h k ps; end = Some (line_behind h k ps) })
  sections-steps h k c [] done all = ap (λ ls. Ok (record { current = None; left = []; lines = ls; end = Some k })) (sym (append-nil done))
  sections-steps h k c (p ∷ ps) done all =
      let rest : List (List Word) = sections h ps ++ (codes "end" ∷ []) ∷ [] in
      let lines : List Line = map line_of (map (shown_words s) (h p)) in
      let e : (k + 1) + length (h p) ≡ k + 1 + length (h p) = refl in
      ap (λ ls. histories_read s k (reached c (p ∷ ps) done) (line_of (heading s p) ∷ ls)) (split-lines (map (shown_words s) (h p)) (sections h ps))
      ∙ (ap (λ r. at_line k r >>= λ d. histories_read s (k + 1) d (lines ++ map line_of rest)) (heading-step k c p ps done)
      ∙ (notes-steps (k + 1) p ps done (h p) (map line_of rest) all.0
      ∙ (sections-steps h (k + 1 + length (h p)) (Some p) ps (done ++ note_lines (k + 1) p (h p)) all.1
      ∙ ap (λ ls. Ok (record { current = None; left = []; lines = ls; end = Some (line_behind h k (p ∷ ps)) })) (append_assoc done (note_lines (k + 1) p (h p)) (lines_of_places h (k + 1 + length (h p)) ps)))))
    where
      map-both : (xs ys : List (List Word)) → map line_of (xs ++ ys) ≡ map line_of xs ++ map line_of ys
      map-both [] ys = refl
      map-both (x ∷ xs) ys = ap (λ l. line_of x ∷ l) (map-both xs ys)

      split-lines : (xs ys : List (List Word)) → map line_of ((xs ++ ys) ++ (codes "end" ∷ []) ∷ []) ≡ map line_of xs ++ map line_of (ys ++ (codes "end" ∷ []) ∷ [])
      split-lines xs ys = ap (map line_of) (append_assoc xs ys ((codes "end" ∷ []) ∷ [])) ∙ map-both xs (ys ++ (codes "end" ∷ []) ∷ [])
