-- What a report's text stands for fits: the script, and each line in a place of it.
use Rattle.std.proofs.Common.{◌≡◌, ℕ, ◌+◌, true, List, [], ◌∷◌, ◌++◌, length, ap, subst}
use Rattle.std.specs.Prelude.{Option, Some, None, Result, Ok, Err, IfSome, nat_le, bytes_eq}
use Rattle.std.specs.List.{AllByRecursion}
use Rattle.co_object.specs.declared.Place.{Place}
use Rattle.co_program.specs.declared.Script.{Script}
use Rattle.co_program.specs.Places.{place_exists}
use Rattle.co_text.specs.Fallible.{◌>>=◌, unless, some_or, at_line}
use Rattle.co_text.specs.Lines.{Line, lines_of}
use Rattle.co_text.specs.declared.cause.Cause.{Cause}
use Rattle.co_text.specs.declared.cause.Cause.TheVariants as cause
use Rattle.co_script.specs.Reading.{script_of}
use Rattle.co_script.specs.Canonical.{canonical}
use Rattle.co_script.specs.Fits.{fits}
use Rattle.co_script.proofs.told.Steps.{bind-ok, cond-ok}
use Rattle.co_script.proofs.ReadFits.{read-fits}
use Rattle.co_report.specs.declared.line.Line.{Line as NoteLine}
use Rattle.co_report.specs.declared.line.Report.{Report}
use Rattle.co_notes.specs.NoteValues.{names_of, IsSmallScript}
use Rattle.co_notes.specs.NoteForms.{shown_note}
use Rattle.co_report.specs.LineFits.{LineFits}
use Rattle.co_report.specs.Laws.{ReportFits, ReadReportsFit}
use Rattle.co_notes.specs.Parts.{joined}
use Rattle.co_report.specs.Reading.{none_cut, first_line, Halves, halves, in_report, same_lines, Progress, closing_words, closed_by, with_note, note_read, line_read, line_after, histories_read, first_progress, reads_on, end_read, notes_read, halves_read, lines_report, report_read}
use Rattle.co_notes.proofs.OneSpelling.{small_script, note-read}
use Rattle.co_report.proofs.ScriptLines.{in_report-ok}
use Rattle.co_report.proofs.WholeBack.{each-place}

at_line-ok : {X : Type 0} (k : ℕ) (r : Result X Cause) (x : X) → at_line k r ≡ Ok x → r ≡ Ok x
at_line-ok k (Ok y) x h = let same : y ≡ x = cc in ap (λ z. Ok z) same
at_line-ok k (Err c) x h = cc

module _ (s : Script) (small : IsSmallScript s) where
  -- the places exist, and the lines so far fit
  pub record Stands (d : Progress) : Type 0 where
    pub current : IfSome d.current (λ p. place_exists s p ≡ true)
    pub left : AllByRecursion (λ p. place_exists s p ≡ true) d.left
    pub lines : AllByRecursion (LineFits s) d.lines

  more-lines : (xs : List NoteLine) (x : NoteLine) → AllByRecursion (LineFits s) xs → LineFits s x → AllByRecursion (LineFits s) (xs ++ x ∷ [])
  more-lines [] x a b = (b, tt)
  more-lines (y ∷ ys) x a b = (a.0, more-lines ys x a.1 b)

  closed-stands : (k : ℕ) (d : Progress) (left : List Place) → AllByRecursion (λ p. place_exists s p ≡ true) left → Stands d → Stands (closed_by k d left)
  closed-stands k d [] l h = record { current = tt; left = h.left; lines = h.lines }
  closed-stands k d (p ∷ ps) l h = record { current = l.0; left = l.1; lines = h.lines }

  note-stands : (k : ℕ) (c : Option Place) (left : List Place) (done : List NoteLine) (last : Option ℕ) (line : List ℕ) (e : Progress)
      → Stands (record { current = c; left = left; lines = done; end = last }) → note_read s k (record { current = c; left = left; lines = done; end = last }) line ≡ Ok e → Stands e
  note-stands k None left done last line e h r = cc
  note-stands k (Some p) left done last line e h r =
      let d : Progress = record { current = Some p; left = left; lines = done; end = last } in
      let x = bind-ok (shown_note (names_of s) (Some p) line) (λ y. Ok (with_note k d (Some p) y)) e r in
      let t = note-read s small p line x.0 x.1 in
      let same : with_note k d (Some p) x.0 ≡ e = cc in
      subst (λ (f : Progress). Stands f) same (record {
        current = h.current;
        left = h.left;
        lines = more-lines done (record { line = k; place = p; number = x.0.number; entry = x.0.entry }) h.lines (record { place = h.current; number = t.0.0; entry = t.0.1 });
      })

  pub line-stands : (k : ℕ) (d e : Progress) (line : List ℕ) → Stands d → line_after s k d line ≡ Ok e → Stands e
  line-stands k d e line h r =
      let b = bind-ok (unless (reads_on d.end) cause.Note) (λ _. line_read s k d line) e r in
      cond-ok (Stands e) (bytes_eq line (joined (closing_words s d.left))) (Ok (closed_by k d d.left)) (note_read s k d line) e
      (λ _ m. let same : closed_by k d d.left ≡ e = cc in subst (λ (f : Progress). Stands f) same (closed-stands k d d.left h.left h))
      (λ m. note-stands k d.current d.left d.lines d.end line e h m)
      b.2

  all-stand : (k : ℕ) (d e : Progress) (ls : List Line) → Stands d → histories_read s k d ls ≡ Ok e → Stands e
  all-stand k d e [] h r = let same : d ≡ e = cc in subst (λ (f : Progress). Stands f) same h
  all-stand k d e (l ∷ ls) h r =
      let x = bind-ok (at_line k (line_after s k d l.bytes)) (λ y. histories_read s (k + 1) y ls) e r in
      all-stand (k + 1) x.0 e ls (line-stands k d x.0 l.bytes h (at_line-ok k (line_after s k d l.bytes) x.0 x.1)) x.2

  opening-stands : Stands (first_progress s)
  opening-stands = record { current = tt; left = each-place s (λ p. place_exists s p ≡ true) (λ p h. h); lines = tt }

  notes-fit : fits s ≡ true → (k : ℕ) (ls : List Line) (r : Report) → notes_read s k ls ≡ Ok r → ReportFits r
  notes-fit f k ls r h =
      let d = bind-ok (histories_read s k (first_progress s) ls) (λ d. end_read (k + length ls) d >>= λ e. Ok (record { script = s; lines = d.lines; end = e })) r h in
      let e = bind-ok (end_read (k + length ls) d.0) (λ e. Ok (record { script = s; lines = d.0.lines; end = e })) r d.2 in
      let same : ◌≡◌ {A = Report} (record { script = s; lines = d.0.lines; end = e.0 }) r = cc in
      subst (λ (q : Report). ReportFits q) same (record { script = f; lines = (all-stand k (first_progress s) d.0 ls opening-stands d.1).lines })

halves-fit : (h : Halves) (r : Report) → halves_read h ≡ Ok r → ReportFits r
halves-fit h r e =
    let s = bind-ok (in_report (script_of h.script)) (λ s. same_lines 2 (lines_of h.script) (lines_of (canonical s)) >>= λ _. notes_read s (h.count + 3) h.notes) r e in
    let c = bind-ok (same_lines 2 (lines_of h.script) (lines_of (canonical s.0))) (λ _. notes_read s.0 (h.count + 3) h.notes) r s.2 in
    let f : fits s.0 ≡ true = read-fits h.script s.0 (in_report-ok (script_of h.script) s.0 s.1) in
    notes-fit s.0 (small_script s.0 f) f (h.count + 3) h.notes r c.2

lines-fit : (ls : List Line) (r : Report) → lines_report ls ≡ Ok r → ReportFits r
lines-fit ls r e =
    let a = bind-ok (none_cut 1 ls) (λ _. first_line ls >>= λ others. at_line 0 (some_or (halves others) cause.Note) >>= halves_read) r e in
    let b = bind-ok (first_line ls) (λ others. at_line 0 (some_or (halves others) cause.Note) >>= halves_read) r a.2 in
    let h = bind-ok (at_line 0 (some_or (halves b.0) cause.Note)) halves_read r b.2 in
    halves-fit h.0 r h.2

pub read_reports_fit : ReadReportsFit
unfolding report_read
read_reports_fit bytes r e =
    let a = bind-ok (at_line 0 (unless (nat_le (length bytes) 268435456) cause.Size)) (λ _. lines_report (lines_of bytes)) r e in
    lines-fit (lines_of bytes) r a.2
