-- A report has no more notes than its text has lines, and so no more than it has bytes.
use Rattle.std.proofs.Common.{◌≡◌, ℕ, ◌+◌, ◌≤◌, Bool, true, false, List, [], ◌∷◌, ◌++◌, length, refl, ap, subst, arith, length-append}
use Rattle.std.specs.Prelude.{Option, Some, None, Result, Ok, Err, nat_le, bytes_eq, codes, if◌then◌else◌}
use Rattle.std.specs.Option.{option_map}
use Rattle.std.proofs.lemmas.Bool.Decides.{nat_tests}
use Rattle.co_object.specs.declared.Place.{Place}
use Rattle.co_program.specs.declared.Script.{Script}
use Rattle.co_text.specs.Fallible.{◌>>=◌, unless, some_or, at_line}
use Rattle.co_text.specs.Lines.{Line, lines_of}
use Rattle.co_text.specs.declared.cause.Cause.{Cause}
use Rattle.co_text.specs.declared.cause.Cause.TheVariants as cause
use Rattle.co_script.specs.Reading.{script_of}
use Rattle.co_script.specs.Canonical.{canonical}
use Rattle.co_script.proofs.told.Steps.{bind-ok, cond-ok}
use Rattle.co_report.specs.declared.line.Line.{Line as NoteLine}
use Rattle.co_report.specs.declared.line.Report.{Report}
use Rattle.co_notes.specs.NoteValues.{names_of}
use Rattle.co_notes.specs.NoteForms.{shown_note}
use Rattle.co_notes.specs.Parts.{joined}
use Rattle.co_report.specs.Reading.{none_cut, first_line, is_line, line_before, Halves, halves, in_report, same_lines, Progress, closing_words, closed_by, with_note, note_read, line_read, line_after, histories_read, first_progress, reads_on, end_read, notes_read, halves_read, lines_report, report_read}
use Rattle.co_report.proofs.ScriptLines.{lines-few}

at_line-ok : {X : Type 0} (k : ℕ) (r : Result X Cause) (x : X) → at_line k r ≡ Ok x → r ≡ Ok x
at_line-ok k (Ok y) x h = let same : y ≡ x = cc in ap (λ z. Ok z) same
at_line-ok k (Err c) x h = cc

module _ (s : Script) where
  pub closed-lines : (k : ℕ) (d : Progress) (left : List Place) → (closed_by k d left).lines ≡ d.lines
  closed-lines k d [] = refl
  closed-lines k d (p ∷ ps) = refl

  note-few : (k : ℕ) (c : Option Place) (left : List Place) (done : List NoteLine) (last : Option ℕ) (line : List ℕ) (e : Progress)
      → note_read s k (record { current = c; left = left; lines = done; end = last }) line ≡ Ok e → length e.lines ≤ length done + 1
  note-few k None left done last line e r = cc
  note-few k (Some p) left done last line e r =
      let d : Progress = record { current = Some p; left = left; lines = done; end = last } in
      let x = bind-ok (shown_note (names_of s) (Some p) line) (λ y. Ok (with_note k d (Some p) y)) e r in
      let l : NoteLine = record { line = k; place = p; number = x.0.number; entry = x.0.entry } in
      let same : with_note k d (Some p) x.0 ≡ e = cc in
      let grown : length (done ++ l ∷ []) ≡ length done + 1 = length-append done (l ∷ []) in
      let few : length (done ++ l ∷ []) ≤ length done + 1 = omega (arith, grown) in
      subst (λ (f : Progress). length f.lines ≤ length done + 1) same few

  pub line-few : (k : ℕ) (d e : Progress) (line : List ℕ) → line_after s k d line ≡ Ok e → length e.lines ≤ length d.lines + 1
  line-few k d e line r =
      let b = bind-ok (unless (reads_on d.end) cause.Note) (λ _. line_read s k d line) e r in
      cond-ok (length e.lines ≤ length d.lines + 1) (bytes_eq line (joined (closing_words s d.left))) (Ok (closed_by k d d.left)) (note_read s k d line) e
      (λ _ m. let same : closed_by k d d.left ≡ e = cc in
      let lines : (closed_by k d d.left).lines ≡ d.lines = closed-lines k d d.left in
      let few : length (closed_by k d d.left).lines ≤ length d.lines + 1 = omega (arith, ap length lines) in
      subst (λ (f : Progress). length f.lines ≤ length d.lines + 1) same few)
      (λ m. note-few k d.current d.left d.lines d.end line e m)
      b.2

  all-few : (k : ℕ) (d e : Progress) (ls : List Line) → histories_read s k d ls ≡ Ok e → length e.lines ≤ length d.lines + length ls
  all-few k d e [] r =
      let same : d ≡ e = cc in
      let few : length d.lines ≤ length d.lines + 0 = omega arith in
      subst (λ (f : Progress). length f.lines ≤ length d.lines + 0) same few
  all-few k d e (l ∷ ls) r =
      let x = bind-ok (at_line k (line_after s k d l.bytes)) (λ y. histories_read s (k + 1) y ls) e r in
      let one : length x.0.lines ≤ length d.lines + 1 = line-few k d x.0 l.bytes (at_line-ok k (line_after s k d l.bytes) x.0 x.1) in
      let more : length e.lines ≤ length x.0.lines + length ls = all-few (k + 1) x.0 e ls x.2 in
      omega arith

  notes-few : (k : ℕ) (ls : List Line) (r : Report) → notes_read s k ls ≡ Ok r → length r.lines ≤ length ls
  notes-few k ls r h =
      let d = bind-ok (histories_read s k (first_progress s) ls) (λ d. end_read (k + length ls) d >>= λ e. Ok (record { script = s; lines = d.lines; end = e })) r h in
      let e = bind-ok (end_read (k + length ls) d.0) (λ e. Ok (record { script = s; lines = d.0.lines; end = e })) r d.2 in
      let same : ◌≡◌ {A = Report} (record { script = s; lines = d.0.lines; end = e.0 }) r = cc in
      let sum : length d.0.lines ≤ 0 + length ls = all-few k (first_progress s) d.0 ls d.1 in
      let few : length d.0.lines ≤ length ls = omega (arith, sum) in
      subst (λ (q : Report). length q.lines ≤ length ls) same few

halves-few : (ls : List Line) (h : Halves) → halves ls ≡ Some h → length h.notes ≤ length ls
halves-few [] h e = cc
halves-few (l ∷ ls) h e = go (is_line (codes "histories") l) (halves ls) (halves-few ls) e where
  go : (b : Bool) (rest : Option Halves) → ((g : Halves) → rest ≡ Some g → length g.notes ≤ length ls)
      → (if b then Some (record { script = []; count = 0; notes = ls }) else option_map (line_before l) rest) ≡ Some h → length h.notes ≤ length (l ∷ ls)
  go true rest few e =
      let same : ◌≡◌ {A = Halves} (record { script = []; count = 0; notes = ls }) h = cc in
      let here : length ls ≤ length (l ∷ ls) = omega arith in
      subst (λ (g : Halves). length g.notes ≤ length (l ∷ ls)) same here
  go false None few e = cc
  go false (Some g) few e =
      let same : line_before l g ≡ h = cc in
      let there : length g.notes ≤ length ls = few g refl in
      let here : length g.notes ≤ length (l ∷ ls) = omega arith in
      subst (λ (x : Halves). length x.notes ≤ length (l ∷ ls)) same here

first-few : (ls others : List Line) → first_line ls ≡ Ok others → length others ≤ length ls
first-few [] others e = cc
first-few (l ∷ ls) others e =
    let b = bind-ok (at_line 1 (unless (is_line (codes "callout-report 1") l) cause.Version)) (λ _. Ok ls) others e in
    let same : ls ≡ others = cc in
    let here : length ls ≤ length (l ∷ ls) = omega arith in
    subst (λ (x : List Line). length x ≤ length (l ∷ ls)) same here

some-ok : {X : Type 0} (k : ℕ) (o : Option X) (x : X) (c : Cause) → at_line k (some_or o c) ≡ Ok x → o ≡ Some x
some-ok k None x c e = cc
some-ok k (Some y) x c e = let same : y ≡ x = cc in ap (λ z. Some z) same

lines-read-few : (ls : List Line) (r : Report) → lines_report ls ≡ Ok r → length r.lines ≤ length ls
lines-read-few ls r e =
    let a = bind-ok (none_cut 1 ls) (λ _. first_line ls >>= λ others. at_line 0 (some_or (halves others) cause.Note) >>= halves_read) r e in
    let b = bind-ok (first_line ls) (λ others. at_line 0 (some_or (halves others) cause.Note) >>= halves_read) r a.2 in
    let h = bind-ok (at_line 0 (some_or (halves b.0) cause.Note)) halves_read r b.2 in
    let s = bind-ok (in_report (script_of h.0.script)) (λ s. same_lines 2 (lines_of h.0.script) (lines_of (canonical s)) >>= λ _. notes_read s (h.0.count + 3) h.0.notes) r h.2 in
    let c = bind-ok (same_lines 2 (lines_of h.0.script) (lines_of (canonical s.0))) (λ _. notes_read s.0 (h.0.count + 3) h.0.notes) r s.2 in
    let notes : length r.lines ≤ length h.0.notes = notes-few s.0 (h.0.count + 3) h.0.notes r c.2 in
    let half : length h.0.notes ≤ length b.0 = halves-few b.0 h.0 (some-ok 0 (halves b.0) h.0 cause.Note h.1) in
    let first : length b.0 ≤ length ls = first-few ls b.0 b.1 in
    omega arith

pub notes_few : (bytes : List ℕ) (r : Report) → report_read bytes ≡ Ok r → length r.lines ≤ length bytes
unfolding report_read
notes_few bytes r e =
    let a = bind-ok (at_line 0 (unless (nat_le (length bytes) 268435456) cause.Size)) (λ _. lines_report (lines_of bytes)) r e in
    let lines : length r.lines ≤ length (lines_of bytes) = lines-read-few (lines_of bytes) r a.2 in
    let bytes_of : length (lines_of bytes) ≤ length bytes = lines-few bytes in
    omega arith

-- and so no more than a report may have bytes
short-enough : (short : Bool) (u : Bool) → at_line 0 (unless short cause.Size) ≡ Ok u → short ≡ true
short-enough true u e = refl
short-enough false u e = cc

pub lines_limited : (bytes : List ℕ) (r : Report) → report_read bytes ≡ Ok r → length r.lines ≤ 268435456
unfolding report_read
lines_limited bytes r e =
    let a = bind-ok (at_line 0 (unless (nat_le (length bytes) 268435456) cause.Size)) (λ _. lines_report (lines_of bytes)) r e in
    let short : nat_le (length bytes) 268435456 ≡ true = short-enough (nat_le (length bytes) 268435456) a.0 a.1 in
    let few : length r.lines ≤ length bytes = notes_few bytes r e in
    grind (arith, nat_tests)
