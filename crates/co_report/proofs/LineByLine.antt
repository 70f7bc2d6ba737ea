-- Histories line by line: what a line does to what is ahead.
use Rattle.std.proofs.Common.{◌≡◌, ℕ, ◌+◌, ◌-◌, ◌<◌, ◌≤◌, ◌^◌, Bool, true, false, List, [], ◌∷◌, ◌++◌, length, take, drop, refl, ap, sym, subst, ◌∙◌, arith, append_assoc}
use Rattle.std.specs.Prelude.{Option, Some, None, Result, Ok, Err, IfSome, bytes_eq, if◌then◌else◌}
use Rattle.std.specs.List.{AllByRecursion}
use Rattle.std.proofs.lemmas.List.{length-take-le}
use Rattle.co_object.specs.declared.Place.{Place}
use Rattle.co_program.specs.declared.Script.{Script}
use Rattle.co_program.specs.Places.{place_exists}
use Rattle.co_text.specs.Fallible.{◌>>=◌, ◌>>◌, unless, some_or, Refusal, at_line}
use Rattle.co_text.specs.Lines.{Line, lines_of}
use Rattle.co_text.specs.declared.cause.Cause.{Cause}
use Rattle.co_text.specs.declared.cause.Cause.TheVariants as cause
use Rattle.co_script.specs.Reading.{script_of}
use Rattle.co_script.specs.Canonical.{canonical}
use Rattle.co_script.proofs.told.Steps.{bind-ok, cond-ok}
use Rattle.co_report.specs.declared.line.Line.{Line as NoteLine}
use Rattle.co_notes.specs.declared.reading.notes.NumberedEntry.{NumberedEntry}
use Rattle.co_notes.specs.NoteValues.{names_of, IsSmallScript}
use Rattle.co_notes.specs.NoteForms.{shown_note}
use Rattle.co_report.specs.LineFits.{LineFits}
use Rattle.co_notes.specs.Parts.{joined}
use Rattle.co_report.specs.Reading.{Halves, Progress, in_report, same_lines, halves_read, closing_words, closed_by, with_note, note_read, line_read, line_after, histories_read, first_progress, reads_on, end_read, notes_read}
use Rattle.co_report.proofs.ReadLines.{closed-lines}
use Rattle.co_report.proofs.ReadFit.{Stands, line-stands}
use Rattle.co_report.proofs.LinesWhole.{whole_more, whole_start}
use Rattle.co_report.proofs.WholeBack.{each-place}
use Rattle.co_print.specs.Reports.{places}
use Rattle.co_report.specs.declared.reading.line_by_line.Reader.{Reader}
use Rattle.co_report.specs.declared.reading.progress.Progress.{Progress as Kept}
use Rattle.co_report.specs.ReadingViews.{so_far, with_line, IsReaderReady, IsSetting}
use Rattle.co_report.specs.LineByLine.{ended_at, ahead_from, behind, report_of_all, bytes_of_first, line_at, standing, IsReading, ReadsOn, IsFound}
use Rattle.std.specs.Borrow.{Bor}

-- these lines in front of those so far
abbrev pub fronted : List NoteLine → Progress → Progress
fronted front d = record { current = d.current; left = d.left; lines = front ++ d.lines; end = d.end }

abbrev all_fronted : List NoteLine → Result Progress Cause → Result Progress Cause
all_fronted front (Ok d) = Ok (fronted front d)
all_fronted front (Err c) = Err c

closed-front : (front : List NoteLine) (k : ℕ) (d : Progress) (left : List Place) → closed_by k (fronted front d) left ≡ fronted front (closed_by k d left)
closed-front front k d [] = refl
closed-front front k d (p ∷ ps) = refl

note-front : (front : List NoteLine) (k : ℕ) (d : Progress) (p : Option Place) (r : Result NumberedEntry Cause)
    → (r >>= λ x. Ok (with_note k (fronted front d) p x)) ≡ all_fronted front (r >>= λ x. Ok (with_note k d p x))
note-front front k d None (Ok x) = refl
note-front front k d (Some p) (Ok x) =
    let l : NoteLine = record { line = k; place = p; number = x.number; entry = x.entry } in
    ap (λ ls. Ok (record { current = d.current; left = d.left; lines = ls; end = d.end })) (append_assoc front d.lines (l ∷ []))
note-front front k d None (Err c) = refl
note-front front k d (Some p) (Err c) = refl

module _ (s : Script) where
  read-front : (front : List NoteLine) (k : ℕ) (d : Progress) (line : List ℕ) → line_read s k (fronted front d) line ≡ all_fronted front (line_read s k d line)
  read-front front k d line = go (bytes_eq line (joined (closing_words s d.left))) where
    go : (b : Bool) → (if b then Ok (closed_by k (fronted front d) d.left) else note_read s k (fronted front d) line) ≡ all_fronted front (if b then Ok (closed_by k d d.left) else note_read s k d line)
    go true = ap (λ e. Ok e) (closed-front front k d d.left)
    go false = note-front front k d d.current (shown_note (names_of s) d.current line)

  line-front : (front : List NoteLine) (k : ℕ) (d : Progress) (line : List ℕ) → line_after s k (fronted front d) line ≡ all_fronted front (line_after s k d line)
  line-front front k d line = go (reads_on d.end) where
    go : (b : Bool) → (unless b cause.Note >>= λ _. line_read s k (fronted front d) line) ≡ all_fronted front (unless b cause.Note >>= λ _. line_read s k d line)
    go true = read-front front k d line
    go false = refl

  -- a line, and what is ahead then
  pub ahead-step : (k : ℕ) (d : Progress) (l : Line) (ls : List Line) → ahead_from s k d (l ∷ ls) ≡ (at_line k (line_after s k d l.bytes) >>= λ e. ahead_from s (k + 1) e ls)
  ahead-step k d l ls = go (at_line k (line_after s k d l.bytes)) where
    go : (r : Result Progress Refusal) → ((r >>= λ e. histories_read s (k + 1) e ls) >>= ended_at (k + length (l ∷ ls))) ≡ (r >>= λ e. ahead_from s (k + 1) e ls)
    go (Ok e) = let n : k + length (l ∷ ls) ≡ (k + 1) + length ls = omega arith in ap (λ n. histories_read s (k + 1) e ls >>= ended_at n) n
    go (Err c) = refl

  end-front : (front : List NoteLine) (k : ℕ) (d : Progress) → ended_at k (fronted front d) ≡ behind front (ended_at k d)
  end-front front k d = go d.end where
    go : (o : Option ℕ) → (at_line k (some_or o cause.Note) >>= λ end. Ok (record { lines = front ++ d.lines; end = end })) ≡ behind front (at_line k (some_or o cause.Note) >>= λ end. Ok (record { lines = d.lines; end = end }))
    go (Some n) = refl
    go None = refl

  -- lines so far stand in front of what is ahead
  pub ahead-front : (front : List NoteLine) (k : ℕ) (d : Progress) (ls : List Line) → ahead_from s k (fronted front d) ls ≡ behind front (ahead_from s k d ls)
  ahead-front front k d [] = end-front front (k + 0) d
  ahead-front front k d (l ∷ ls) =
      ahead-step k (fronted front d) l ls
      ∙ (ap (λ r. at_line k r >>= λ e. ahead_from s (k + 1) e ls) (line-front front k d l.bytes)
      ∙ (go (line_after s k d l.bytes) (λ e. ahead-front front (k + 1) e ls)
      ∙ ap (behind front) (sym (ahead-step k d l ls)))) where
        go : (r : Result Progress Cause) → ((e : Progress) → ahead_from s (k + 1) (fronted front e) ls ≡ behind front (ahead_from s (k + 1) e ls))
            → (at_line k (all_fronted front r) >>= λ e. ahead_from s (k + 1) e ls) ≡ behind front (at_line k r >>= λ e. ahead_from s (k + 1) e ls)
        go (Ok e) on = on e
        go (Err c) on = refl

  -- a line that shows no note, and one that shows a note
  pub ahead-quiet : (k : ℕ) (d e : Progress) (l : Line) (ls : List Line) → line_after s k d l.bytes ≡ Ok e → ahead_from s (k + 1) e ls ≡ ahead_from s k d (l ∷ ls)
  ahead-quiet k d e l ls h = sym (ahead-step k d l ls ∙ ap (λ r. at_line k r >>= λ e. ahead_from s (k + 1) e ls) h)

  pub ahead-note : (k : ℕ) (d e : Progress) (x : NoteLine) (l : Line) (ls : List Line) → line_after s k d l.bytes ≡ Ok (fronted (x ∷ []) e) → ahead_from s k d (l ∷ ls) ≡ behind (x ∷ []) (ahead_from s (k + 1) e ls)
  ahead-note k d e x l ls h = ahead-step k d l ls ∙ (ap (λ r. at_line k r >>= λ e. ahead_from s (k + 1) e ls) h ∙ ahead-front (x ∷ []) (k + 1) e ls)

  -- the whole
  notes-ahead : (k : ℕ) (ls : List Line) → notes_read s k ls ≡ report_of_all s (ahead_from s k (first_progress s) ls)
  notes-ahead k ls = go (histories_read s k (first_progress s) ls) where
    last : (d : Progress) (r : Result ℕ Refusal) → (r >>= λ end. Ok (record { script = s; lines = d.lines; end = end })) ≡ report_of_all s (r >>= λ end. Ok (record { lines = d.lines; end = end }))
    last d (Ok end) = refl
    last d (Err e) = refl

    go : (r : Result Progress Refusal) → (r >>= λ d. end_read (k + length ls) d >>= λ end. Ok (record { script = s; lines = d.lines; end = end })) ≡ report_of_all s (r >>= ended_at (k + length ls))
    go (Ok d) = last d (end_read (k + length ls) d)
    go (Err e) = refl

  -- behind a script that is read
  pub halves-ahead : (h : Halves) → in_report (script_of h.script) ≡ Ok s → same_lines 2 (lines_of h.script) (lines_of (canonical s)) ≡ Ok true
      → halves_read h ≡ report_of_all s (ahead_from s (h.count + 3) (first_progress s) h.notes)
  halves-ahead h read same =
      ap (λ r. r >>= λ t. same_lines 2 (lines_of h.script) (lines_of (canonical t)) >> notes_read t (h.count + 3) h.notes) read
      ∙ (ap (λ r. r >> notes_read s (h.count + 3) h.notes) same
      ∙ notes-ahead (h.count + 3) h.notes)

-- ---- the note that a line shows

module _ (s : Script) where
  pub record Shows (k : ℕ) (bytes : List ℕ) (x : NoteLine) : Type 0 where
    pub line : x.line ≡ k
    pub note : shown_note (names_of s) (Some x.place) bytes ≡ Ok (record { number = x.number; entry = x.entry })

  note-shown : (k : ℕ) (c : Option Place) (left : List Place) (last : Option ℕ) (line : List ℕ) (e : Progress) (x : NoteLine)
      → note_read s k (record { current = c; left = left; lines = []; end = last }) line ≡ Ok e → e.lines ≡ x ∷ [] → Shows k line x
  note-shown k None left last line e x r one = cc
  note-shown k (Some p) left last line e x r one =
      let d : Progress = record { current = Some p; left = left; lines = []; end = last } in
      let y = bind-ok (shown_note (names_of s) (Some p) line) (λ y. Ok (with_note k d (Some p) y)) e r in
      let l : NoteLine = record { line = k; place = p; number = y.0.number; entry = y.0.entry } in
      let same : with_note k d (Some p) y.0 ≡ e = cc in
      let lines : l ∷ [] ≡ x ∷ [] = ap (λ (f : Progress). f.lines) same ∙ one in
      let this : l ≡ x = cc in
      subst (λ (z : NoteLine). Shows k line z) this (record { line = refl; note = y.1 })

  pub line-shown : (k : ℕ) (d e : Progress) (line : List ℕ) (x : NoteLine) → d.lines ≡ [] → line_after s k d line ≡ Ok e → e.lines ≡ x ∷ [] → Shows k line x
  line-shown k d e line x none r one =
      let b = bind-ok (unless (reads_on d.end) cause.Note) (λ _. line_read s k d line) e r in
      cond-ok (Shows k line x) (bytes_eq line (joined (closing_words s d.left))) (Ok (closed_by k d d.left)) (note_read s k d line) e
      (λ _ m. let same : closed_by k d d.left ≡ e = cc in
      let lines : x ∷ [] ≡ [] = sym one ∙ (sym (ap (λ (f : Progress). f.lines) same) ∙ (closed-lines s k d d.left ∙ none)) in
      cc)
      (λ m. note-shown k d.current d.left d.end line e x (subst (λ ls. note_read s k (record { current = d.current; left = d.left; lines = ls; end = d.end }) line ≡ Ok e) none m) one)
      b.2

-- ---- the text

drop-front : (xs ys : List ℕ) → drop (length xs) (xs ++ ys) ≡ ys
drop-front [] ys = refl
drop-front (x ∷ xs) ys = drop-front xs ys

-- what is left of a text is what stands behind its first bytes
pub rest-of : (text rest : List ℕ) → length rest ≤ length text → text ≡ take (length text - length rest) text ++ rest → drop (length text - length rest) text ≡ rest
rest-of text rest within whole =
    let n : ℕ = length text - length rest in
    let long : length (take n text) ≡ n = length-take-le n text (omega arith) in
    ap (λ t. drop n t) whole ∙ (ap (λ m. drop m (take n text ++ rest)) (sym long) ∙ drop-front (take n text) rest)

-- ---- a reader that goes on

module _ (x : Reader) (p : Kept) (rest : Bor (List ℕ)) (l : Line) where
  abbrev s : Script
  s = x.setting.script.now

  abbrev d : Progress
  d = so_far x.setting x.progress

  abbrev e : Progress
  e = so_far x.setting p

  -- the reader behind the line
  abbrev pub further : Reader
  further = record { setting = x.setting; text = x.text; progress = p; rest = rest; number = x.number + 1 }

  -- the line is the next one, it shows this note or none, and nothing of it is kept
  pub record IsPassed (found : Option NoteLine) : Type 0 where
    pub reading : IsReading x
    pub next : lines_of x.rest.now ≡ l ∷ lines_of rest.now
    pub shorter : length rest.now < length x.rest.now
    pub value : line_after s x.number d l.bytes ≡ Ok (with_line e found)
    pub ready : IsReaderReady x.setting p
    pub none : p.lines ≡ []

  no-lines : (ls : List NoteLine) → ls ≡ [] → AllByRecursion (LineFits s) ls
  no-lines [] h = tt
  no-lines (y ∷ ys) h = cc

  stands-then : (found : Option NoteLine) (h : IsPassed found) → Stands s h.reading.small (with_line e found)
  stands-then found h =
      line-stands s h.reading.small x.number d (with_line e found) l.bytes (record { current = h.reading.current; left = h.reading.left; lines = no-lines d.lines h.reading.none }) h.value

  goes-on : (found : Option NoteLine) → IsPassed found → ReadsOn x further
  goes-on found h =
      let stands = stands-then found h in
      record {
        reading = record {
          small = h.reading.small;
          setting = h.reading.setting;
          ready = h.ready;
          none = h.none;
          current = stands.current;
          left = stands.left;
          few = omega (arith, h.reading.few, h.shorter);
          long = h.reading.long;
          within = omega (arith, h.reading.within, h.shorter);
          whole = whole_more x.text.now x.rest.now rest.now l h.reading.whole h.next;
        };
        script = refl;
        text = refl;
        bytes = h.shorter;
      }

  without : e.lines ≡ [] → with_line e None ≡ e
  without none = ap (λ ls. record { current = e.current; left = e.left; lines = ls; end = e.end }) (sym none)

  with-one : (n : NoteLine) → e.lines ≡ [] → with_line e (Some n) ≡ fronted (n ∷ []) e
  with-one n none = ap (λ ls. record { current = e.current; left = e.left; lines = n ∷ ls; end = e.end }) (sym none)

  pub passed-quiet : IsPassed None → ReadsOn x further × ((standing further).ahead ≡ (standing x).ahead)
  passed-quiet h = (
    goes-on None h,
    ahead-quiet s x.number d e l (lines_of rest.now) (h.value ∙ ap (λ f. Ok f) (without h.none)) ∙ ap (λ ls. ahead_from s x.number d ls) (sym h.next),
  )

  pub passed-note : (at : ℕ) (n : NoteLine) → at ≡ length x.text.now - length x.rest.now → IsPassed (Some n) → IsFound x (record { at = at; line = n }) further
  passed-note at n here h =
      let stands = stands-then (Some n) h in
      let first : line_at x.text.now at ≡ l.bytes =
      ap (λ m. line_at x.text.now m) here ∙ (ap (λ t. bytes_of_first (lines_of t)) (rest-of x.text.now x.rest.now h.reading.within h.reading.whole) ∙ ap bytes_of_first h.next) in
      let shows = line-shown s x.number d (with_line e (Some n)) l.bytes n h.reading.none h.value refl in
      record {
        on = goes-on (Some n) h;
        ahead = ap (λ ls. ahead_from s x.number d ls) h.next ∙ ahead-note s x.number d e n l (lines_of rest.now) (h.value ∙ ap (λ f. Ok f) (with-one n h.none));
        place = record {
          fits = stands.lines.0;
          within = omega (arith, here, h.reading.within, h.shorter);
          shown = ap (λ t. shown_note (names_of s) (Some n.place) t) first ∙ shows.note;
        };
        few = omega (arith, shows.line, h.reading.few, h.shorter);
      }

-- ---- before the first line

pub reading-first : (x : Reader) → IsSmallScript x.setting.script.now → IsSetting x.setting → IsReaderReady x.setting x.progress → so_far x.setting x.progress ≡ first_progress x.setting.script.now
    → x.rest.now ≡ x.text.now → x.number + length x.rest.now < 2 ^ 32 → IsReading x
reading-first x small setting ready first all few =
    let s = x.setting.script.now in
    let Exists : Place → Type 0 = λ p. place_exists s p ≡ true in
    let left : drop x.progress.next x.setting.places.now ≡ places s = ap (λ (d : Progress). d.left) first in
    let same : length x.rest.now ≡ length x.text.now = ap length all in
    record {
      small = small;
      setting = setting;
      ready = ready;
      none = ap (λ (d : Progress). d.lines) first;
      current = subst (λ o. IfSome o Exists) (sym (ap (λ (d : Progress). d.current) first)) tt;
      left = subst (AllByRecursion Exists) (sym left) (each-place s Exists (λ p h. h));
      few = few;
      long = omega (arith, few, same);
      within = omega (arith, same);
      whole = subst (λ (rest : List ℕ). x.text.now ≡ take (length x.text.now - length rest) x.text.now ++ rest) (sym all) (whole_start x.text.now);
    }
