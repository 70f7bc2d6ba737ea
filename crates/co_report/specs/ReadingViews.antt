-- What the reader's own types say.
use Rattle.std.specs.Prelude.{◌≡◌, ℕ, ◌≤◌, Bool, true, false, List, [], ◌∷◌, Option, Some, None, Result, Ok, Err, length, drop}
use Rattle.co_object.specs.declared.Place.{Place}
use Rattle.co_program.specs.declared.Script.{Script}
use Rattle.co_text.specs.Lines.{lines_of}
use Rattle.co_text.specs.declared.cause.Cause.{Cause}
use Rattle.co_report.specs.declared.line.Line.{Line}
use Rattle.co_notes.specs.declared.reading.notes.NumberedEntry.{NumberedEntry}
use Rattle.co_report.specs.declared.reading.texts.Halves.{Halves as Texts}
use Rattle.co_report.specs.declared.reading.progress.Progress.{Progress as Reader}
use Rattle.co_report.specs.declared.reading.progress.Setting.{Setting}
use Rattle.co_print.specs.Reports.{places}
use Rattle.co_notes.specs.NoteValues.{names_of, HasFewActors}
use Rattle.co_notes.specs.Parts.{joined}
use Rattle.co_report.specs.Reading.{Halves, Progress, closed_by, closing_words, line_after, note_read}

abbrev pub halves_view : Texts → Halves
halves_view h = record { script = h.script.now; count = h.count; notes = lines_of h.notes.now }

-- each of them is at most this long
pub record AreAtMost (most : ℕ) (h : Texts) : Type 0 where
  pub script : length h.script.now ≤ most
  pub count : h.count ≤ most
  pub notes : length h.notes.now ≤ most

-- of these places, those from number `next` on are left
abbrev pub progress_view : List Place → Reader → Progress
progress_view places d = record { current = d.current; left = drop d.next places; lines = d.lines; end = d.end }

-- the line that ends the notes of the current place is spelled out
pub record IsSpelled (s : Script) (places : List Place) (d : Reader) : Type 0 where
  pub within : d.next ≤ length places
  pub closing : d.closing ≡ joined (closing_words s (drop d.next places))

-- it is the setting of its script
pub record IsSetting (x : Setting) : Type 0 where
  pub names : x.names ≡ names_of x.script.now
  pub few : HasFewActors x.names
  pub places : x.places.now ≡ places x.script.now

-- how far a reader is by this setting, and that the line behind its place is spelled out
abbrev pub so_far : Setting → Reader → Progress
so_far x d = progress_view x.places.now d

abbrev pub IsReaderReady : Setting → Reader → Type 0
IsReaderReady x d = IsSpelled x.script.now x.places.now d

-- one line or none, as a list
abbrev pub one_or_none : Option Line → List Line
one_or_none None = []
one_or_none (Some l) = l ∷ []

-- with this line so far, if there is one, and no other
abbrev pub with_line : Progress → Option Line → Progress
with_line d found = record d { lines = one_or_none found }

-- the line ends the notes of the open place, or it is to show a note, or it may not stand, whatever its number
abbrev pub IsLineSorted : Script → Progress → List ℕ → Result Bool Cause → Type 0
IsLineSorted s d line (Ok true) = (k : ℕ) → line_after s k d line ≡ Ok (closed_by k d d.left)
IsLineSorted s d line (Ok false) = (k : ℕ) → line_after s k d line ≡ note_read s k d line
IsLineSorted s d line (Err c) = (k : ℕ) → line_after s k d line ≡ Err c

-- the line of what line k shows, where a place is open
abbrev pub line_shown : ℕ → Option Place → NumberedEntry → Option Line
line_shown k None x = None
line_shown k (Some p) x = Some (record { line = k; place = p; number = x.number; entry = x.entry })
