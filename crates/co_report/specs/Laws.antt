-- A report reads back as its script and notes.
use Rattle.std.specs.Prelude.{◌≡◌, ℕ, ◌+◌, ◌^◌, ◌<◌, ◌≤◌, true, List, [], ◌∷◌, ◌++◌, length, Ok}
use Rattle.std.specs.List.{AllByRecursion}
use Rattle.co_object.specs.declared.Note.{Note}
use Rattle.co_object.specs.declared.Place.{Place}
use Rattle.co_program.specs.declared.Script.{Script}
use Rattle.co_script.specs.Fits.{fits}
use Rattle.co_program.specs.Places.{place_exists}
use Rattle.co_program.specs.Runs.{IsRunOf}
use Rattle.co_text.specs.Lines.{lines_of}
use Rattle.co_script.specs.Canonical.{canonical}
use Rattle.co_report.specs.declared.line.Line.{Line}
use Rattle.co_report.specs.declared.line.Report.{Report}
use Rattle.co_print.specs.Histories.{PlaceHistories, shown_history}
use Rattle.co_notes.specs.declared.reading.notes.NumberedEntry.{NumberedEntry}
use Rattle.co_print.specs.Reports.{places, report_of}
use Rattle.co_report.specs.LineFits.{LineFits}
use Rattle.co_notes.specs.NoteFits.{EntryFits, ShownFits}
use Rattle.co_report.specs.Typed.{ListsTyped}
use Rattle.co_report.specs.Reading.{report_read}

-- ---- a report that is read again

-- the lines of the notes of a place, from line k on
abbrev pub note_lines : ℕ → Place → List NumberedEntry → List Line
note_lines k p [] = []
note_lines k p (x ∷ xs) = record { line = k; place = p; number = x.number; entry = x.entry } ∷ note_lines (k + 1) p xs

-- the note lines of these places, whose first heading is line k
abbrev pub lines_of_places : PlaceHistories → ℕ → List Place → List Line
lines_of_places h k [] = []
lines_of_places h k (p ∷ ps) = note_lines (k + 1) p (h p) ++ lines_of_places h (k + 1 + length (h p)) ps

-- the line behind them
abbrev pub line_behind : PlaceHistories → ℕ → List Place → ℕ
line_behind h k [] = k
line_behind h k (p ∷ ps) = line_behind h (k + 1 + length (h p)) ps

-- what the report of a script says: its first heading stands behind the lines of the script and two more
abbrev pub report_of_histories : Script → PlaceHistories → Report
report_of_histories s h =
    let first = length (lines_of (canonical s)) + 3 in
    record { script = s; lines = lines_of_places h first (places s); end = line_behind h first (places s) }

-- the notes of each place fit it
abbrev pub HistoriesFit : Script → PlaceHistories → Type 0
HistoriesFit s h = (p : Place) → place_exists s p ≡ true → AllByRecursion (ShownFits s p) (h p)

-- the lists of a script's actors: each entry fits its place, and no list is longer than its numbers count
pub record ListsFit (s : Script) (lists : List (List Note)) : Type 0 where
  pub notes : AllByRecursion (λ notes. AllByRecursion (λ note. EntryFits s note.place note.entry) notes) lists
  pub short : AllByRecursion (λ notes. length notes < 2 ^ 64) lists

-- the report of a script that fits is read as this script and exactly its notes, where it has at most 268435456 bytes
abbrev pub ReportReadsBack : Type 0
ReportReadsBack = (s : Script) (lists : List (List Note)) → fits s ≡ true → ListsFit s lists → length (report_of s lists) ≤ 268435456 → report_read (report_of s lists) ≡ Ok (report_of_histories s (shown_history lists))

-- so is the report of a run, where its notes have values that their types allow: what they name exists
abbrev pub RunReadsBack : Type 0
RunReadsBack = (s : Script) (lists : List (List Note)) → fits s ≡ true → IsRunOf s lists → ListsTyped lists → length (report_of s lists) ≤ 268435456 → report_read (report_of s lists) ≡ Ok (report_of_histories s (shown_history lists))

-- what a text stands for: a script that fits, and lines that stand in its places
pub record ReportFits (r : Report) : Type 0 where
  pub script : fits r.script ≡ true
  pub lines : AllByRecursion (LineFits r.script) r.lines

abbrev pub ReadReportsFit : Type 0
ReadReportsFit = (bytes : List ℕ) (r : Report) → report_read bytes ≡ Ok r → ReportFits r
