-- The report of a run is legal, and is read back as its script and its notes.
use Rattle.std.specs.Prelude.{◌≡◌, ℕ, ◌≤◌, true, List, length, map, take, Some, Ok, slice_get}
use Rattle.std.specs.List.{count_by, filter}
use Rattle.co_object.specs.declared.Note.{Note}
use Rattle.co_object.specs.declared.Place.{Place}
use Rattle.co_object.specs.Lists as lists_of
use Rattle.co_object.specs.Lists.{same_place}
use Rattle.co_program.specs.declared.script.Script.{Script}
use Rattle.co_program.specs.Runs.{IsRunOf}
use Rattle.co_script.specs.Fits.{fits}
use Rattle.co_report.specs.declared.line.Line.{Line}
use Rattle.co_print.specs.Histories.{shown_history}
use Rattle.co_notes.specs.declared.reading.notes.NumberedEntry.{NumberedEntry}
use Rattle.co_report.specs.Laws.{report_of_histories}
use Rattle.co_print.specs.Origins.{note_at}
use Rattle.co_report.specs.Reading.{report_read}
use Rattle.co_print.specs.Reports.{report_of}
use Rattle.co_report.specs.Typed.{ListsTyped}
use Rattle.co_check.specs.declared.verdict.Verdict.TheVariants.{Legal}
use Rattle.co_check.specs.Lines.{AreLinesOf}
use Rattle.co_check.specs.Shown.{actor_of, callout_history, cpu_journal}
use Rattle.co_check.specs.Verdict.{verdict, verdict_of}

-- how many of these lines stand in a place
abbrev pub lines_in : Place → List Line → ℕ
lines_in p lines = count_by (λ l. same_place l.place p) lines

-- the line shows the note of this number of the actor, below as many of its place as the note's position says
pub record IsLineOfNote (lines : List Line) (j a number : ℕ) (l : Line) (note : Note) : Type 0 where
  pub at : slice_get lines j ≡ Some l
  pub actor : actor_of l.entry ≡ a
  pub number_is : l.number ≡ number
  pub place : l.place ≡ note.place
  pub entry : l.entry ≡ note.entry
  pub pos : lines_in l.place (take j lines) ≡ note.pos

-- each place's lines are its history, each line shows a note, and each note has a line
pub record Show (lists : List (List Note)) (lines : List Line) : Type 0 where
  pub callouts : (i : ℕ) → callout_history i lines ≡ lists_of.callout_history i lists
  pub cpus : (cpu : ℕ) → cpu_journal cpu lines ≡ lists_of.cpu_journal cpu lists
  pub each_line : (j : ℕ) (l : Line) → slice_get lines j ≡ Some l → (note : Note) × (note_at lists (actor_of l.entry) l.number ≡ Some note) × IsLineOfNote lines j (actor_of l.entry) l.number l note
  pub each_note : (a number : ℕ) (note : Note) → note_at lists a number ≡ Some note → (j : ℕ) × (l : Line) × IsLineOfNote lines j a number l note

-- the report of a run is legal
abbrev pub RunsAreLegal : Type 0
RunsAreLegal = (s : Script) (lists : List (List Note)) (lines : List Line) (end : ℕ) → IsRunOf s lists → AreLinesOf s lines → Show lists lines → verdict_of s lines end ≡ Legal

-- ---- the lines as a report has them

abbrev pub lines_at : Place → List Line → List Line
lines_at p lines = filter (λ l. same_place l.place p) lines

-- what a line shows
abbrev pub shown_line : Line → NumberedEntry
shown_line l = record { number = l.number; entry = l.entry }

-- where the lines of each place are its shown history, they are legal
abbrev pub ReportsOfRunsAreLegal : Type 0
ReportsOfRunsAreLegal = (s : Script) (lists : List (List Note)) (lines : List Line) (end : ℕ) →
    IsRunOf s lists → AreLinesOf s lines → ((p : Place) → map shown_line (lines_at p lines) ≡ shown_history lists p) → verdict_of s lines end ≡ Legal

-- the lines of a legal report are, place by place, the shown histories of the lists of a run: the numbers put each actor's
-- notes into their order
abbrev pub LegalReportsAreOfRuns : Type 0
LegalReportsAreOfRuns = (s : Script) (lines : List Line) (end : ℕ) → AreLinesOf s lines → verdict_of s lines end ≡ Legal →
    (lists : List (List Note)) × IsRunOf s lists × ((p : Place) → map shown_line (lines_at p lines) ≡ shown_history lists p)

-- ---- the text of a report

-- the text of these lists' report is read as the script and exactly the notes of the lists, and the verdict is Legal
pub record IsReadAsLegal (s : Script) (lists : List (List Note)) : Type 0 where
  pub read : report_read (report_of s lists) ≡ Ok (report_of_histories s (shown_history lists))
  pub legal : verdict (report_of_histories s (shown_history lists)) ≡ Legal

-- so it is with every run of a script that fits, where its notes have values that their types allow and the report has at most
-- 268435456 bytes
abbrev pub ReportsOfRunsAreReadAsLegal : Type 0
ReportsOfRunsAreReadAsLegal = (s : Script) (lists : List (List Note)) → fits s ≡ true → IsRunOf s lists → ListsTyped lists → length (report_of s lists) ≤ 268435456 → IsReadAsLegal s lists
