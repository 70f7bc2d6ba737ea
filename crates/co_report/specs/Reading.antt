-- The report that a text stands for, or its first refusal.
use Rattle.std.specs.Prelude.{ℕ, ◌+◌, Bool, true, false, List, [], ◌∷◌, ◌++◌, length, Option, Some, None, Result, Ok, Err, nat_le, ◌==◌, if◌then◌else◌, codes, bytes_eq}
use Rattle.std.specs.Option.{option_map}
use Rattle.co_object.specs.declared.Place.{Place}
use Rattle.co_program.specs.declared.Script.{Script}
use Rattle.co_text.specs.Fallible.{◌>>=◌, ◌>>◌, unless, some_or, Refusal, at_line}
use Rattle.co_text.specs.Lines.{Line, lines_of}
use Rattle.co_text.specs.Values.{Word}
use Rattle.co_text.specs.declared.Cause.{Cause}
use Rattle.co_text.specs.declared.Cause.TheVariants as cause
use Rattle.co_script.specs.Reading.{script_of}
use Rattle.co_script.specs.Canonical.{canonical}
use Rattle.co_script.specs.LineBytes.{line_bytes}
use Rattle.co_report.specs.declared.line.Line.{Line as NoteLine}
use Rattle.co_report.specs.declared.line.Report.{Report}
use Rattle.co_notes.specs.declared.reading.notes.NumberedEntry.{NumberedEntry}
use Rattle.co_notes.specs.Parts.{joined}
use Rattle.co_print.specs.Reports.{places, heading}
use Rattle.co_notes.specs.NoteValues.{names_of}
use Rattle.co_notes.specs.NoteForms.{shown_note}

-- ---- lines

-- a line is exactly this
abbrev pub is_line : List ℕ → Line → Bool
is_line bytes l = bytes_eq l.bytes bytes

-- each line has its line feed
abbrev pub none_cut : ℕ → List Line → Result Bool Refusal
none_cut k [] = Ok true
none_cut k (l ∷ ls) = at_line k (unless l.ended cause.Cut) >> none_cut (k + 1) ls

abbrev pub first_line : List Line → Result (List Line) Refusal
first_line [] = at_line 0 (Err cause.Version)
first_line (l ∷ ls) = at_line 1 (unless (is_line (codes "callout-report 1") l) cause.Version) >> Ok ls

-- ---- the script

-- the text before the first line `histories`, the number of its lines, and the lines after it
pub record Halves : Type 0 where
  pub script : List ℕ
  pub count : ℕ
  pub notes : List Line

abbrev pub line_before : Line → Halves → Halves
line_before l h = record { script = line_bytes l ++ h.script; count = h.count + 1; notes = h.notes }

abbrev pub halves : List Line → Option Halves
halves [] = None
halves (l ∷ ls) = if is_line (codes "histories") l then Some (record { script = []; count = 0; notes = ls }) else option_map (line_before l) (halves ls)

-- a line of the script is the next one of the report; line 0 is the whole
abbrev pub line_in_report : ℕ → ℕ
line_in_report k = if k == 0 then 0 else k + 1

abbrev pub in_report : {X : Type 0} → Result X Refusal → Result X Refusal
in_report (Ok x) = Ok x
in_report (Err r) = Err (record { line = line_in_report r.line; cause = r.cause })

-- line by line the same, from line k on; `histories` follows the last one
abbrev pub same_lines : ℕ → List Line → List Line → Result Bool Refusal
same_lines k [] [] = Ok true
same_lines k [] (w ∷ wanted) = at_line k (Err cause.Form)
same_lines k (l ∷ ls) [] = at_line k (Err cause.Form)
same_lines k (l ∷ ls) (w ∷ wanted) = at_line k (unless (is_line w.bytes l) cause.Form) >> same_lines (k + 1) ls wanted

-- ---- the histories

-- how far the histories are read: the place whose notes come, the places after it, the notes so far, and the number of the
-- line `end` behind which no line may stand
pub record Progress : Type 0 where
  pub current : Option Place
  pub left : List Place
  pub lines : List NoteLine
  pub end : Option ℕ

-- the line that ends the notes of a place: the heading of the next, or behind the last `end`
abbrev pub closing_words : Script → List Place → List Word
closing_words s [] = codes "end" ∷ []
closing_words s (p ∷ ps) = heading s p

abbrev pub closed_by : ℕ → Progress → List Place → Progress
closed_by k d [] = record d { current = None; end = Some k }
closed_by k d (p ∷ ps) = record d { current = Some p; left = ps }

-- a note of the current place
abbrev pub with_note : ℕ → Progress → Option Place → NumberedEntry → Progress
with_note k d None x = d
with_note k d (Some p) x = record d { lines = d.lines ++ record { line = k; place = p; number = x.number; entry = x.entry } ∷ [] }

abbrev pub note_read : Script → ℕ → Progress → List ℕ → Result Progress Cause
note_read s k d line = shown_note (names_of s) d.current line >>= λ x. Ok (with_note k d d.current x)

abbrev pub line_read : Script → ℕ → Progress → List ℕ → Result Progress Cause
line_read s k d line = if bytes_eq line (joined (closing_words s d.left)) then Ok (closed_by k d d.left) else note_read s k d line

abbrev pub reads_on : Option ℕ → Bool
reads_on (Some k) = false
reads_on None = true

-- what line k does
abbrev pub line_after : Script → ℕ → Progress → List ℕ → Result Progress Cause
line_after s k d line = unless (reads_on d.end) cause.Note >> line_read s k d line

abbrev pub histories_read : Script → ℕ → Progress → List Line → Result Progress Refusal
histories_read s k d [] = Ok d
histories_read s k d (l ∷ ls) = at_line k (line_after s k d l.bytes) >>= λ e. histories_read s (k + 1) e ls

abbrev pub first_progress : Script → Progress
first_progress s = record { current = None; left = places s; lines = []; end = None }

-- the histories end with `end`; else the line behind the last is refused
abbrev pub end_read : ℕ → Progress → Result ℕ Refusal
end_read k d = at_line k (some_or d.end cause.Note)

-- ---- the whole

-- the notes from line k on
abbrev pub notes_read : Script → ℕ → List Line → Result Report Refusal
notes_read s k ls = do
  d ← histories_read s k (first_progress s) ls
  end ← end_read (k + length ls) d
  Ok (record { script = s; lines = d.lines; end = end })

-- the script and the notes, where the line after the first is line 2
abbrev pub halves_read : Halves → Result Report Refusal
halves_read h = do
  s ← in_report (script_of h.script)
  same_lines 2 (lines_of h.script) (lines_of (canonical s))
  notes_read s (h.count + 3) h.notes

abbrev pub lines_report : List Line → Result Report Refusal
lines_report ls = do
  none_cut 1 ls
  others ← first_line ls
  h ← at_line 0 (some_or (halves others) cause.Note)
  halves_read h

-- the report that the bytes stand for, or the first line that is bad, and its cause
unfoldable pub report_read : List ℕ → Result Report Refusal
report_read bytes = do
  at_line 0 (unless (nat_le (length bytes) 268435456) cause.Size)
  lines_report (lines_of bytes)
