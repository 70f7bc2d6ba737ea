-- A report that is read line by line: what of it is still ahead.
use Rattle.std.specs.Prelude.{◌≡◌, ℕ, ◌+◌, ◌-◌, ◌<◌, ◌≤◌, ◌^◌, true, List, [], ◌∷◌, ◌++◌, length, take, drop, Option, Some, None, IfSome, Result, Ok, Err}
use Rattle.std.specs.List.{AllByRecursion}
use Rattle.co_object.specs.declared.Place.{Place}
use Rattle.co_program.specs.declared.Script.{Script}
use Rattle.co_program.specs.Places.{place_exists}
use Rattle.co_program.specs.Scripts.{IsScript}
use Rattle.co_text.specs.Fallible.{◌>>=◌, Refusal, Faults, LineFails}
use Rattle.co_text.specs.Lines.{Line, lines_of}
use Rattle.co_text.specs.declared.cause.Cause.{Cause}
use Rattle.co_text.specs.declared.cause.LineFault.{LineFault}
use Rattle.co_text.specs.declared.cause.ScriptFault.{ScriptFault}
use Rattle.co_report.specs.declared.line.Line.{Line as NoteLine}
use Rattle.co_report.specs.declared.line.Report.{Report}
use Rattle.co_report.specs.declared.reading.line_by_line.Reader.{Reader}
use Rattle.co_report.specs.declared.reading.line_by_line.Found.{Found}
use Rattle.co_report.specs.declared.reading.line_by_line.Next.{Next}
use Rattle.co_report.specs.declared.reading.line_by_line.Next.TheVariants as next
use Rattle.co_notes.specs.declared.reading.names.Names.{Names}
use Rattle.co_report.specs.LineFits.{LineFits}
use Rattle.co_notes.specs.NoteForms.{shown_note}
use Rattle.co_notes.specs.NoteValues.{names_of, IsSmallScript, HasFewActors}
use Rattle.co_report.specs.Reading.{Progress, histories_read, first_progress, end_read}
use Rattle.co_report.specs.ReadingViews.{IsSetting, IsReaderReady, one_or_none, so_far, with_line}
use Rattle.co_print.specs.Reports.{places}

-- note lines, and the number of the line `end` behind them
pub record Ahead : Type 0 where
  pub lines : List NoteLine
  pub end : ℕ

-- a report whose script is read: the number of the first line of its histories, and their text
pub record Opening : Type 0 where
  pub script : Script
  pub first : ℕ
  pub text : List ℕ

-- where the reading of histories stands: their script and text, how many bytes are still to be read, and what is ahead, or
-- what is refused there
pub record Standing : Type 0 where
  pub script : Script
  pub text : List ℕ
  pub bytes : ℕ
  pub ahead : Result Ahead Refusal

-- what lines come to, from line k on
abbrev pub ended_at : ℕ → Progress → Result Ahead Refusal
ended_at k d = end_read k d >>= λ end. Ok (record { lines = d.lines; end = end })

abbrev pub ahead_from : Script → ℕ → Progress → List Line → Result Ahead Refusal
ahead_from s k d ls = histories_read s k d ls >>= ended_at (k + length ls)

-- before the first line
abbrev pub before_all : Opening → Standing
before_all o = record { script = o.script; text = o.text; bytes = length o.text; ahead = ahead_from o.script o.first (first_progress o.script) (lines_of o.text) }

-- these lines, and behind them what is ahead
abbrev pub behind : List NoteLine → Result Ahead Refusal → Result Ahead Refusal
behind front (Ok x) = Ok (record { lines = front ++ x.lines; end = x.end })
behind front (Err e) = Err e

-- the report of a script and of all that is ahead
abbrev pub report_of_all : Script → Result Ahead Refusal → Result Report Refusal
report_of_all s (Ok x) = Ok (record { script = s; lines = x.lines; end = x.end })
report_of_all s (Err e) = Err e

-- a report is opened: it is that of all that is ahead; or it is refused
abbrev pub IsReportOpened : Result Report Refusal → Result Opening ScriptFault → Type 0
IsReportOpened report (Ok o) = report ≡ report_of_all o.script (before_all o).ahead
IsReportOpened report (Err e) = Faults e report

-- the line of a text that begins at this byte
abbrev pub bytes_of_first : List Line → List ℕ
bytes_of_first [] = []
bytes_of_first (l ∷ ls) = l.bytes

abbrev pub line_at : List ℕ → ℕ → List ℕ
line_at text at = bytes_of_first (lines_of (drop at text))

-- the note line begins at this byte of the text
pub record IsLineAt (s : Script) (text : List ℕ) (at : ℕ) (l : NoteLine) : Type 0 where
  pub fits : LineFits s l
  pub within : at < length text
  pub shown : shown_note (names_of s) (Some l.place) (line_at text at) ≡ Ok (record { number = l.number; entry = l.entry })

-- ---- what the reader's own types say

-- these are a script's, and the histories from this line on have this text
pub record IsOpen (s : Script) (all : List Place) (names : Names) (first : ℕ) (text : List ℕ) : Type 0 where
  pub accepted : IsScript s
  pub small : IsSmallScript s
  pub places : all ≡ places s
  pub named : names ≡ names_of s
  pub actors : HasFewActors names
  pub few : first + length text < 2 ^ 32

abbrev pub standing : Reader → Standing
standing x =
    let s = x.setting.script.now in
    record { script = s; text = x.text.now; bytes = length x.rest.now; ahead = ahead_from s x.number (so_far x.setting x.progress) (lines_of x.rest.now) }

-- what is left of the text is its end, no line is kept, and the places still to come exist
pub record IsReading (x : Reader) : Type 0 where
  pub small : IsSmallScript x.setting.script.now
  pub setting : IsSetting x.setting
  pub ready : IsReaderReady x.setting x.progress
  pub none : x.progress.lines ≡ []
  pub current : IfSome x.progress.current (λ p. place_exists x.setting.script.now p ≡ true)
  pub left : AllByRecursion (λ p. place_exists x.setting.script.now p ≡ true) (drop x.progress.next x.setting.places.now)
  pub few : x.number + length x.rest.now < 2 ^ 32
  pub long : length x.text.now < 2 ^ 32
  pub within : length x.rest.now ≤ length x.text.now
  pub whole : x.text.now ≡ take (length x.text.now - length x.rest.now) x.text.now ++ x.rest.now

-- the reader goes on in the same histories, with fewer bytes ahead
pub record ReadsOn (before after : Reader) : Type 0 where
  pub reading : IsReading after
  pub script : (standing after).script ≡ (standing before).script
  pub text : (standing after).text ≡ (standing before).text
  pub bytes : (standing after).bytes < (standing before).bytes

-- the next note line is found
pub record IsFound (before : Reader) (found : Found) (after : Reader) : Type 0 where
  pub on : ReadsOn before after
  pub ahead : (standing before).ahead ≡ behind (found.line ∷ []) (standing after).ahead
  pub place : IsLineAt (standing before).script (standing before).text found.at found.line
  pub few : found.line.line < 2 ^ 32

-- a line is read, which shows a note or begins a place or ends the histories, or it is refused
abbrev pub IsLineRead : Reader → Result (Option Found) ScriptFault → Reader → Type 0
IsLineRead before (Ok (Some found)) after = IsFound before found after
IsLineRead before (Ok None) after = ReadsOn before after × ((standing after).ahead ≡ (standing before).ahead)
IsLineRead before (Err e) after = Faults e (standing before).ahead

-- the next note is found, or there is none, or a line is refused
abbrev pub IsNextFound : Reader → Result Next ScriptFault → Reader → Type 0
IsNextFound before (Ok (next.Note found)) after = IsFound before found after
IsNextFound before (Ok (next.End end)) after = (standing before).ahead ≡ Ok (record { lines = []; end = end })
IsNextFound before (Err e) after = Faults e (standing before).ahead

-- ---- lines that a listener takes, by what it has then

-- it has taken these lines more
abbrev pub HasTakenMore : {L : Type 0} (has : L → List NoteLine → Type 0) (old new : L) (more : List NoteLine) → Type 0
HasTakenMore has old new more = (lines : List NoteLine) → has old lines → has new (lines ++ more)

-- a line is read, and the note that it shows is told, if it shows one
abbrev pub IsNoteTold : {L : Type 0} (has : L → List NoteLine → Type 0) (old new : L) → Progress → Result (Unit {0}) LineFault → Result Progress Cause → Type 0
IsNoteTold has old new d (Ok ok) read = (found : Option NoteLine) × (read ≡ Ok (with_line d found)) × HasTakenMore has old new (one_or_none found)
IsNoteTold has old new d (Err e) read = LineFails e read

-- these lines are told, behind which stands what is ahead of the reader now
pub record AreTold {L : Type 0} (has : L → List NoteLine → Type 0) (old new : L) (before after : Reader) : Type 0 where
  pub lines : List NoteLine
  pub ahead : behind lines (standing after).ahead ≡ (standing before).ahead
  pub taken : HasTakenMore has old new lines

-- so the reader has gone on by a line, or the line is refused
abbrev pub IsLineTold : {L : Type 0} (has : L → List NoteLine → Type 0) (old new : L) → Reader → Result (Unit {0}) ScriptFault → Reader → Type 0
IsLineTold has old new before (Ok ok) after = ReadsOn before after × AreTold has old new before after
IsLineTold has old new before (Err e) after = Faults e (standing before).ahead

-- all lines that were ahead are told, or one is refused
abbrev pub AreAllTold : {L : Type 0} (has : L → List NoteLine → Type 0) (old new : L) → Reader → Result ℕ ScriptFault → Type 0
AreAllTold has old new before (Ok end) = (lines : List NoteLine) × ((standing before).ahead ≡ Ok (record { lines = lines; end = end })) × HasTakenMore has old new lines
AreAllTold has old new before (Err e) = Faults e (standing before).ahead
