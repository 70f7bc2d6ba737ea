-- Lines of a report as they are read.
use Rattle.std.specs.Prelude.{◌≡◌, ℕ, ◌<◌, ◌≤◌, true, List, length, Ok}
use Rattle.std.specs.List.{AllByRecursion}
use Rattle.co_object.specs.declared.Place.{Place}
use Rattle.co_object.specs.declared.Place.TheVariants as place
use Rattle.co_object.specs.declared.AnyEntry.{AnyEntry}
use Rattle.co_object.specs.declared.AnyEntry.TheVariants as of
use Rattle.co_program.specs.declared.script.Script.{Script}
use Rattle.co_program.specs.Actors.{actor_count}
use Rattle.co_program.specs.Places.{place_exists}
use Rattle.co_program.specs.Scripts.{IsScript}
use Rattle.co_report.specs.declared.line.Line.{Line}
use Rattle.co_report.specs.declared.line.Report.{Report}
use Rattle.co_report.specs.Reading.{report_read}
use Rattle.co_check.specs.Cpu.{NamesCallout}
use Rattle.co_check.specs.Shown.{actor_of}

-- an entry of the kind of its place
abbrev pub IsOfKind : Place → AnyEntry → Type 0
IsOfKind (place.Timer i) (of.Timer e) = Unit {0}
IsOfKind (place.Cpu cpu) (of.Cpu e) = Unit {0}
IsOfKind (place.Actor a) (of.Own e) = Unit {0}
IsOfKind place entry = ⊥

-- the callout that an insert names exists
abbrev pub NamesExist : Script → AnyEntry → Type 0
NamesExist s (of.Cpu e) = NamesCallout (length s.timers) e.op
NamesExist s entry = Unit {0}

-- the line stands in a place of the script and is of that kind, is of one of the script's actors, and names callouts of it
pub record IsLineOf (s : Script) (l : Line) : Type 0 where
  pub place : place_exists s l.place ≡ true
  pub kind : IsOfKind l.place l.entry
  pub actor : actor_of l.entry < actor_count s
  pub names : NamesExist s l.entry

abbrev pub AreLinesOf : Script → List Line → Type 0
AreLinesOf s lines = AllByRecursion (IsLineOf s) lines

-- no report has more lines, since none has more bytes
abbrev pub lines_max : ℕ
lines_max = 268435456

pub record IsReport (report : Report) : Type 0 where
  pub script : IsScript report.script
  pub lines : AreLinesOf report.script report.lines
  pub few : length report.lines ≤ lines_max

-- what is read of a text may be checked
abbrev pub ReadReportsMayBeChecked : Type 0
ReadReportsMayBeChecked = (bytes : List ℕ) (report : Report) → report_read bytes ≡ Ok report → IsReport report
