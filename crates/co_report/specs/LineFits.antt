-- The lines that a report of a script may have.
use Rattle.std.specs.Prelude.{◌≡◌, true}
use Rattle.co_program.specs.declared.Script.{Script}
use Rattle.co_program.specs.Places.{place_exists}
use Rattle.co_notes.specs.NoteFits.{IsLong, EntryFits}
use Rattle.co_report.specs.declared.line.Line.{Line}

-- a line that stands in a place of the script
pub record LineFits (s : Script) (l : Line) : Type 0 where
  pub place : place_exists s l.place ≡ true
  pub number : IsLong l.number
  pub entry : EntryFits s l.place l.entry
