-- What the code keeps of the numbers above: which line has each note, and how far the numbers have come in each place.
use Rattle.std.specs.Prelude.{◌≡◌, ◌≢◌, ℕ, ◌<◌, ◌≤◌, ◌+◌, Bool, true, false, max, if◌then◌else◌, List, [], ◌∷◌, ◌++◌, length, Option, Some, None, Vec, slice_get, slice_set, slice_index}
use Rattle.co_object.specs.declared.Place.{Place}
use Rattle.co_program.specs.declared.script.Script.{Script}
use Rattle.co_program.specs.Actors.{actor_count}
use Rattle.co_program.specs.Places.{place_exists}
use Rattle.co_print.specs.Order.{place_index, place_count}
use Rattle.co_check.specs.declared.index.Index.{Index}
use Rattle.co_check.specs.declared.index.Indexed.{Indexed}
use Rattle.co_check.specs.declared.index.Indexed.TheVariants.{Fits, Bad as BadLine}
use Rattle.co_report.specs.declared.line.Line.{Line}
use Rattle.co_check.specs.declared.verdict.Unfit.TheVariants.{Number}
use Rattle.co_check.specs.Numbers.{lines_made_by, number_at, first_misnumbered}
use Rattle.co_check.specs.Shown.{is_note, is_in_place_by}

-- where the first such line stands, the first of all at this number
abbrev pub index_of : (Line → Bool) → ℕ → List Line → Option ℕ
index_of p at [] = None
index_of p at (l ∷ ls) = if p l then Some at else index_of p (at + 1) ls

-- where the actor's note of this number stands among the lines
abbrev pub note_slot : List Line → (a number : ℕ) → Option ℕ
note_slot above a number = index_of (is_note a number) 0 above

-- a number above those of such lines
abbrev pub highest : (Line → Bool) → List Line → ℕ
highest p [] = 0
highest p (l ∷ ls) = max (if p l then l.number + 1 else 0) (highest p ls)

-- the slots of an actor
pub record AreActorSlots (lines above : List Line) (a : ℕ) (row : List (Option ℕ)) : Type 0 where
  pub count : length row ≡ lines_made_by a lines
  pub each : (number : ℕ) → number < lines_made_by a lines → slice_get row number ≡ Some (note_slot above a number)

-- the highest numbers of the actors in a place
pub record AreLatest (actors : ℕ) (above : List Line) (p : Place) (row : List ℕ) : Type 0 where
  pub count : length row ≡ actors
  pub each : (a : ℕ) → a < actors → slice_index row a ≡ highest (is_in_place_by a p) above

pub record IsIndexed (s : Script) (lines above : List Line) (x : Index) : Type 0 where
  pub actors : length x.slots.items ≡ actor_count s
  pub places : length x.latest.items ≡ place_count s
  pub slots : (a : ℕ) (row : Vec (Option ℕ) _) → slice_get x.slots.items a ≡ Some row → AreActorSlots lines above a row.items
  pub latest : (p : Place) (row : Vec ℕ _) → place_exists s p ≡ true → slice_get x.latest.items (place_index s p) ≡ Some row → AreLatest (actor_count s) above p row.items

-- a line is put where nothing is yet
abbrev pub IsLinePut : List (Option ℕ) → (number line : ℕ) → Bool → List (Option ℕ) → Type 0
IsLinePut old number line true new = (slice_get old number ≡ Some None) × (new ≡ slice_set old number (Some line))
IsLinePut old number line false new = slice_get old number ≢ Some None

abbrev pub IsRaised : List ℕ → (actor number : ℕ) → Bool → List ℕ → Type 0
IsRaised old actor number true new = (slice_index old actor ≤ number) × (new ≡ slice_set old actor (number + 1))
IsRaised old actor number false new = number < slice_index old actor

-- the line's number is taken, or something is wrong with it
abbrev pub IsNumbered : Script → (lines above : List Line) → Line → Bool → Index → Type 0
IsNumbered s lines above l true after = (number_at lines above l ≡ None) × IsIndexed s lines (above ++ l ∷ []) after
IsNumbered s lines above l false after = number_at lines above l ≡ Some Number

-- no number is wrong, and this is where the notes are; or the first line with a wrong one
abbrev pub AreNotesIndexed : Script → List Line → Indexed → Type 0
AreNotesIndexed s lines (Fits x) = (first_misnumbered lines ≡ None) × IsIndexed s lines lines x
AreNotesIndexed s lines (BadLine line) = first_misnumbered lines ≡ Some (record { line = line; cause = Number })
