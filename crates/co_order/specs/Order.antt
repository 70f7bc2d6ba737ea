-- One order of all notes of a report, which keeps each actor's numbers and each place's positions.
use Rattle.std.specs.Prelude.{◌≡◌, ℕ, ◌<◌, ◌==◌, ◌&&◌, Bool, true, List, length, take, count_by, Some, slice_get}
use Rattle.std.specs.List.{filter_map}
use Rattle.co_program.specs.declared.script.Script.{Script}
use Rattle.co_report.specs.declared.line.Line.{Line}
use Rattle.co_print.specs.Order.{place_index}
use Rattle.co_check.specs.Numbers.{lines_made_by}
use Rattle.co_object.specs.Lists.{actor_of}
use Rattle.co_order.specs.declared.order.Ordered.{Ordered}
use Rattle.co_order.specs.declared.order.Ordered.TheVariants.{Whole, Stuck}

-- the notes of a report go by the indices of their lines. The notes of these:
abbrev pub notes_at : List Line → List ℕ → List Line
notes_at lines order = filter_map (slice_get lines) order

-- how many of these notes stand in the place of this number
abbrev pub lines_in_place : Script → ℕ → List Line → ℕ
lines_in_place s place notes = count_by (λ l. place_index s l.place == place) notes

-- how often the note of this index has come
abbrev pub times : ℕ → List ℕ → ℕ
times i order = count_by (λ j. j == i) order

-- the note has not come; its number is how many notes of its actor have come; and as many notes of its place have come as stand
-- above it
abbrev pub comes_next : Script → List Line → List ℕ → ℕ → Line → Bool
comes_next s lines order i l =
    let come = notes_at lines order in
    let place = place_index s l.place in
    (times i order == 0) && ((l.number == lines_made_by (actor_of l.entry) come) && (lines_in_place s place (take i lines) == lines_in_place s place come))

-- the note of this index may come next behind those of an order
pub record MayCome (s : Script) (lines : List Line) (order : List ℕ) (i : ℕ) : Type 0 where
  pub line : Line
  pub stands : slice_get lines i ≡ Some line
  pub next : comes_next s lines order i line ≡ true

-- each note comes when it may: the numbers of each actor are 0, 1, 2 and so on, and the notes of each place come in the order of
-- their positions
abbrev pub IsMerge : Script → List Line → List ℕ → Type 0
IsMerge s lines order = (k i : ℕ) → slice_get order k ≡ Some i → MayCome s lines (take k order) i

-- and each note of the report comes exactly once
pub record IsOrder (s : Script) (lines : List Line) (order : List ℕ) : Type 0 where
  pub merge : IsMerge s lines order
  pub once : (i : ℕ) → i < length lines → times i order ≡ 1

-- the first note that has not come is that of this line of the report
pub record IsFirstLeft (lines : List Line) (order : List ℕ) (line : ℕ) : Type 0 where
  pub index : ℕ
  pub note : Line
  pub stands : slice_get lines index ≡ Some note
  pub left : times index order ≡ 0
  pub first : (i : ℕ) → i < index → times i order ≡ 1
  pub named : line ≡ note.line

-- notes come as long as one may, and then one is left
pub record IsStuck (s : Script) (lines : List Line) (line : ℕ) : Type 0 where
  pub order : List ℕ
  pub merge : IsMerge s lines order
  pub nothing : (i : ℕ) → MayCome s lines order i → ⊥
  pub left : IsFirstLeft lines order line

-- there is none
abbrev pub HasNoOrder : Script → List Line → Type 0
HasNoOrder s lines = (order : List ℕ) → IsOrder s lines order → ⊥

-- an order; or there is none, and this is the line of the first note that is left where nothing more may come
abbrev pub IsOrdered : Script → List Line → Ordered → Type 0
IsOrdered s lines (Whole order) = IsOrder s lines order
IsOrdered s lines (Stuck line) = HasNoOrder s lines × IsStuck s lines line
