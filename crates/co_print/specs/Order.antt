-- The notes of all lists in the report's order: place by place, and in each place by position. They are put into order by
-- parts: a part has the notes of some places that follow each other.
use Rattle.std.specs.Prelude.{◌≡◌, ◌<◌, ◌≤◌, ◌⊎◌, ℕ, ◌+◌, ◌-◌, ◌^◌, true, List, [], ◌∷◌, length, map, ◌==◌, count_by, Option, Some, IsSome, slice_index, slice_index_or, slice_range}
use Rattle.std.specs.List.{flat_map}
use Rattle.co_object.specs.declared.Place.{Place}
use Rattle.co_object.specs.declared.Note.{Note}
use Rattle.co_object.specs.Lists.{history}
use Rattle.co_program.specs.declared.Script.{Script}
use Rattle.co_print.specs.declared.origin.Origin.{Origin}
use Rattle.co_print.specs.declared.order.Order.{Order}
use Rattle.co_print.specs.declared.order.Part.{Part}
use Rattle.co_print.specs.declared.order.Spot.{Spot}
use Rattle.co_print.specs.declared.order.Counted.{Counted}
use Rattle.co_print.specs.Origins.{note_at, note_from, entries_from, lines_from}
use Rattle.co_print.specs.Histories.{shown_history}
use Rattle.co_notes.specs.NoteTexts.{shown_words}
pub use Rattle.co_program.specs.Places.{place_index, place_count}
use Rattle.co_program.specs.Places.{place_exists}

-- how many of these notes stand in the place of this number
abbrev pub count_in : Script → ℕ → List Note → ℕ
count_in s i notes = count_by (λ note. place_index s note.place == i) notes

abbrev pub all_of : List (List Note) → List Note
all_of lists = flat_map (λ notes. notes) lists

-- these are the numbers of notes of the places, in order
pub record ArePlaceCounts (s : Script) (lists : List (List Note)) (counts : List ℕ) : Type 0 where
  pub places : length counts ≡ place_count s
  pub each : (i : ℕ) → i < place_count s → slice_index counts i ≡ count_in s i (all_of lists)

-- where a note belongs
abbrev pub spot_of : Script → Note → Spot
spot_of s note = record { place = place_index s note.place; pos = note.pos }

-- this was counted of these lists: how many notes each place has, and where each note belongs
pub record AreCounted (s : Script) (lists : List (List Note)) (counted : Counted) : Type 0 where
  pub counts : ArePlaceCounts s lists counted.counts
  pub spots : counted.spots ≡ map (map (spot_of s)) lists

-- where runs of these lengths begin, one behind the other, and where the last one ends
abbrev pub starts_from : ℕ → List ℕ → List ℕ
starts_from first [] = first ∷ []
starts_from first (n ∷ ns) = first ∷ starts_from (first + n) ns

-- the place of this number is of the part from place `first` on: each of its places has a start, and behind the last one's
-- stands the end
abbrev pub IsOfPart : (first : ℕ) → List ℕ → ℕ → Type 0
IsOfPart first starts i = (first ≤ i) × (i + 1 < first + length starts)

-- where a note's origin stands in its part
abbrev pub location : Script → (first : ℕ) → List ℕ → Note → ℕ
location s first starts note = slice_index starts (place_index s note.place - first) + note.pos

-- an array of this length has room for the origin of each note of the part, by these starts
pub record HasRoomForOrigins (s : Script) (lists : List (List Note)) (first : ℕ) (starts : List ℕ) (room : ℕ) : Type 0 where
  pub fits : room < 2 ^ 64
  pub inside : (a k : ℕ) (note : Note) → note_at lists a k ≡ Some note → IsOfPart first starts (place_index s note.place) → location s first starts note < room

-- the note at this index of an array of origins; where nothing was written, there is none
abbrev pub note_behind : List (List Note) → List Origin → ℕ → Option Note
note_behind lists origins q = note_from lists (slice_index_or origins q (record { actor = length lists; number = 0 }))

-- a note comes before this one, actor by actor
abbrev pub IsBefore : (actor number a k : ℕ) → Type 0
IsBefore actor number a k = (a < actor) ⊎ ((a ≡ actor) × (k < number))

-- the origins of the notes of the part before this note are written
pub record AreWritten (s : Script) (lists : List (List Note)) (first : ℕ) (starts : List ℕ) (origins : List Origin) (actor number : ℕ) : Type 0 where
  -- what is written is the origin of a note of the part that belongs there
  pub belong : (q : ℕ) (note : Note) → note_behind lists origins q ≡ Some note → IsOfPart first starts (place_index s note.place) × (location s first starts note ≡ q)
  -- the place of each note of the part is taken
  pub taken : (a k : ℕ) (note : Note) → IsBefore actor number a k → note_at lists a k ≡ Some note → IsOfPart first starts (place_index s note.place)
      → IsSome (note_behind lists origins (location s first starts note))

-- the origins of the notes of the place of this number in the part
abbrev pub origins_in : Order → ℕ → List Origin
origins_in order i = slice_range order.origins.items (slice_index order.starts i) (slice_index order.starts (i + 1))

-- these origins show the history of the place
pub record ShowsHistory (s : Script) (lists : List (List Note)) (p : Place) (origins : List Origin) : Type 0 where
  -- the entries of the notes are its history
  pub entries : entries_from lists origins ≡ history p lists
  -- and their lines those that a report shows of it
  pub shows : lines_from s lists origins ≡ map (shown_words s) (shown_history lists p)

-- the order is that of the places from `first` up to `end`, and shows the history of each of them
pub record ShowsHistories (s : Script) (lists : List (List Note)) (first end : ℕ) (order : Order) : Type 0 where
  pub count : first + length order.starts ≡ end + 1
  pub rises : (i : ℕ) → first + i < end → slice_index order.starts i ≤ slice_index order.starts (i + 1)
  pub within : (i : ℕ) → first + i ≤ end → slice_index order.starts i ≤ length order.origins.items
  pub each : (p : Place) → place_exists s p ≡ true → first ≤ place_index s p → place_index s p < end → ShowsHistory s lists p (origins_in order (place_index s p - first))

-- the part has the notes of its places in order
abbrev pub IsInOrder : Script → List (List Note) → Part → Type 0
IsInOrder s lists part = ShowsHistories s lists part.first part.end part.order

-- the places from `first` up to `behind` stand in the part, which is in order
pub record StandIn (s : Script) (lists : List (List Note)) (first behind : ℕ) (part : Part) : Type 0 where
  pub begin : part.first ≤ first
  pub end : behind ≤ part.end
  pub places : part.end ≤ place_count s
  pub order : IsInOrder s lists part
