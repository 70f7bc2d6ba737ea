-- The sections of a report while its notes are told: each has its heading and the lines of the notes of its place so far.
use Rattle.std.specs.Prelude.{◌≡◌, ℕ, ◌<◌, ◌^◌, List, [], ◌∷◌, ◌++◌, length, map}
use Rattle.std.specs.List.{AllByRecursion, filter, range_with_len}
use Rattle.co_object.specs.declared.Place.{Place}
use Rattle.co_object.specs.Lists.{same_place}
use Rattle.co_listener.specs.MadeNotes.{MadeNote, list_by}
use Rattle.co_program.specs.declared.Script.{Script}
use Rattle.co_program.specs.Actors.{actor_count}
use Rattle.co_program.specs.Scripts.{IsScript}
use Rattle.co_text.specs.Lines.{text}
use Rattle.co_print.specs.Histories.{Numbered, shown}
use Rattle.co_notes.specs.declared.reading.notes.NumberedEntry.{NumberedEntry}
use Rattle.co_print.specs.Order.{place_count}
use Rattle.co_print.specs.Reports.{places, place_lines}
use Rattle.co_report.specs.Typed.{EntryTyped}

-- how many of these notes an actor made
abbrev pub count_by : List MadeNote → ℕ → ℕ
count_by made a = length (list_by made a)

-- the notes that follow these, each with its number in its actor's list
abbrev pub numbered_after : List MadeNote → List MadeNote → List Numbered
numbered_after before [] = []
numbered_after before (m ∷ ms) = record { number = count_by before m.actor; note = m.note } ∷ numbered_after (before ++ m ∷ []) ms

-- the notes of a place in the order in which they are made
abbrev pub told_in : List MadeNote → Place → List NumberedEntry
told_in made place = map shown (filter (λ x. same_place x.note.place place) (numbered_after [] made))

-- the section of a place
abbrev pub section : Script → List MadeNote → Place → List ℕ
section s made place = text (place_lines s (told_in made) place)

-- what is written: the sections in the report's order, and how many notes each actor has made
pub record Written : Type 0 where
  pub script : Script
  pub pages : List (List ℕ)
  pub counts : List ℕ

-- there is a section for each place, and a count for each actor
pub record HasRooms (x : Written) : Type 0 where
  pub script : IsScript x.script
  pub pages : length x.pages ≡ place_count x.script
  pub counts : length x.counts ≡ actor_count x.script

-- these notes are told, all by actors of the script, with values that their types allow
pub record NotesAreTold (x : Written) (made : List MadeNote) : Type 0 where
  pub actors : AllByRecursion (λ m. m.actor < actor_count x.script) made
  pub typed : AllByRecursion (λ m. EntryTyped m.note.entry) made
  pub few : AllByRecursion (λ count. count < 2 ^ 64) x.counts
  pub counts : x.counts ≡ map (count_by made) (range_with_len 0 (actor_count x.script))
  pub pages : x.pages ≡ map (section x.script made) (places x.script)

-- these notes of this script are told
pub record IsToldOf (s : Script) (x : Written) (made : List MadeNote) : Type 0 where
  pub script : x.script ≡ s
  pub told : NotesAreTold x made

abbrev pub no_script : Script
no_script = record { version = 1; hz = 0; cpus = 0; buckets = 0; locks = []; timers = []; funcs = []; clients = []; ticks = []; turns = [] }
