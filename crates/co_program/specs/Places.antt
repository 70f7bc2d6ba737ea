-- The places of a script, and notes that stand in them.
use Rattle.std.specs.Prelude.{◌≡◌, ℕ, ◌+◌, Bool, true, nat_lt, List, length}
use Rattle.std.specs.List.{AllByRecursion}
use Rattle.co_object.specs.declared.note.Place.{Place}
use Rattle.co_object.specs.declared.note.Place.TheVariants as place
use Rattle.co_object.specs.declared.note.Note.{Note}
use Rattle.co_program.specs.declared.script.Script.{Script}
use Rattle.co_program.specs.Actors.{actor_count}

-- the script has this timer, this CPU or this actor
abbrev pub place_exists : Script → Place → Bool
place_exists s (place.Timer i) = nat_lt i (length s.timers)
place_exists s (place.Cpu c) = nat_lt c s.cpus
place_exists s (place.Actor a) = nat_lt a (actor_count s)

-- the number of a place among those of the script
abbrev pub place_index : Script → Place → ℕ
place_index s (place.Timer i) = i
place_index s (place.Cpu c) = length s.timers + c
place_index s (place.Actor a) = length s.timers + s.cpus + a

abbrev pub place_count : Script → ℕ
place_count s = length s.timers + s.cpus + actor_count s

-- each of these notes stands in a place of the script
abbrev pub HavePlaces : Script → List Note → Type 0
HavePlaces s notes = AllByRecursion (λ note. place_exists s note.place ≡ true) notes

abbrev pub AllHavePlaces : Script → List (List Note) → Type 0
AllHavePlaces s lists = AllByRecursion (λ notes. HavePlaces s notes) lists
