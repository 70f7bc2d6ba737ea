-- What the notes of a script's actors are after a run: each callout's history is one of that callout alone and each CPU's
-- journal one of a plain timer queue, made of exactly the steps of the actors' programs.
use Rattle.std.specs.Prelude.{◌≡◌, ℕ, ◌<◌, Bool, List, [], length, map, slice_index_or}
use Rattle.std.specs.List.{AllByRecursion}
use Rattle.co_object.specs.declared.note.Note.{Note}
use Rattle.co_object.specs.declared.queue.QReply.TheVariants.{Missing}
use Rattle.co_object.specs.Actors.{Actors}
use Rattle.co_object.specs.History.{IsLegal}
use Rattle.co_object.specs.Journal.{IsLegalQueue}
use Rattle.co_object.specs.Lists.{callout_history, cpu_journal, IsWellFormed}
use Rattle.co_program.specs.declared.script.Script.{Script}
use Rattle.co_program.specs.Action.{spec_at}
use Rattle.co_program.specs.Actors.{actor_count, client_count}
use Rattle.co_program.specs.Follows.{Follows, Histories}
use Rattle.co_program.specs.Places.{AllHavePlaces}

-- who may make which entry
abbrev pub actors_of : Script → Actors
actors_of s = record { version = s.version; clients = client_count s; cpus = s.cpus }

-- which callouts are serviced by interrupts
abbrev pub are_direct : Script → List Bool
are_direct s = map (λ spec. spec.direct) s.timers

-- the histories that lists of notes show
abbrev pub shown_histories : List (List Note) → Histories
shown_histories lists = record { timers = λ i. callout_history i lists; cpus = λ cpu. cpu_journal cpu lists }

-- an actor's notes
abbrev pub notes_by : List (List Note) → ℕ → List Note
notes_by lists actor = slice_index_or lists actor []

-- these are the lists of notes of a run of the script
pub record IsRunOf (s : Script) (lists : List (List Note)) : Type 0 where
  -- one list for each actor, of notes in places of the script
  pub actors : length lists ≡ actor_count s
  pub places : AllHavePlaces s lists
  -- the positions of each place are 0, 1, 2, .., each once, and rise in each actor's list
  pub formed : IsWellFormed lists
  -- each entry of a callout is possible where it stands, has the reply of that callout alone, and is made by who may make it
  pub callouts : (i : ℕ) → i < length s.timers → IsLegal (actors_of s) (spec_at s i) (callout_history i lists)
  -- the same of each CPU, whose object is the plain timer queue
  pub cpus : (cpu : ℕ) → cpu < s.cpus → IsLegalQueue (actors_of s) cpu s.buckets (are_direct s) (cpu_journal cpu lists)
  -- an arming that a call takes out of a queue stands there
  pub found : (cpu : ℕ) → cpu < s.cpus → AllByRecursion (λ e. e.reply ≡ Missing → ⊥) (cpu_journal cpu lists)
  -- the notes of each actor are those of its whole program, each once and in order
  pub follow : (a : ℕ) → a < actor_count s → Follows s (shown_histories lists) a (notes_by lists a)
