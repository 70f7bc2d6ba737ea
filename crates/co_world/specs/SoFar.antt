-- What the notes of a script's actors are at every moment of a run, whether or not their programs have ended.
use Rattle.std.specs.Prelude.{◌≡◌, ℕ, ◌<◌, List, length}
use Rattle.std.specs.List.{AllByRecursion}
use Rattle.co_object.specs.declared.note.Note.{Note}
use Rattle.co_object.specs.declared.queue.QReply.TheVariants.{Missing}
use Rattle.co_object.specs.History.{IsLegal}
use Rattle.co_object.specs.Journal.{IsLegalQueue}
use Rattle.co_object.specs.Lists.{callout_history, cpu_journal, IsWellFormed}
use Rattle.co_program.specs.declared.script.Script.{Script}
use Rattle.co_program.specs.Action.{spec_at}
use Rattle.co_program.specs.Actors.{actor_count}
use Rattle.co_program.specs.Places.{AllHavePlaces}
use Rattle.co_program.specs.Runs.{actors_of, are_direct}

pub record IsRunSoFar (s : Script) (lists : List (List Note)) : Type 0 where
  -- one list for each actor, of notes in places of the script
  pub actors : length lists ≡ actor_count s
  pub places : AllHavePlaces s lists
  -- the positions of each place are 0, 1, 2, .., each once, and rise in each actor's list
  pub formed : IsWellFormed lists
  -- each callout has one legal history of that callout alone, and each CPU one of a plain timer queue
  pub callouts : (i : ℕ) → i < length s.timers → IsLegal (actors_of s) (spec_at s i) (callout_history i lists)
  pub cpus : (cpu : ℕ) → cpu < s.cpus → IsLegalQueue (actors_of s) cpu s.buckets (are_direct s) (cpu_journal cpu lists)
  -- an arming that a call takes out of a queue stands there
  pub found : (cpu : ℕ) → cpu < s.cpus → AllByRecursion (λ e. e.reply ≡ Missing → ⊥) (cpu_journal cpu lists)
