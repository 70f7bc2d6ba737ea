-- What a run on threads brings back.
use Rattle.std.specs.Prelude.{◌≡◌, List, map, length}
use Rattle.std.specs.List.{range_with_len}
use Rattle.co_object.specs.declared.note.Entry.{Entry}
use Rattle.co_object.specs.declared.note.Note.{Note}
use Rattle.co_object.specs.declared.note.QEntry.{QEntry}
use Rattle.co_object.specs.Lists.{callout_history, cpu_journal}
use Rattle.co_program.specs.declared.script.Script.{Script}
use Rattle.co_program.specs.Runs.{IsRunOf}
use Rattle.co_run.specs.declared.runs.Ran.{Ran}

-- the history of each callout that the lists show
abbrev pub shown_timers : Script → List (List Note) → List (List Entry)
shown_timers s lists = map (λ i. callout_history i lists) (range_with_len 0 (length s.timers))

-- the journal of each CPU that the lists show
abbrev pub shown_cpus : Script → List (List Note) → List (List QEntry)
shown_cpus s lists = map (λ cpu. cpu_journal cpu lists) (range_with_len 0 s.cpus)

-- the lists are a run of the script, and show the histories of the service that made it
pub record IsRan (s : Script) (ran : Ran) : Type 0 where
  pub run : IsRunOf s ran.lists
  pub timers : ran.closing.timers ≡ shown_timers s ran.lists
  pub cpus : ran.closing.cpus ≡ shown_cpus s ran.lists
