-- What holds of every generated script, and of the counts of a run.
use Rattle.std.specs.Prelude.{◌≡◌, ℕ, ◌+◌, ◌<◌, true, List, length}
use Rattle.co_object.specs.declared.Note.{Note}
use Rattle.co_object.specs.Actors.{Actors}
use Rattle.co_object.specs.History.{IsLegal}
use Rattle.co_object.specs.Lists.{callout_history}
use Rattle.co_program.specs.declared.Script.{Script}
use Rattle.co_program.specs.Action.{spec_at}
use Rattle.co_script.specs.Fits.{fits}
use Rattle.co_gen.specs.Generator.{generated}
use Rattle.co_gen.specs.Soak.{counts_of}

-- a generated script is one that some text stands for
abbrev pub GeneratedScriptsFit : Type 0
GeneratedScriptsFit = (seed : ℕ) → fits (generated seed) ≡ true

-- each callout's notes are a legal history
abbrev pub HaveLegalHistories : Actors → Script → List (List Note) → Type 0
HaveLegalHistories actors s lists = (i : ℕ) → i < length s.timers → IsLegal actors (spec_at s i) (callout_history i lists)

-- each accepted arming is counted once among the fates
abbrev pub FatesAddUp : Type 0
FatesAddUp = (actors : Actors) (s : Script) (lists : List (List Note)) → HaveLegalHistories actors s lists →
    (counts_of s lists).armed ≡ (counts_of s lists).fired + (counts_of s lists).superseded + (counts_of s lists).stopped + (counts_of s lists).pending
