-- When nothing is wrong with the histories that a report's lines show.
use Rattle.std.specs.Prelude.{◌≡◌, ℕ, List, None}
use Rattle.co_object.specs.History.{IsLegal}
use Rattle.co_object.specs.Journal.{IsLegalQueue}
use Rattle.co_program.specs.declared.script.Script.{Script}
use Rattle.co_program.specs.Action.{spec_at}
use Rattle.co_program.specs.Runs.{actors_of, are_direct}
use Rattle.co_report.specs.declared.line.Line.{Line}
use Rattle.co_check.specs.declared.verdict.Verdict.TheVariants.{Legal}
use Rattle.co_check.specs.Replay.{first_unfit}
use Rattle.co_check.specs.Shown.{callout_history, cpu_journal}
use Rattle.co_check.specs.Verdict.{verdict_of}

-- each callout's history is one of that callout alone, and each CPU's journal one of a plain timer queue
pub record AreLegal (s : Script) (lines : List Line) : Type 0 where
  pub callouts : (i : ℕ) → IsLegal (actors_of s) (spec_at s i) (callout_history i lines)
  pub cpus : (cpu : ℕ) → IsLegalQueue (actors_of s) cpu s.buckets (are_direct s) (cpu_journal cpu lines)

abbrev pub HistoriesOfLegalReports : Type 0
HistoriesOfLegalReports = (s : Script) (lines : List Line) (end : ℕ) → verdict_of s lines end ≡ Legal → AreLegal s lines

abbrev pub LegalHistoriesFit : Type 0
LegalHistoriesFit = (s : Script) (lines : List Line) → AreLegal s lines → first_unfit s lines ≡ None
