-- The verdict on a report: the first thing that is wrong, in this order. Each timer's and CPU's history; then the notes' numbers;
-- then each actor's notes beside its program; then whether each actor's program has ended.
use Rattle.std.specs.Prelude.{ℕ, Bool, true, false, List, Option, Some, None}
use Rattle.std.specs.List.{list_any}
use Rattle.co_program.specs.declared.script.Script.{Script}
use Rattle.co_report.specs.declared.line.Line.{Line}
use Rattle.co_report.specs.declared.line.Report.{Report}
use Rattle.co_check.specs.declared.verdict.Unfit.TheVariants.{Follows, Missing}
use Rattle.co_check.specs.declared.verdict.Verdict.{Verdict}
use Rattle.co_check.specs.declared.verdict.Verdict.TheVariants.{Legal, Not}
use Rattle.co_check.specs.Replay.{Bad, first_unfit}
use Rattle.co_check.specs.Numbers.{first_misnumbered}
use Rattle.co_check.specs.Astray.{astray_of, is_unfinished, first_astray_of}
use Rattle.co_program.specs.Actors.{all_actors}

-- nobody's program goes on, or the report ends too early
abbrev pub verdict_at_end : Bool → ℕ → Verdict
verdict_at_end false end = Legal
verdict_at_end true end = Not end Missing

abbrev pub unless_astray : Option ℕ → Verdict → Verdict
unless_astray (Some line) later = Not line Follows
unless_astray None later = later

abbrev pub unless_bad : Option Bad → Verdict → Verdict
unless_bad (Some bad) later = Not bad.line bad.cause
unless_bad None later = later

-- the verdict by the actors' programs
abbrev pub verdict_by_programs : Script → List Line → ℕ → Verdict
verdict_by_programs s lines end =
    unless_astray (first_astray_of (astray_of s lines) (all_actors s))
    (verdict_at_end (list_any (is_unfinished s lines) (all_actors s)) end)

-- by the numbers before that
abbrev pub verdict_by_numbers : Script → List Line → ℕ → Verdict
verdict_by_numbers s lines end = unless_bad (first_misnumbered lines) (verdict_by_programs s lines end)

-- and by the histories before all else
abbrev pub verdict_of : Script → List Line → ℕ → Verdict
verdict_of s lines end = unless_bad (first_unfit s lines) (verdict_by_numbers s lines end)

abbrev pub verdict : Report → Verdict
verdict report = verdict_of report.script report.lines report.end
