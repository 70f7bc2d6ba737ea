-- The histories name the first line that is wrong.
use Rattle.std.proofs.Common.{ap, subst, sym}
use Rattle.std.specs.Prelude.{Option}
use Rattle.co_check.specs.Hearing.{ComesTo}
use Rattle.co_check.specs.Replay.{Bad}
use Rattle.co_check.specs.Verdict.{unless_bad, verdict_by_numbers}
use Rattle.co_check.proofs.checking.check_lines.Goals as goal

pub returns-in-Bad : goal.returns-in-Bad
returns-in-Bad c =
    let s = c.args.script.now in
    let lines = c.args.lines.now in
    let first = subst (ComesTo s lines) c.in-Bad.is c.requires.replayed c.requires.lines c.requires.few in
    sym (ap (λ (bad : Option Bad). unless_bad bad (verdict_by_numbers s lines c.args.end)) first)
