-- A line was bad before.
use Rattle.std.proofs.Common.{◌++◌, ◌∷◌, [], subst, sym}
use Rattle.co_report.specs.PackedLines.{line_of}
use Rattle.co_check.specs.Hearing.{IsSoFar, bad_of}
use Rattle.co_check.proofs.Hearing.{bad-on}
use Rattle.co_check.proofs.heard.Heard.replay.Goals as goal

pub returns-in-Some-clause-replayed : goal.returns-in-Some-clause-replayed
returns-in-Some-clause-replayed c s lines h =
    let x = c.args.self.now in
    let l = line_of c.args.line c.args.note.now in
    let so = subst (IsSoFar s lines x.replaying) c.in-Some.is h.so_far in
    subst (IsSoFar s (lines ++ l ∷ []) x.replaying) (sym c.in-Some.is) (bad-on s lines l (bad_of c.in-Some.field-0) so)
