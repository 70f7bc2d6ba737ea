-- Something is wrong with the line.
use Rattle.std.proofs.Common.{◌≡◌, subst, sym}
use Rattle.std.specs.Prelude.{Some}
use Rattle.co_program.specs.Scripts.{IsScript}
use Rattle.co_report.specs.PackedLines.{line_of}
use Rattle.co_check.specs.Hearing.{IsReplaying, IsReplayedOn, IsSoFar}
use Rattle.co_check.specs.Replay.{unfit_at}
use Rattle.co_check.proofs.Hearing.{now-bad}
use Rattle.co_check.proofs.heard.Heard.replay_next.Goals as goal

pub returns-in-Some-clause-replayed : goal.returns-in-Some-clause-replayed
returns-in-Some-clause-replayed c s lines h of few =
    let x = c.args.self.now in
    let l = line_of c.args.line c.args.note.now in
    let so = subst (IsSoFar s lines x.replaying) c.requires.fits h.so_far in
    let at = subst (λ t. IsReplaying t lines x.replaying) (sym h.script) so.0 in
    let wrong = subst (λ w. IsReplayedOn x.script.now lines l w c.take.new.self) c.in-Some.is (c.in_ok-cause.ensures lines at) in
    now-bad s lines l c.in-Some.cause so.0.fit (subst (λ t. unfit_at t lines l.place l.entry ≡ Some c.in-Some.cause) h.script wrong)

pub is_line_of-requires : goal.is_line_of-requires
is_line_of-requires c = subst IsScript (sym c.requires.heard.2.script) c.requires.heard.2.accepted

pub take-requires-clause-script : goal.take-requires-clause-script
take-requires-clause-script c = subst IsScript (sym c.requires.heard.2.script) c.requires.heard.2.accepted
