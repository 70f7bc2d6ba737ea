-- What fits can run. A run's notes are in their places, so they are printed, and their report is legal.
use Rattle.std.proofs.Common.{subst}
use Rattle.std.specs.List.{concat}
use Rattle.co_script.proofs.Accepted.{fits-accepted}
use Rattle.co_report.specs.Typed.{ListsTyped}
use Rattle.co_top.proofs.Accepts.{reported_ran}
use Rattle.co_top.proofs.running.report_of_run.Goals as goal

pub run_packed-requires-clause-script : goal.run_packed-requires-clause-script
run_packed-requires-clause-script g c = λ κs lives. fits-accepted c.args.script.now c.requires

pub run_packed-requires-clause-locks : goal.run_packed-requires-clause-locks
run_packed-requires-clause-locks g c = λ κs lives. c.fitting_scripts_can_run.ensures.locks c.args.script.now c.requires

pub run_packed-requires-clause-params : goal.run_packed-requires-clause-params
run_packed-requires-clause-params g c = λ κs lives. c.fitting_scripts_can_run.ensures.params c.args.script.now c.requires

pub returns : goal.returns
returns g c =
    let typed : ListsTyped c.in_ok-ran.ran.lists = subst ListsTyped c.as_slice.ensures c.lists_are_typed.ensures in
    reported_ran c.args.script.now c.requires c.in_ok-ran.ran.lists c.in_ok-ran.ran.closing (concat c.in_ok-pieces.pieces) c.in_ok-ran.ensures typed c.in_ok-pieces.ensures
