use Rattle.std.proofs.Common.{ap, ◌++◌, ◌∙◌}
use Rattle.std.proofs.lemmas.Result.{on_ok_weaker}
use Rattle.co_script.proofs.Runs.{run_written}
use Rattle.co_script.proofs.print.runs.print_run.Goals as goal

pub returns : goal.returns
returns c =
    let verb = simp (c.as_slice.ensures) at c.in_ok-text.ensures in
    let actor = simp (c.as_slice-2.ensures) at c.in_ok-tagged.ensures in
    let number = simp (c.as_slice-3.ensures) at c.in_ok-tagged-2.ensures in
    on_ok_weaker c.end.result (λ end. run_written _ _ _ _ _ _ _ verb (actor ∙ ap (λ w. c.text.new.self ++ w) c.actor_name-letter.ensures) number end) c.end.ensures
