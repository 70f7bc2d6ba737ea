use Rattle.std.proofs.Common.{ℕ, List, get_or, ap, ◌++◌, ◌∙◌}
use Rattle.std.specs.Prelude.{slice_get}
use Rattle.co_view.specs.Pictures.{told_of}
use Rattle.co_view.specs.Rolls.{roll_text}
use Rattle.co_view.proofs.Rows.{grown}
use Rattle.co_view.proofs.Stories.{story_all, story_more}
use Rattle.co_view.proofs.picture.tell_all.Goals as goal

pub loop-step-preserved : goal.loop-step-preserved
loop-step-preserved c =
    let t : List ℕ = told_of c.args.picture c.loop-step.step c.loop-step.scene (slice_get c.args.lines.now (get_or c.args.order.now c.loop-step.step 0)) in
    story_more c.args.picture c.args.lines.now c.args.order.now c.loop-step.step c.loop-step.scene _ (roll_text c.loop-step.roll) _ _ c.loop-step-test.true c.loop-step.invariant
    (grown c.row.new.self.pieces c.row.new.self.page c.tell_step.new.page t c.in_ok-tell_step.ensures.text ∙ ap (λ (u : List ℕ). u ++ t) c.in_ok-row.ensures) c.in_ok-tell_step.ensures.scene

pub returns : goal.returns
returns c = story_all c.args.picture c.args.lines.now c.args.order.now c.loop-step.step c.loop-step.scene _ _ c.loop-step-test.false c.loop-step.invariant
