use Rattle.std.proofs.Common.{ap, sym, ◌∙◌}
use Rattle.co_view.specs.Scenes.{scene_after}
use Rattle.co_view.proofs.Rows.{some_read}
use Rattle.co_view.proofs.Stories.{told_is}
use Rattle.co_view.proofs.picture.tell_step.Goals as goal

pub returns-in_ok-tell-in-Some-clause-text : goal.returns-in_ok-tell-in-Some-clause-text
returns-in_ok-tell-in-Some-clause-text c =
    told_is c.args.picture c.args.lines.now c.args.index c.args.step c.args.scene.now c.as_slice.result.now c.in-Some.line.now c.args.page.now c.tell.new.page (some_read c.args.lines.now c.args.index c.in-Some.line.now c.in-Some.ensures.lookup.3.0 c.in-Some.ensures.lookup.1) c.as_slice.ensures c.in_ok-tell-in-Some.ensures

pub returns-in_ok-tell-in-Some-clause-scene : goal.returns-in_ok-tell-in-Some-clause-scene
returns-in_ok-tell-in-Some-clause-scene c =
    c.take.ensures ∙ ap (scene_after c.args.step c.args.scene.now) (sym (some_read c.args.lines.now c.args.index c.in-Some.line.now c.in-Some.ensures.lookup.3.0 c.in-Some.ensures.lookup.1))
