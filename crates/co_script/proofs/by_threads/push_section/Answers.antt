-- The section that was read stands behind the others.
use Rattle.std.proofs.Common.{sym, subst}
use Rattle.std.specs.List.{All}
use Rattle.std.proofs.lemmas.List.Elements.{All-push}
use Rattle.std.proofs.lemmas.Result.{on_ok_weaker}
use Rattle.co_script.specs.Beside.{IsSection}
use Rattle.co_script.proofs.by_threads.push_section.Goals as goal

pub returns : goal.returns
returns c =
    let isSection = IsSection c.args.text.now c.args.frame.now in
    on_ok_weaker c.push.result
    (λ is. subst (All isSection) (sym is) (All-push isSection c.args.sections.now c.in_ok-section.section c.requires.before c.in_ok-section.ensures))
    c.push.ensures.ok
