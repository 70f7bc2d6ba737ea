use Rattle.std.proofs.Common.{ℕ, List, ◌++◌, length, replicate, ap, ◌∙◌, append_assoc}
use Rattle.co_view.specs.Pictures.{back_text, front_text, story}
use Rattle.co_view.specs.Scenes.{quiet}
use Rattle.co_view.proofs.Rows.{grown, same_text}
use Rattle.co_view.proofs.picture.print_all.Goals as goal

pub returns : goal.returns
returns c =
    let front : List ℕ = front_text c.args.picture c.args.report.now.script (length c.args.order.now) in
    let notes : List ℕ = story c.args.picture c.args.report.now.lines 0 (replicate (length c.args.report.now.script.timers) quiet) c.args.order.now in
    let back : List ℕ = back_text c.args.picture in
    let begun = grown c.args.roll.now.pieces c.args.roll.now.page c.print_front.new.page front c.in_ok-print_front.ensures ∙ ap (λ (u : List ℕ). u ++ front) c.requires.empty in
    let told = c.in_ok-tell_order.ensures ∙ ap (λ (u : List ℕ). u ++ notes) begun in
    let over = grown c.tell_order.new.roll.pieces c.tell_order.new.roll.page c.print_back.new.page back c.in_ok-print_back.ensures in
    same_text c.done.result _ _ (over ∙ (ap (λ (u : List ℕ). u ++ back) told ∙ append_assoc front notes back)) c.done.ensures
