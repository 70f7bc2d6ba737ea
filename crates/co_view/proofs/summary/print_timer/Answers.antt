use Rattle.std.proofs.Common.{ℕ, List, ◌++◌, ◌∙◌, ap, codes, decimal}
use Rattle.co_view.specs.declared.scene.Watch.{Watch}
use Rattle.co_view.specs.Scenes.{watch_of}
use Rattle.co_view.specs.Summary.{is_open, one_if, row_text}
use Rattle.co_view.proofs.Pieces.{two_texts}
use Rattle.co_view.proofs.Rows.{ok_then}
use Rattle.co_view.proofs.summary.print_timer.Goals as goal

pub returns : goal.returns
returns c =
    ok_then c.print_row.result c.print_row.ensures
    (λ e. two_texts _ _ _ _ _ (c.in_ok-tagged.ensures ∙ ap (λ (n : ℕ). c.args.page.now ++ (codes "timer " ++ decimal n)) c.from.ensures)
    (e ∙ (ap (λ (cs : List ℕ). c.tagged.new.self ++ row_text cs c.args.i c.pending_of.result) c.as_slice-2.ensures
    ∙ ap (λ (n : ℕ). c.tagged.new.self ++ row_text c.args.tally.now.counts c.args.i n) (c.pending_of.ensures ∙ ap (λ (w : Watch). one_if (is_open w)) (c.watch_of-watch.ensures ∙ ap (λ (s : List Watch). watch_of s c.args.i) c.as_slice.ensures)))))
