-- All places, in the frame of the report.
use Rattle.std.proofs.Common.{ap, ◌++◌, ◌∙◌}
use Rattle.std.proofs.lemmas.Result.{on_ok_weaker}
use Rattle.co_print.proofs.Framed.{text-framed}
use Rattle.co_print.proofs.PartsWritten.{report-written}
use Rattle.co_print.proofs.report.Printing.print.Goals as goal

pub returns : goal.returns
returns c =
    on_ok_weaker c.print_word.result
    (λ e. text-framed c.args.self.now.script.now _ _ _ _ _ _ c.in_ok-print_head.ensures c.in_ok-print_places.ensures e c.as_slice.ensures
    ∙ ap (λ t. c.args.page.now ++ t) (report-written c.args.self.now.script.now c.args.self.now.lists.now c.place_count-count.result c.place_count-count.ensures))
    c.print_word.ensures
