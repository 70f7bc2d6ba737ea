-- The halves of all places, of this script and these lists.
use Rattle.std.proofs.Common.{◌≡◌, ◌∙◌}
use Rattle.std.specs.List.{concat}
use Rattle.std.proofs.lemmas.Result.{IfOk-weaker}
use Rattle.co_text.specs.Lines.{text}
use Rattle.co_print.specs.Reports.{lines_between}
use Rattle.co_print.proofs.PartsWritten.{all-written}
use Rattle.co_print.proofs.by_threads.print_all_places.Goals as goal

pub returns : goal.returns
returns g c =
    IfOk-weaker c.print_halves.result (λ q. concat q ≡ text (lines_between c.in_ok-printing.printing.script.now c.in_ok-printing.printing.lists.now 0 c.place_count-end.result)) _
    (λ q is. all-written _ c.args.script.now _ c.args.lists.now _ q c.in_ok-printing.ensures.script (c.in_ok-printing.ensures.lists ∙ c.as_slice-lists.ensures) c.place_count-end.ensures is)
    c.print_halves.ensures
