-- The pieces of both halves are those of the whole.
use Rattle.std.proofs.Common.{◌≡◌}
use Rattle.std.specs.List.{concat}
use Rattle.std.proofs.lemmas.Result.{IfOk-at_ok}
use Rattle.co_text.specs.Lines.{text}
use Rattle.co_print.specs.Reports.{lines_between}
use Rattle.co_print.proofs.PartsWritten.{halves-written}
use Rattle.co_print.proofs.by_threads.+halves.Goals as goal

pub print_halves-returns : goal.print_halves-returns
print_halves-returns g t c =
    halves-written c.args.printing.now.script.now c.args.printing.now.lists.now c.args.first c.middle-middle.result c.args.end c.in_ok-pieces.pieces c.in_ok-behind.field-0 _ c.middle-middle.ensures.first c.middle-middle.ensures.end
    (IfOk-at_ok (λ q. concat q ≡ text (lines_between c.args.printing.now.script.now c.args.printing.now.lists.now _ _)) c.in_ok-pieces.was c.join-before.ensures.first)
    (IfOk-at_ok (λ q. concat q ≡ text (lines_between c.args.printing.now.script.now c.args.printing.now.lists.now _ _)) c.in_ok-behind.was c.join-before.ensures.second)
    c.in_ok-append.ensures
