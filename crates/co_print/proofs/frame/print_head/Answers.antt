use Rattle.std.proofs.lemmas.Result.{on_ok_weaker}
use Rattle.co_print.proofs.Framed.{head-written}
use Rattle.co_print.proofs.frame.print_head.Goals as goal

pub returns : goal.returns
returns c =
    on_ok_weaker c.print_word.result
    (λ e. head-written c.args.script.now _ _ _ _ _ _ c.in_ok-print_numbered.ensures c.in_ok-print_lines.ensures e c.as_slice.ensures c.as_slice-2.ensures)
    c.print_word.ensures
