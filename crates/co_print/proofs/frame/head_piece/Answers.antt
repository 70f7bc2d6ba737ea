use Rattle.std.proofs.Common.{◌≡◌}
use Rattle.std.proofs.lemmas.Result.{IfOk-weaker}
use Rattle.co_print.proofs.Framed.{head-alone}
use Rattle.co_print.proofs.frame.head_piece.Goals as goal

pub returns : goal.returns
returns c =
    IfOk-weaker c.done.result (λ head. head ≡ c.print_head.new.page) _
    (λ head e. head-alone c.args.script.now _ _ _ c.new-page.ensures c.in_ok-print_head.ensures e)
    c.done.ensures
