-- One more part is written.
use Rattle.std.proofs.Common.{sym, ap, ◌++◌, ◌∙◌, append-nil, arith}
use Rattle.co_print.proofs.PartsWritten.{text-none, more-written}
use Rattle.co_print.proofs.report.Printing.print_places.Goals as goal

pub loop-number-init : goal.loop-number-init
loop-number-init c = sym (append-nil c.args.page.now) ∙ ap (λ t. c.args.page.now ++ t) (text-none c.args.self.now.script.now c.args.self.now.lists.now c.args.first)

pub loop-number-preserved : goal.loop-number-preserved
loop-number-preserved c =
    more-written c.args.self.now.script.now c.args.self.now.lists.now c.args.first c.loop-number.number c.in_ok-place.place _ _ _ (omega arith) c.in_ok-place.ensures.exists c.in_ok-place.ensures.number
    c.loop-number.invariant c.in_ok-print_place.ensures
