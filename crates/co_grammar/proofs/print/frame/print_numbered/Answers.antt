use Rattle.std.proofs.Common.{append_assoc}
use Rattle.co_grammar.proofs.print.frame.print_numbered.Goals as goal

pub returns : goal.returns
returns c =
    let number = simp (c.as_slice.ensures) at c.in_ok-print_lone.ensures in
    rw (c.in_ok-end.ensures, number, c.in_ok-text.ensures) (simp append_assoc)
