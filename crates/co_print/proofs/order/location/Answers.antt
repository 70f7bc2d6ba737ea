use Rattle.co_print.proofs.order.location.Goals as goal

pub returns : goal.returns
returns c = cc
