use Rattle.co_view_top.proofs.Objects.{timer_is}
use Rattle.co_view_top.proofs.views.object_view.Goals as goal

pub returns-then-is_word : goal.returns-then-is_word
returns-then-is_word c = timer_is c.args.word.now c.as_slice.result.now c.args.number c.in_ok-n.n c.is_word.result c.in_ok-n.was c.as_slice.ensures c.is_word.ensures c.if-is_word.true
