use Rattle.co_view.proofs.Rows.{ok_then}
use Rattle.co_view.proofs.picture.tell_order.Goals as goal

pub returns : goal.returns
returns c = ok_then c.tell_all.result c.tell_all.ensures (λ e. simp (c.as_slice-2.ensures, c.in_ok-scene.ensures, c.as_slice.ensures) at e)
