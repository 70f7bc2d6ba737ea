-- What is counted of both halves is that of the whole.
use Rattle.std.proofs.Common.{List, subst}
use Rattle.std.proofs.lemmas.Result.{IfOk-at_ok}
use Rattle.co_object.specs.declared.Note.{Note}
use Rattle.co_print.specs.declared.order.Counted.{Counted}
use Rattle.co_print.specs.Order.{AreCounted}
use Rattle.co_print.proofs.Counted.{halves-joined}
use Rattle.co_print.proofs.counting.+counted.Goals as goal

pub returns : goal.returns
returns g t c =
    halves-joined c.args.script.now c.args.lists.now _ c.in_ok-counted.counted c.in_ok-behind.field-0 c.joined.result
    (subst (λ (half : List (List Note)). AreCounted c.args.script.now half c.in_ok-counted.counted) c.split_at.ensures.front
    (IfOk-at_ok (λ (x : Counted). AreCounted c.args.script.now _ x) c.in_ok-counted.was c.join-before.ensures.first))
    (subst (λ (half : List (List Note)). AreCounted c.args.script.now half c.in_ok-behind.field-0) c.split_at.ensures.back
    (IfOk-at_ok (λ (x : Counted). AreCounted c.args.script.now _ x) c.in_ok-behind.was c.join-before.ensures.second))
    c.joined.ensures.length c.joined.ensures.each c.joined.ensures.spots
