-- Each head is alone in its ring.
use Rattle.std.proofs.Common.{◌≡◌, refl, replicate, rules}
use Rattle.co_bucket.proofs.NoneLinked.{made-empty}
use Rattle.co_bucket.proofs.rings.Rings.new.Goals as goal

pub returns : goal.returns
returns c =
    let place : c.in_ok-vec.field-0.items ≡ replicate c.args.size c.args.count = c.in_ok-vec.ensures.items_if_clones_equal (λ y h. search rules) in
    made-empty c.args.size c.args.count _ refl refl c.in_ok-count_up.ensures c.in_ok-count_up-2.ensures place
