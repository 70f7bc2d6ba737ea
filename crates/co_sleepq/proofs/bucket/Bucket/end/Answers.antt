use Rattle.std.proofs.Common.{not, ◌==◌, ap, ◌∙◌, rules}
use Rattle.std.proofs.lemmas.Fn.{filter_same}
use Rattle.co_sleepq.specs.declared.sleep.Sleep.{Sleep}
use Rattle.co_sleepq.specs.Sleepers.{without}
use Rattle.co_sleepq.specs.Slots.{BucketView}
use Rattle.co_sleepq.proofs.Slotted.{bucket_is}
use Rattle.co_sleepq.proofs.bucket.Bucket.end.Goals as goal

pub returns : goal.returns
returns c =
    let kept = filter_same _ (λ (y : Sleep). not (y.s == c.args.s)) _ (λ y b f' k. search rules) _ _ c.retain.ensures.filtered in
    bucket_is kept c.retain.ensures.capacity
    ∙ ap (λ (b : BucketView). record b { sleeps = without c.args.s b.sleeps }) c.self.view_is
