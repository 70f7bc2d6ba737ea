use Rattle.std.proofs.Common.{rules, tests, ◌==◌, ap, ◌∙◌}
use Rattle.std.specs.List.{find}
use Rattle.std.proofs.lemmas.Iterator.{YieldsList-from_slice}
use Rattle.std.proofs.lemmas.Iterator.Search.{find_from_yields_List}
use Rattle.co_sleepq.specs.declared.sleep.Sleep.{Sleep}
use Rattle.co_sleepq.specs.Slots.{BucketView}
use Rattle.co_sleepq.proofs.bucket.Bucket.first_on.Goals as goal

pub returns : goal.returns
returns c =
    c.copied.ensures
    ∙ (find_from_yields_List (λ (x : Sleep). x.chan == c.args.chan) _ _ _ c.find.ensures.ran (YieldsList-from_slice c.self.inside.sleeps.items cc) (λ x b q k. search (rules, tests))
    ∙ ap (λ (b : BucketView). find (λ (x : Sleep). x.chan == c.args.chan) b.sleeps) c.self.view_is)
