-- The counts at the end are those of the lists.
use Rattle.std.proofs.Common.{◌∙◌}
use Rattle.co_gen.proofs.AllCounted.{counted-all}
use Rattle.co_gen.proofs.tally.Tally.total.Goals as goal

pub returns : goal.returns
returns c s made told order legal = c.ended.ensures ∙ counted-all s made c.args.self.counts told.actors told.counts order legal
