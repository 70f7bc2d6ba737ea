-- One note more is counted.
use Rattle.co_gen.proofs.OneMoreCounted.{on-ok}
use Rattle.co_gen.proofs.tally.TallyOfListener.write.Goals as goal

pub returns-clause-has : goal.returns-clause-has
returns-clause-has g c = on-ok c.take.result c.take.ensures (λ taken made told. taken g.S.Subject.script made c.args.actor c.requires.actor told)
