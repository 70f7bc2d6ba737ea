use Rattle.std.proofs.Common.{subst}
use Rattle.co_itimer.proofs.Setting.{none-fires}
use Rattle.co_single.specs.Acts.{NothingFires}
use Rattle.co_itimer.proofs.itimers.Itimers.set.Goals as goal

pub returns-clause-seen : goal.returns-clause-seen
returns-clause-seen g c =
    subst (λ v. NothingFires v.seen c.set_to.new.single) c.self.view_is
    (none-fires c.self.inside.single c.set_to.new.single c.args.p c.next-next.result c.set_to.ensures.set)
