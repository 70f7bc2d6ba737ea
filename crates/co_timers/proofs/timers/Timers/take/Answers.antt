-- What is taken may be served, by the limits of the service's callouts.
use Rattle.std.proofs.Common.{false, subst, true}
use Rattle.co_desk.specs.Params.{AreParams}
use Rattle.co_timers.proofs.Picks.{has_taken}
use Rattle.co_timers.proofs.timers.Timers.take.Goals as goal

pub returns-in-true-clause-next : goal.returns-in-true-clause-next
returns-in-true-clause-next g c =
    has_taken g.N.Name.name c.args.self.now.params (subst (λ v. AreParams v.params) c.self.view_is c.self.invariant.limits) c.args.direct c.args.passes.now c.next_direct.new.passes c.args.cpu c.args.act
    c.requires.at_ease.below c.requires.at_ease.handle c.requires.at_ease.free true c.next_direct.result c.in-true.is c.next_direct.ensures.taken c.next_direct.ensures.kept.next

pub returns-in-false-clause-next : goal.returns-in-false-clause-next
returns-in-false-clause-next g c =
    has_taken g.N.Name.name c.args.self.now.params (subst (λ v. AreParams v.params) c.self.view_is c.self.invariant.limits) c.args.direct c.args.passes.now c.next.new.passes c.args.cpu c.args.act
    c.requires.at_ease.below c.requires.at_ease.handle c.requires.at_ease.free false c.next.result c.in-false.is c.next.ensures.taken c.next.ensures.kept.next
