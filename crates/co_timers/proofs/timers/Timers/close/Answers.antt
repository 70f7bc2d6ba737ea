-- What the service ends with is of its parameters, which are the handle's.
use Rattle.std.proofs.Common.{List, ap, subst, ◌∙◌}
use Rattle.co_service.specs.Closing.{AreEnded, AreEndedCpus, HasEach}
use Rattle.co_desk.specs.Views.{PassesView}
use Rattle.co_desk.specs.declared.params.Params.{Params}
use Rattle.co_timers.specs.Timers.{TimersView}
use Rattle.co_timers.proofs.timers.Timers.close.Goals as goal

pub returns-clause-each : goal.returns-clause-each
returns-clause-each g c =
    let same = c.self.invariant.same ∙ ap (λ (v : TimersView). v.params) c.self.view_is in
    subst (λ (b : List PassesView). HasEach c.args.self.params b) c.into_back.ensures.back
    (subst (λ (p : Params). HasEach p c.into_back.result) same c.close.ensures.each)

pub returns-clause-timers : goal.returns-clause-timers
returns-clause-timers g c =
    let same = c.self.invariant.same ∙ ap (λ (v : TimersView). v.params) c.self.view_is in
    subst (λ (b : List PassesView). AreEnded c.args.self.params b c.close.result.timers) c.into_back.ensures.back
    (subst (λ (p : Params). AreEnded p c.into_back.result c.close.result.timers) same c.close.ensures.timers)

pub returns-clause-cpus : goal.returns-clause-cpus
returns-clause-cpus g c =
    let same = c.self.invariant.same ∙ ap (λ (v : TimersView). v.params) c.self.view_is in
    subst (λ (b : List PassesView). AreEndedCpus c.args.self.params b c.close.result.cpus) c.into_back.ensures.back
    (subst (λ (p : Params). AreEndedCpus p c.into_back.result c.close.result.cpus) same c.close.ensures.cpus)
