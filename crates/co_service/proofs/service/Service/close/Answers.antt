use Rattle.std.proofs.Common.{◌≡◌, ◌<◌, ◌≤◌, ℕ, List, length, sym, ap, ◌∙◌, subst}
use Rattle.co_desk.specs.declared.params.Params.{Params}
use Rattle.co_service.specs.Closing.{EndEach, of_actor}
use Rattle.co_desk.specs.Kinds.{cpu_kind, timer_kind}
use Rattle.co_desk.specs.Views.{PassesView}
use Rattle.co_service.proofs.Ended.{all_ended}
use Rattle.co_service.proofs.service.Service.close.Goals as goal

pub returns-clause-timers : goal.returns-clause-timers
returns-clause-timers g c =
    let is = c.self.invariant in
    let out = c.end_all.result in
    all_ended timer_kind g.N.Name.name c.args.self c.args.passes c.requires (subst (λ (p : Params). 1 ≤ p.cpus) c.self.view_is is.some) _ out.timers
    (c.end_all.ensures.timers_count ∙ (is.named.timers ∙ ap (λ (p : Params). length p.specs) c.self.view_is))
    (subst (λ l. EndEach timer_kind l out.timers) c.into_vec-passes.ensures c.end_all.ensures.timers)

pub returns-clause-cpus : goal.returns-clause-cpus
returns-clause-cpus g c =
    let is = c.self.invariant in
    let out = c.end_all.result in
    all_ended cpu_kind g.N.Name.name c.args.self c.args.passes c.requires (subst (λ (p : Params). 1 ≤ p.cpus) c.self.view_is is.some) _ out.cpus
    (c.end_all.ensures.cpus_count ∙ (is.named.cpus ∙ ap (λ (p : Params). p.cpus) c.self.view_is))
    (subst (λ l. EndEach cpu_kind l out.cpus) c.into_vec-passes.ensures c.end_all.ensures.cpus)

pub returns-clause-each : goal.returns-clause-each
returns-clause-each g c = record {
  once = λ actor below. subst (λ (l : List PassesView). (a : ℕ) → a < length l → of_actor l a ≡ 1) c.into_vec-passes.ensures c.check_each.ensures actor (subst (λ (n : ℕ). actor < n) (sym c.requires.count) below);
}
