use Rattle.std.proofs.Common.{◌≤◌, sym, ap, ◌∙◌, subst}
use Rattle.co_desk.specs.declared.params.Params.{Params}
use Rattle.co_service.specs.Fresh.{AreNamed}
use Rattle.co_desk.specs.Params.{AreParams}
use Rattle.co_service.proofs.service.Service.open.Goals as goal

pub invariant_of-result : goal.invariant_of-result
invariant_of-result g c =
    let name = ap (λ v. v.name) c.fresh.view_is ∙ c.requires in
    let is = c.fresh.invariant in
    let p = sym c.of.ensures in
    record {
      same = name;
      count = c.in_ok-desks.ensures ∙ ap (λ (q : Params). q.cpus) p;
      some = subst (λ (q : Params). 1 ≤ q.cpus) p is.limits.cpus.0;
      limits = subst AreParams p is.limits;
      named = subst (λ (q : Params). AreNamed g.N.Name.name q) p (subst (λ n. AreNamed n c.fresh.inside.params) name is.named);
    }
