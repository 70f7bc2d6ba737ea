use Rattle.std.proofs.Common.{false, length, sym, subst, ap, ◌∙◌}
use Rattle.co_desk.specs.Services.{IsFree}
use Rattle.co_single.specs.Acts.{IsNew}
use Rattle.co_single.specs.Rest.{HasNoService}
use Rattle.co_single.specs.Seen.{AreSingle}
use Rattle.co_single.proofs.Opening.{new_single, new_free, is_new, rests_new}
use Rattle.co_single.proofs.single.Single.open.Goals as goal

pub invariant_of-result : goal.invariant_of-result
invariant_of-result g c =
    let f = c.fresh.inside.fresh in
    let i = c.fresh.invariant.0 in
    let n = length f.params.specs in
    let same = c.in_ok-service.ensures in
    record {
      of = record {
        name_is = ap (λ v. v.name) i.passes ∙ (ap (λ v. v.name) c.fresh.view_is ∙ c.requires);
        params_are = ap (λ v. v.params) i.passes ∙ sym same;
      };
      single = subst (λ x. AreSingle (length x.specs) c.fresh.inside.passes) (sym same) (subst (AreSingle n) (sym i.passes) (new_single n f.name f.params i.named i.params));
      free = subst (λ v. IsFree false v 0) (sym i.passes) (new_free n f.name f.params i.named i.params);
      rest = subst HasNoService (sym i.passes) (rests_new n f.name f.params i.named i.params);
      nothing = c.fresh.invariant.1.nothing;
      room = c.fresh.invariant.1.room;
    }

pub returns : goal.returns
returns g c =
    let f = c.fresh.inside.fresh in
    let i = c.fresh.invariant.0 in
    let n = length f.params.specs in
    subst (λ m. IsNew m c.fresh.inside.passes) (ap (λ v. v.callouts) c.fresh.view_is) (subst (IsNew n) (sym i.passes) (is_new n f.name f.params i.named i.params))
