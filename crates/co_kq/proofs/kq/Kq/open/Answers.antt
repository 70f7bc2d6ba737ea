use Rattle.std.proofs.Common.{ap, sym, subst, ◌∙◌, refl}
use Rattle.co_single.specs.Acts.{IsNew}
use Rattle.co_kq.specs.Slots.{knotes_in}
use Rattle.co_kq.proofs.Opening.{opened, none_fired}
use Rattle.co_kq.proofs.kq.Kq.open.Goals as goal

pub invariant_of-result : goal.invariant_of-result
invariant_of-result g c =
    let new : IsNew c.fresh.inside.room c.in_ok-single.single = subst (λ n. IsNew n c.in_ok-single.single) (sym c.fresh.invariant.same) c.in_ok-single.ensures in
    opened c.zero.result c.fresh.inside.room c.fresh.inside.knotes c.fresh.inside.uses c.in_ok-single.single c.zero.ensures new c.fresh.invariant.empty c.fresh.invariant.free c.fresh.invariant.capacity c.fresh.invariant.most

pub returns : goal.returns
returns g c =
    let new = c.in_ok-single.ensures in
    record {
      room = c.fresh.invariant.same ∙ ap (λ v. v.callouts) c.fresh.view_is;
      work = refl;
      list = ap (λ t. record { clock = t; knotes = knotes_in c.fresh.inside.knotes.slots }) c.zero.ensures ∙ ap (λ l. record { clock = 0; knotes = knotes_in l }) c.fresh.invariant.empty;
      fired = none_fired c.in_ok-single.single new.fired;
      scans = new.scans;
    }
