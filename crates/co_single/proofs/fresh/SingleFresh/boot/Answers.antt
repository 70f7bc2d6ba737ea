use Rattle.std.proofs.Common.{◌≡◌, length, ap, sym, subst, ◌∙◌, arith}
use Rattle.co_service.specs.Crew.{AreNew}
use Rattle.co_desk.specs.Params.{actor_count, no_spec}
use Rattle.co_service.proofs.Crews.{leaves}
use Rattle.co_single.specs.Seen.{single_params}
use Rattle.co_single.proofs.Opening.{length-replicate}
use Rattle.co_single.proofs.fresh.SingleFresh.boot.Goals as goal

pub invariant_of-result : goal.invariant_of-result
invariant_of-result c =
    let params : c.in_ok-fresh.fresh.params ≡ single_params c.args.callouts = c.in_ok-fresh.ensures.params in
    let long : length c.in_ok-fresh.fresh.params.specs ≡ c.args.callouts = ap (λ x. length x.specs) params ∙ length-replicate c.args.callouts no_spec in
    let booted = c.in_ok-fresh.ensures.passes in
    let one : actor_count c.in_ok-fresh.fresh.params ≡ 1 = ap actor_count params in
    let new : AreNew c.in_ok-fresh.fresh.name c.in_ok-fresh.fresh.params 1 c.into_vec.result.items = subst (AreNew c.in_ok-fresh.fresh.name c.in_ok-fresh.fresh.params 1) (sym c.into_vec.ensures) (record { count = booted.count ∙ one; each = λ j low. booted.each j (omega (arith, one, low)) }) in (
      record {
        params = params ∙ ap single_params (sym long);
        passes = (leaves c.in_ok-fresh.fresh.name c.in_ok-fresh.fresh.params 0 c.into_vec.result.items c.pop.new.self.items c.pop.result c.in-Some.passes c.pop.ensures.items c.in-Some.is new).0;
        named = c.in_ok-fresh.ensures.named;
      },
      c.in_ok-ending.ensures,
    )
