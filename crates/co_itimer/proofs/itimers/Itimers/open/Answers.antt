use Rattle.std.proofs.Common.{sym, subst}
use Rattle.co_single.specs.Acts.{IsNew}
use Rattle.co_itimer.proofs.Ticking.{opens, opened}
use Rattle.co_itimer.specs.Itimers.{IsBetweenTicks, IsOpened}
use Rattle.co_itimer.proofs.itimers.Itimers.open.Goals as goal

pub returns : goal.returns
returns g c =
    let p = c.in_ok-single.single in
    let n = c.fresh.inside.processes in
    let new : IsNew n p = subst (λ m. IsNew m p) (sym c.fresh.invariant.0.same) c.in_ok-single.ensures in
    subst (λ f. IsOpened f.processes (record { alone = c.fresh.inside.book; seen = p; work = 0 })) c.fresh.view_is
    (subst (λ b. IsOpened n (record { alone = b; seen = p; work = 0 })) (sym c.fresh.invariant.1) (opened n p new))

pub invariant_of-result : goal.invariant_of-result
invariant_of-result g c =
    let p = c.in_ok-single.single in
    let n = c.fresh.inside.processes in
    let new : IsNew n p = subst (λ m. IsNew m p) (sym c.fresh.invariant.0.same) c.in_ok-single.ensures in
    subst (λ b. IsBetweenTicks p b 0) (sym c.fresh.invariant.1) (opens n p new)
