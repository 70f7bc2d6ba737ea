use Rattle.std.proofs.Common.{[], sym, subst, arith}
use Rattle.co_service.specs.Booted.{ArePlaces}
use Rattle.co_service.proofs.Signing.{no_places}
use Rattle.co_service.proofs.boot.make_places.Goals as goal

pub loop-place-init : goal.loop-place-init
loop-place-init g c =
    let all = c.in_ok-seats.seats in
    subst (λ ks. ArePlaces c.args.params.now 0 c.args.actors c.new-lives.result ks all.items) (sym c.new-keepers.ensures.items)
    (subst (λ ls. ArePlaces c.args.params.now 0 c.args.actors ls [] all.items) (sym c.new-lives.ensures)
    (no_places c.args.params.now c.args.actors all.items (let n = c.in_ok-seats.ensures.count in let m = all.ok.0 in omega arith) c.in_ok-seats.ensures.each))

pub loop-place-preserved : goal.loop-place-preserved
loop-place-preserved g c = c.in_ok-make_place.ensures

pub make_place-requires-clause-places : goal.make_place-requires-clause-places
make_place-requires-clause-places g c = c.loop-place.invariant
