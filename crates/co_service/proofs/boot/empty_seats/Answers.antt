use Rattle.std.proofs.Common.{◌≡◌, [], ◌∷◌, length, ap, ◌∙◌, arith, length-append}
use Rattle.co_service.specs.Booted.{seats_at}
use Rattle.co_service.proofs.Signing.{fresh_more}
use Rattle.co_service.proofs.boot.empty_seats.Goals as goal

pub loop-actor-preserved : goal.loop-actor-preserved
loop-actor-preserved g c =
    let at = c.loop-actor in
    let all = c.in_ok-push.ensures.pushed in
    let seats = c.in_ok-seats.seats in
    let long : length at.all.items ≡ at.actor = (let n = at.invariant.count in let m = at.all.ok.0 in omega arith) in
    record {
      count = (let n = ap length all in let a = length-append at.all.items (seats ∷ []) in let m = c.push.new.items.ok.0 in omega arith);
      each = λ k below. ap (λ l. seats_at l k) all ∙ fresh_more at.all.items seats at.actor long at.invariant.each c.in_ok-seats.ensures k below;
    }
