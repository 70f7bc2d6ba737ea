use Rattle.std.proofs.Common.{◌≡◌, ℕ, ◌+◌, ◌<◌, [], ◌∷◌, ◌++◌, length, sym, ap, ◌∙◌, subst, arith, length-append}
use Rattle.std.specs.Prelude.{slice_get}
use Rattle.co_service.specs.Booted.{AreSeatedAt, booted}
use Rattle.co_desk.specs.Seats.{fresh_seats}
use Rattle.co_desk.proofs.Items.{get_here, get_or_of}
use Rattle.co_service.proofs.Joined.{each_more, left_after, seated_own}
use Rattle.co_service.proofs.joining.join_all.Goals as goal

pub join-requires-clause-timers : goal.join-requires-clause-timers
join-requires-clause-timers c =
    let at = c.loop-actor in
    let one = c.index_mut.result.now in
    let within : at.actor < length at.timers.items = (let n = at.invariant.timers.count in let t = c.loop-actor-test.true in omega arith) in
    let was : AreSeatedAt c.args.params.now c.args.places.now.timers at.actor one = subst (AreSeatedAt c.args.params.now c.args.places.now.timers at.actor) (get_or_of at.timers.items at.actor (fresh_seats [] 0) one (get_here at.timers.items at.actor one within c.index_mut.ensures.value)) (at.invariant.timers.left at.actor (omega arith) (omega arith)) in
    seated_own c.args.params.now c.args.places.now.timers at.actor c.replace-callouts.result (subst (AreSeatedAt c.args.params.now c.args.places.now.timers at.actor) (sym c.replace-callouts.ensures.value) was)

pub join-requires-clause-named : goal.join-requires-clause-named
join-requires-clause-named c =
    let at = c.loop-actor in
    let one = c.index_mut.result.now in
    let within : at.actor < length at.timers.items = (let n = at.invariant.timers.count in let t = c.loop-actor-test.true in omega arith) in
    let was : AreSeatedAt c.args.params.now c.args.places.now.timers at.actor one = subst (AreSeatedAt c.args.params.now c.args.places.now.timers at.actor) (get_or_of at.timers.items at.actor (fresh_seats [] 0) one (get_here at.timers.items at.actor one within c.index_mut.ensures.value)) (at.invariant.timers.left at.actor (omega arith) (omega arith)) in
    let two = c.index_mut-in-loop-actor.result.now in
    let within' : at.actor < length at.cpus.items = (let n = at.invariant.cpus.count in let t = c.loop-actor-test.true in omega arith) in
    let was' : AreSeatedAt c.args.params.now c.args.places.now.cpus at.actor two = subst (AreSeatedAt c.args.params.now c.args.places.now.cpus at.actor) (get_or_of at.cpus.items at.actor (fresh_seats [] 0) two (get_here at.cpus.items at.actor two within' c.index_mut-in-loop-actor.ensures.value)) (at.invariant.cpus.left at.actor (omega arith) (omega arith)) in
    record {
      timers = ap (λ s. length s.name) c.replace-callouts.ensures.value ∙ (ap length was.name_is ∙ c.requires.named.timers);
      cpus = ap (λ s. length s.name) c.replace-wheels.ensures.value ∙ (ap length was'.name_is ∙ c.requires.named.cpus);
    }

pub loop-actor-preserved : goal.loop-actor-preserved
loop-actor-preserved c =
    let at = c.loop-actor in
    let p = c.args.params.now in
    let one = c.index_mut.result.now in
    let two = c.index_mut-in-loop-actor.result.now in
    let within : at.actor < length at.timers.items = (let n = at.invariant.timers.count in let t = c.loop-actor-test.true in omega arith) in
    let within' : at.actor < length at.cpus.items = (let n = at.invariant.cpus.count in let t = c.loop-actor-test.true in omega arith) in
    let was : AreSeatedAt p c.args.places.now.timers at.actor one = subst (AreSeatedAt p c.args.places.now.timers at.actor) (get_or_of at.timers.items at.actor (fresh_seats [] 0) one (get_here at.timers.items at.actor one within c.index_mut.ensures.value)) (at.invariant.timers.left at.actor (omega arith) (omega arith)) in
    let was' : AreSeatedAt p c.args.places.now.cpus at.actor two = subst (AreSeatedAt p c.args.places.now.cpus at.actor) (get_or_of at.cpus.items at.actor (fresh_seats [] 0) two (get_here at.cpus.items at.actor two within' c.index_mut-in-loop-actor.ensures.value)) (at.invariant.cpus.left at.actor (omega arith) (omega arith)) in
    let timers = ap (λ s. s.name) c.replace-callouts.ensures.value ∙ was.name_is in
    let cpus = ap (λ s. s.name) c.replace-wheels.ensures.value ∙ was'.name_is in
    let joined : c.join.result ≡ booted c.args.places.now p at.actor = c.join.ensures ∙ (λ d. booted (record { timers = timers d; cpus = cpus d }) p at.actor) in
    let all : c.push.new.self ≡ at.all ++ c.join.result ∷ [] = c.in_ok-push.ensures.ok in
    let long : length at.all ≡ at.actor = at.invariant.count in
    record {
      count = ap length all ∙ (length-append at.all (c.join.result ∷ []) ∙ ap (λ (n : ℕ). n + 1) long);
      each = λ j below. ap (λ l. slice_get l j) all ∙ each_more (λ k. booted c.args.places.now p k) at.all c.join.result at.actor (sym long) (λ k less. at.invariant.each k (omega arith)) joined j (omega arith);
      timers = left_after p c.args.places.now.timers c.args.actors at.actor at.timers.items c.replace-callouts.new.dest at.invariant.timers;
      cpus = left_after p c.args.places.now.cpus c.args.actors at.actor at.cpus.items c.replace-wheels.new.dest at.invariant.cpus;
    }

pub join-requires-clause-cpus : goal.join-requires-clause-cpus
join-requires-clause-cpus c =
    let at = c.loop-actor in
    let one = c.index_mut-in-loop-actor.result.now in
    let within : at.actor < length at.cpus.items = (let n = at.invariant.cpus.count in let t = c.loop-actor-test.true in omega arith) in
    let was : AreSeatedAt c.args.params.now c.args.places.now.cpus at.actor one = subst (AreSeatedAt c.args.params.now c.args.places.now.cpus at.actor) (get_or_of at.cpus.items at.actor (fresh_seats [] 0) one (get_here at.cpus.items at.actor one within c.index_mut-in-loop-actor.ensures.value)) (at.invariant.cpus.left at.actor (omega arith) (omega arith)) in
    seated_own c.args.params.now c.args.places.now.cpus at.actor c.replace-wheels.result (subst (AreSeatedAt c.args.params.now c.args.places.now.cpus at.actor) (sym c.replace-wheels.ensures.value) was)
