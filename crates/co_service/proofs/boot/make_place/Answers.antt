use Rattle.std.proofs.Common.{◌≡◌, [], ◌∷◌, sym, ap, ◌∙◌, subst, arith, vec_len}
use Rattle.std.proofs.lemmas.Result.{on_ok_weaker}
use Rattle.co_life.specs.Views.{AreFresh}
use Rattle.co_service.specs.Booted.{AreSeated, IsOpened}
use Rattle.co_service.proofs.Signing.{places_more, ready_for}
use Rattle.co_service.proofs.boot.make_place.Goals as goal

pub add_place-requires-clause-seats : goal.add_place-requires-clause-seats
add_place-requires-clause-seats g c =
    let at = c.requires.places in
    let seats = c.args.made.now.seats in
    let n : vec_len seats ≡ c.args.actors = (let k = at.seated.count in let m = seats.ok.0 in omega arith) in
    record { place_is = sym at.lives_are; seats = ready_for c.args.params.now c.args.made.now.lives (c.in_ok-life.life ∷ []) c.args.actors (vec_len seats) seats.items (sym n) at.seated }

pub add_place-requires-clause-keeper : goal.add_place-requires-clause-keeper
add_place-requires-clause-keeper g c =
    let made = c.in_ok-life.ensures.keeper in
    (ap (λ k. k.life) made, ap (λ k. k.history) made)

pub returns : goal.returns
returns g c =
    let at = c.requires.places in
    let p = c.args.params.now in
    let seats = c.args.made.now.seats in
    let e = c.in_ok-add_place.ensures in
    let made = c.in_ok-life.ensures.keeper in
    let n : vec_len seats ≡ c.args.actors = (let k = at.seated.count in let m = seats.ok.0 in omega arith) in
    on_ok_weaker c.keep.result
    (λ kept. places_more p c.args.place c.args.actors (vec_len seats) c.args.made.now.lives c.keep.new.self.lives c.args.made.now.keepers.items c.keep.new.self.keepers.items seats.items c.keep.new.self.seats.items c.in_ok-life.life c.add_place.new.keeper at
    kept.0 kept.1 (ap (λ k. k.life) e.keeper ∙ ap (λ k. k.life) made) (ap (λ k. k.actors) e.keeper ∙ ap (λ k. k.actors) made)
    (subst (λ m. IsOpened p c.args.place m c.add_place.new.keeper.history) n e.opened) n (subst (λ v. AreSeated p c.args.made.now.lives (c.in_ok-life.life ∷ []) (vec_len seats) (vec_len seats) v.items) (sym kept.2) e.seats))
    c.keep.ensures

pub add_place-requires-clause-few : goal.add_place-requires-clause-few
add_place-requires-clause-few g c = let n = c.requires.places.seated.count in let m = c.args.made.now.seats.ok.0 in omega arith

pub add_place-requires-clause-passes : goal.add_place-requires-clause-passes
add_place-requires-clause-passes g c =
    let seats = c.args.made.now.seats in
    let n : vec_len seats ≡ c.args.actors = (let k = c.requires.places.seated.count in let m = seats.ok.0 in omega arith) in
    subst (λ m. AreFresh c.in_ok-life.life m c.into_vec-passes.result.items) (sym n) (subst (AreFresh c.in_ok-life.life c.args.actors) (sym c.into_vec-passes.ensures) c.in_ok-life.ensures.passes)
