-- What was in the bag is what came to the wheel.
use Rattle.std.proofs.Common.{rules, ◌≡◌, ℕ, zero, suc, ◌<◌, List, [], ◌∷◌, length, get_or, ap, sym, ◌∙◌, arith}
use Rattle.std.specs.Prelude.{Option, Some, None}
use Rattle.std.proofs.lemmas.List.{get_or_read}
use Rattle.std.proofs.lemmas.Option.{none-some}
use Rattle.co_wheel.specs.Parcel.{Parcel}
use Rattle.co_core.specs.Stored.{Stored, bag_at, wheel_at}
use Rattle.co_core.proofs.depot.Depot.land.Goals as goal

-- a bag with something in it is one of the bags
bag_there : (bags : List (Option Parcel)) (a : ℕ) (parcel : Parcel) → get_or bags a None ≡ Some parcel → a < length bags
bag_there [] a parcel is = absurd (none-some parcel is)
bag_there (bag ∷ bags) zero parcel is = omega arith
bag_there (bag ∷ bags) (suc a) parcel is = let there = bag_there bags a parcel is in omega (arith, there)

pub returns : goal.returns
returns c =
    let a = c.args.actor in
    let bags = c.self.inside.bags.items in
    let there : a < length bags = bag_there bags a c.requires.may.parcel (ap (λ (x : Stored). bag_at x a) c.self.view_is ∙ c.requires.may.carried) in
    let bag : bag_at c.args.self.now a ≡ Some c.in-Some.parcel =
    ap (λ (x : Stored). bag_at x a) (sym c.self.view_is) ∙ sym (get_or_read bags a c.index_mut.result.now there c.index_mut.ensures.value None) ∙ sym c.replace-bag.ensures.value ∙ c.in-Some.is in
    let wheel : c.index_mut-wheel.result.now ≡ wheel_at c.args.self.now c.args.cpu = search (rules, get_or_read) in
    (c.in-Some.parcel, c.land.new.self, bag, search rules, search rules)
