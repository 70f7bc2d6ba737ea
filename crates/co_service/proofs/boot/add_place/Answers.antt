use Rattle.std.proofs.Common.{refl, ◌≡◌, ◌+◌, ◌<◌, [], ◌∷◌, ◌++◌, length, sym, ap, ◌∙◌, subst, arith, append_assoc, length-append, vec_len}
use Rattle.std.specs.Prelude.{slice_get}
use Rattle.std.specs.Vec.Iter.{into_iter_items}
use Rattle.co_life.specs.Views.{pass_view}
use Rattle.co_desk.specs.Seats.{fresh_seats}
use Rattle.co_service.specs.Booted.{AreSeatedAt, IsOpened, IsSeated}
use Rattle.co_desk.proofs.Items.{item_at, get_here, get_or_of}
use Rattle.co_service.proofs.Signing.{seated_more, all_more, keeper_kept}
use Rattle.co_service.proofs.boot.add_place.Goals as goal

pub loop-pass-preserved : goal.loop-pass-preserved
loop-pass-preserved g c =
    let at = c.loop-pass in
    let i = at.invariant in
    let x = c.in-Some.pass in
    let p = c.args.params.now in
    let lives = c.args.lives.now in
    let life = c.args.life.now in
    let steps : into_iter_items at.pass-iterator ≡ x ∷ into_iter_items c.next.new.self = c.in-Some.ensures.steps.0 in
    let few : at.actor < vec_len c.args.seats.now = (let was = ap length i.yields in let all = ap length c.into_iter-pass-iterator.ensures.into_iter_gives.0 in let n = c.requires.passes.count in let a = length-append at.yielded (into_iter_items at.pass-iterator) in let b = ap length steps in let d = i.at in omega arith) in
    let fresh = item_at at.yielded x (pass_view life at.actor []) _ c.args.passes.items (ap (λ l. at.yielded ++ l) (sym steps) ∙ (i.yields ∙ c.into_iter-pass-iterator.ensures.into_iter_gives.0)) (ap (slice_get c.args.passes.items) (sym i.at) ∙ c.requires.passes.each at.actor few) in
    let s = c.sign-signed.ensures in
    let one = c.index_mut-one.result.now in
    let within : at.actor < length at.seats.items = (let n = i.seats.count in omega arith) in
    let was : AreSeatedAt p lives at.actor one = subst (AreSeatedAt p lives at.actor) (get_or_of at.seats.items at.actor (fresh_seats [] 0) one (get_here at.seats.items at.actor one within c.index_mut-one.ensures.value)) (i.seats.behind at.actor (omega arith) few) in
    let seated : IsSeated p (length lives) c.sign-signed.new.keeper.history = subst (λ n. IsSeated p n c.sign-signed.new.keeper.history) c.requires.seats.place_is s.seated in
    record {
      yields = append_assoc at.yielded (x ∷ []) _ ∙ rw (← steps) i.yields;
      left = (let was = i.left in let gone = c.in-Some.ensures.steps.1 in let short = ap length steps in omega arith);
      at = ap (λ n. n + 1) i.at ∙ sym (length-append at.yielded (x ∷ []));
      keeper = keeper_kept at.keeper c.sign-signed.new.keeper c.args.keeper.now s.keeper i.keeper;
      opened = s.opened;
      seats = all_more p lives life _ at.actor at.seats.items c.add.new.self i.seats few
          (seated_more p lives life at.actor one c.add.new.self c.sign-signed.new.keeper.history was seated
          (c.in_ok-add.ensures ∙ (λ d. record one { name = one.name ++ ((ap (λ q. q.life) s.pass ∙ ap (λ q. q.life) fresh) d) ∷ []; seen = one.seen ++ (ap (λ q. q.seen) s.pass d) ∷ [] })));
    }

pub sign-signed-requires-clause-keeper : goal.sign-signed-requires-clause-keeper
sign-signed-requires-clause-keeper g c = ap (λ k. k.life) c.loop-pass.invariant.keeper ∙ c.requires.keeper.0

pub sign-signed-requires-clause-pass : goal.sign-signed-requires-clause-pass
sign-signed-requires-clause-pass g c =
    let at = c.loop-pass in
    let i = at.invariant in
    let x = c.in-Some.pass in
    let life = c.args.life.now in
    let steps : into_iter_items at.pass-iterator ≡ x ∷ into_iter_items c.next.new.self = c.in-Some.ensures.steps.0 in
    let few : at.actor < vec_len c.args.seats.now = (let was = ap length i.yields in let all = ap length c.into_iter-pass-iterator.ensures.into_iter_gives.0 in let n = c.requires.passes.count in let a = length-append at.yielded (into_iter_items at.pass-iterator) in let b = ap length steps in let d = i.at in omega arith) in
    let fresh = item_at at.yielded x (pass_view life at.actor []) _ c.args.passes.items (ap (λ l. at.yielded ++ l) (sym steps) ∙ (i.yields ∙ c.into_iter-pass-iterator.ensures.into_iter_gives.0)) (ap (slice_get c.args.passes.items) (sym i.at) ∙ c.requires.passes.each at.actor few) in
    (ap (λ q. q.life) fresh, ap (λ q. q.actor) fresh)

pub sign-signed-requires-clause-opened : goal.sign-signed-requires-clause-opened
sign-signed-requires-clause-opened g c = c.loop-pass.invariant.opened

pub sign-signed-requires-clause-may : goal.sign-signed-requires-clause-may
sign-signed-requires-clause-may g c = c.requires.may

pub add-requires : goal.add-requires
add-requires g c =
    let at = c.loop-pass in
    let i = at.invariant in
    let x = c.in-Some.pass in
    let p = c.args.params.now in
    let lives = c.args.lives.now in
    let life = c.args.life.now in
    let steps : into_iter_items at.pass-iterator ≡ x ∷ into_iter_items c.next.new.self = c.in-Some.ensures.steps.0 in
    let few : at.actor < vec_len c.args.seats.now = (let was = ap length i.yields in let all = ap length c.into_iter-pass-iterator.ensures.into_iter_gives.0 in let n = c.requires.passes.count in let a = length-append at.yielded (into_iter_items at.pass-iterator) in let b = ap length steps in let d = i.at in omega arith) in
    let fresh = item_at at.yielded x (pass_view life at.actor []) _ c.args.passes.items (ap (λ l. at.yielded ++ l) (sym steps) ∙ (i.yields ∙ c.into_iter-pass-iterator.ensures.into_iter_gives.0)) (ap (slice_get c.args.passes.items) (sym i.at) ∙ c.requires.passes.each at.actor few) in
    let s = c.sign-signed.ensures in
    let one = c.index_mut-one.result.now in
    let within : at.actor < length at.seats.items = (let n = i.seats.count in omega arith) in
    let was : AreSeatedAt p lives at.actor one = subst (AreSeatedAt p lives at.actor) (get_or_of at.seats.items at.actor (fresh_seats [] 0) one (get_here at.seats.items at.actor one within c.index_mut-one.ensures.value)) (i.seats.behind at.actor (omega arith) few) in
    ap (λ q. q.actor) s.pass ∙ (ap (λ q. q.actor) fresh ∙ sym was.actor_is)

pub loop-pass-init : goal.loop-pass-init
loop-pass-init g c =
    let gives = c.into_iter-pass-iterator.ensures.into_iter_gives in
    record {
      yields = refl;
      left = (let a = ap length gives.0 in let b = gives.1 in let m = c.args.passes.ok.0 in omega arith);
      at = refl;
      keeper = refl;
      opened = subst (IsOpened c.args.params.now c.args.place 0) (sym c.requires.keeper.1) record { carry = tt; nothing = refl; count = refl };
      seats = c.requires.seats.seats;
    }
