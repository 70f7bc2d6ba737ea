use Rattle.std.proofs.Common.{ℕ, List, sym, ap, ◌∙◌, subst, arith, length-set}
use Rattle.std.specs.Prelude.{slice_get, slice_set, IsSome}
use Rattle.co_life.specs.Seen.{Extends}
use Rattle.co_desk.specs.Seats.{seen_at}
use Rattle.co_desk.proofs.Found.{found, seen_is, own_at, owned, same_name, new_seen, stands, within}
use Rattle.co_desk.proofs.seats.Seats.write.Goals as goal

pub returns : goal.returns
returns g c =
    let ps = c.self.inside.passes.items in
    let name = ap (λ s. s.name) c.self.view_is in
    let f = found ps c.args.i c.args.life.now _ c.unwrap-pass.result (ap (λ l. slice_get l c.args.i) name ∙ c.requires.place.at) c.index_mut.ensures.value (sym c.take.ensures.value ∙ c.unwrap-pass.ensures) in
    let own = own_at ps c.args.i c.args.life.now c.unwrap-pass.result c.self.inside.actor f c.self.invariant ∙ ap (λ s. s.actor) c.self.view_is in
    let seen = sym (seen_is ps c.args.i c.args.life.now c.unwrap-pass.result f) ∙ ap (λ s. seen_at s c.args.i) c.self.view_is in
    let E = g.row.S-Entry.Denot in
    record {
      keeper = c.write-pass.ensures.keeper;
      name = same_name ps c.args.i c.args.life.now c.unwrap-pass.result c.write-pass.result.0 _ f (ap (λ t. t.life) c.write-pass.ensures.pass ∙ f.of) ∙ name;
      actor = ap (λ s. s.actor) c.self.view_is;
      seen = new_seen ps c.args.i c.write-pass.result.0 _ ∙ (λ j. slice_set (c.self.view_is j).seen c.args.i (c.write-pass.ensures.pass j).seen);
      extends = subst (λ (t : ℕ × List E × List E). Extends g.S.Story.actor t.0 t.1 c.args.entry t.2) (λ j. (own j, seen j, (c.write-pass.ensures.pass j).seen)) c.write-pass.ensures.extends;
      position = c.write-pass.ensures.position;
      actors = c.write-pass.ensures.actors;
    }

pub index_mut-requires : goal.index_mut-requires
index_mut-requires g c =
    let ps = c.self.inside.passes.items in
    let named = ap (λ l. slice_get l c.args.i) (ap (λ s. s.name) c.self.view_is) ∙ c.requires.place.at in
    let here = within ps c.args.i c.args.life.now named in
    let n = c.self.inside.passes.ok.0 in
    omega arith

pub unwrap-pass-requires : goal.unwrap-pass-requires
unwrap-pass-requires g c =
    let ps = c.self.inside.passes.items in
    let named = ap (λ l. slice_get l c.args.i) (ap (λ s. s.name) c.self.view_is) ∙ c.requires.place.at in
    subst IsSome (sym c.take.ensures.value) (stands ps c.args.i c.args.life.now c.index_mut.result.now c.self.inside.actor named c.index_mut.ensures.value c.self.invariant)

pub write-pass-requires-clause-pass : goal.write-pass-requires-clause-pass
write-pass-requires-clause-pass g c =
    let ps = c.self.inside.passes.items in
    let named = ap (λ l. slice_get l c.args.i) (ap (λ s. s.name) c.self.view_is) ∙ c.requires.place.at in
    let f = found ps c.args.i c.args.life.now _ c.unwrap-pass.result named c.index_mut.ensures.value (sym c.take.ensures.value ∙ c.unwrap-pass.ensures) in
    f.of

pub write-pass-requires-clause-actor : goal.write-pass-requires-clause-actor
write-pass-requires-clause-actor g c =
    let ps = c.self.inside.passes.items in
    let named = ap (λ l. slice_get l c.args.i) (ap (λ s. s.name) c.self.view_is) ∙ c.requires.place.at in
    let f = found ps c.args.i c.args.life.now _ c.unwrap-pass.result named c.index_mut.ensures.value (sym c.take.ensures.value ∙ c.unwrap-pass.ensures) in
    c.requires.actor ∙ sym (own_at ps c.args.i c.args.life.now c.unwrap-pass.result c.self.inside.actor f c.self.invariant ∙ ap (λ s. s.actor) c.self.view_is)

pub invariant_of-self : goal.invariant_of-self
invariant_of-self g c =
    let ps = c.self.inside.passes.items in
    let named = ap (λ l. slice_get l c.args.i) (ap (λ s. s.name) c.self.view_is) ∙ c.requires.place.at in
    let f = found ps c.args.i c.args.life.now _ c.unwrap-pass.result named c.index_mut.ensures.value (sym c.take.ensures.value ∙ c.unwrap-pass.ensures) in
    owned ps c.args.i _ c.write-pass.result.0 c.self.inside.actor c.self.invariant (ap (λ t. t.actor) c.write-pass.ensures.pass ∙ own_at ps c.args.i c.args.life.now c.unwrap-pass.result c.self.inside.actor f c.self.invariant)

pub index_mut-requires-2 : goal.index_mut-requires-2
index_mut-requires-2 g c =
    let ps = c.self.inside.passes.items in
    let named = ap (λ l. slice_get l c.args.i) (ap (λ s. s.name) c.self.view_is) ∙ c.requires.place.at in
    let here = within ps c.args.i c.args.life.now named in
    let long = length-set ps c.args.i c.take.new.self in
    let n = c.self.inside.passes.ok.0 in
    omega arith

pub write-pass-requires-clause-keeper : goal.write-pass-requires-clause-keeper
write-pass-requires-clause-keeper g c = c.requires.place.keeper

pub write-pass-requires-clause-legal : goal.write-pass-requires-clause-legal
write-pass-requires-clause-legal g c = c.requires.legal
