use Rattle.std.proofs.Common.{ℕ, List, sym, ap, ◌∙◌, subst, arith, length-set, rules}
use Rattle.std.specs.Prelude.{slice_get, IsSome}
use Rattle.co_desk.specs.Seats.{IsShown, seats_of, seen_at}
use Rattle.co_desk.proofs.Found.{found, seen_is, own_at, owned, same_all, stands, within}
use Rattle.co_desk.proofs.seats.Seats.meet.Goals as goal

pub returns : goal.returns
returns g c =
    let ps = c.self.inside.passes.items in
    let name = ap (λ s. s.name) c.self.view_is in
    let f = found ps c.args.i c.args.life.now _ c.unwrap-pass.result (ap (λ l. slice_get l c.args.i) name ∙ c.requires.at) c.index_mut.ensures.value (sym c.take.ensures.value ∙ c.unwrap-pass.ensures) in
    let mine = own_at ps c.args.i c.args.life.now c.unwrap-pass.result c.self.inside.actor f c.self.invariant ∙ ap (λ s. s.actor) c.self.view_is in
    let seen = sym (seen_is ps c.args.i c.args.life.now c.unwrap-pass.result f) ∙ ap (λ s. seen_at s c.args.i) c.self.view_is in
    record {
      keeper = search rules;
      same = ap (seats_of c.self.inside.actor) (same_all ps c.args.i c.args.life.now c.unwrap-pass.result c.meet-pass.result _ f c.meet-pass.ensures.pass) ∙ c.self.view_is;
      shown = subst (λ (t : ℕ × List g.row.S-Entry.Denot). IsShown g.S.Story.actor t.0 c.args.keeper.now.history t.1) (λ j. (mine j, seen j)) record { prefix = c.meet-pass.ensures.seen; all_own = c.meet-pass.ensures.own };
      actors = search rules;
      legal = search rules;
    }

pub index_mut-requires : goal.index_mut-requires
index_mut-requires g c =
    let ps = c.self.inside.passes.items in
    let named = ap (λ l. slice_get l c.args.i) (ap (λ s. s.name) c.self.view_is) ∙ c.requires.at in
    let here = within ps c.args.i c.args.life.now named in
    let n = c.self.inside.passes.ok.0 in
    omega arith

pub unwrap-pass-requires : goal.unwrap-pass-requires
unwrap-pass-requires g c =
    let ps = c.self.inside.passes.items in
    let named = ap (λ l. slice_get l c.args.i) (ap (λ s. s.name) c.self.view_is) ∙ c.requires.at in
    subst IsSome (sym c.take.ensures.value) (stands ps c.args.i c.args.life.now c.index_mut.result.now c.self.inside.actor named c.index_mut.ensures.value c.self.invariant)

pub meet-pass-requires-clause-pass : goal.meet-pass-requires-clause-pass
meet-pass-requires-clause-pass g c =
    let ps = c.self.inside.passes.items in
    let named = ap (λ l. slice_get l c.args.i) (ap (λ s. s.name) c.self.view_is) ∙ c.requires.at in
    let f = found ps c.args.i c.args.life.now _ c.unwrap-pass.result named c.index_mut.ensures.value (sym c.take.ensures.value ∙ c.unwrap-pass.ensures) in
    f.of

pub invariant_of-self : goal.invariant_of-self
invariant_of-self g c =
    let ps = c.self.inside.passes.items in
    let named = ap (λ l. slice_get l c.args.i) (ap (λ s. s.name) c.self.view_is) ∙ c.requires.at in
    let f = found ps c.args.i c.args.life.now _ c.unwrap-pass.result named c.index_mut.ensures.value (sym c.take.ensures.value ∙ c.unwrap-pass.ensures) in
    owned ps c.args.i _ c.meet-pass.result c.self.inside.actor c.self.invariant (ap (λ t. t.actor) c.meet-pass.ensures.pass ∙ own_at ps c.args.i c.args.life.now c.unwrap-pass.result c.self.inside.actor f c.self.invariant)

pub index_mut-requires-2 : goal.index_mut-requires-2
index_mut-requires-2 g c =
    let ps = c.self.inside.passes.items in
    let named = ap (λ l. slice_get l c.args.i) (ap (λ s. s.name) c.self.view_is) ∙ c.requires.at in
    let here = within ps c.args.i c.args.life.now named in
    let long = length-set ps c.args.i c.take.new.self in
    let n = c.self.inside.passes.ok.0 in
    omega arith
