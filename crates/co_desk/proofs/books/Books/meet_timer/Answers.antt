use Rattle.std.proofs.Common.{◌≡◌, List, sym, ap, ◌∙◌, subst, arith}
use Rattle.std.specs.Prelude.{slice_get}
use Rattle.std.specs.declared.option.Option.{Option}
use Rattle.std.specs.declared.option.Option.TheVariants.{Some}
use Rattle.co_object.specs.declared.note.Entry.{Entry}
use Rattle.co_desk.specs.Books.{entries_in}
use Rattle.co_desk.specs.Name.{ServiceName}
use Rattle.co_desk.specs.Seats.{IsShown}
use Rattle.co_desk.specs.Stories.{IsHistory, by}
use Rattle.co_desk.specs.Views.{IsKeeperOf, seen_of}
use Rattle.co_desk.proofs.BooksKept.{history_here, keeper_of, legal_here, same_books, same_life, kept_once, below_here, of_params}
use Rattle.co_desk.proofs.Writing.{below_get}
use Rattle.co_desk.proofs.books.Books.meet_timer.Goals as goal

pub index_mut-requires : goal.index_mut-requires
index_mut-requires g c =
    let here = below_here g.N.Name.name c.self.inside.params.value c.self.inside.cpu c.self.inside.keepers.items c.self.inside.journal c.args.self.now c.self.invariant c.self.view_is c.args.i c.requires.here in
    let n = c.self.inside.keepers.ok.0 in
    omega arith

pub meet_at-requires-clause-place : goal.meet_at-requires-clause-place
meet_at-requires-clause-place g c =
    record {
      at = (λ d. slice_get (c.requires.service.passes_are d).timers c.args.i) ∙ ((λ d. slice_get (sym (c.timers.ensures ∙ ap (λ (n : ServiceName). n.timers) c.requires.service.places_are) d) c.args.i) ∙ c.get.ensures);
      keeper = same_life g.N.Name.name.timers c.timers.result.now c.args.i c.in-Some.keeper.life c.get.result.now (sym (c.timers.ensures ∙ ap (λ (n : ServiceName). n.timers) c.requires.service.places_are)) (keeper_of g.N.Name.name c.self.inside.params.value c.self.inside.cpu c.self.inside.keepers.items c.self.inside.journal c.args.self.now c.self.invariant c.self.view_is c.args.i c.index_mut.result.now c.in-Some.keeper c.requires.here c.index_mut.ensures.value c.in-Some.is).life c.get.ensures;
    }

pub get-requires : goal.get-requires
get-requires g c =
    let at = keeper_of g.N.Name.name c.self.inside.params.value c.self.inside.cpu c.self.inside.keepers.items c.self.inside.journal c.args.self.now c.self.invariant c.self.view_is c.args.i c.index_mut.result.now c.in-Some.keeper c.requires.here c.index_mut.ensures.value c.in-Some.is in
    below_get c.timers.result.now c.args.i c.in-Some.keeper.life (subst (λ l. slice_get l c.args.i ≡ Some c.in-Some.keeper.life) (sym (c.timers.ensures ∙ ap (λ (n : ServiceName). n.timers) c.requires.service.places_are)) at.life)

pub meet_at-requires-clause-opened : goal.meet_at-requires-clause-opened
meet_at-requires-clause-opened g c =
    (c.args.self.now.params, (keeper_of g.N.Name.name c.self.inside.params.value c.self.inside.cpu c.self.inside.keepers.items c.self.inside.journal c.args.self.now c.self.invariant c.self.view_is c.args.i c.index_mut.result.now c.in-Some.keeper c.requires.here c.index_mut.ensures.value c.in-Some.is).opened)

pub invariant_of-self : goal.invariant_of-self
invariant_of-self g c =
    let at = keeper_of g.N.Name.name c.self.inside.params.value c.self.inside.cpu c.self.inside.keepers.items c.self.inside.journal c.args.self.now c.self.invariant c.self.view_is c.args.i c.index_mut.result.now c.in-Some.keeper c.requires.here c.index_mut.ensures.value c.in-Some.is in
    kept_once g.N.Name.name c.self.inside.params.value c.self.inside.cpu c.self.inside.keepers.items c.self.inside.journal c.args.self.now c.self.invariant c.self.view_is c.args.i (Some c.meet_at.new.keeper) (below_here g.N.Name.name c.self.inside.params.value c.self.inside.cpu c.self.inside.keepers.items c.self.inside.journal c.args.self.now c.self.invariant c.self.view_is c.args.i c.requires.here)
    (of_params g.N.Name.name c.self.inside.params.value c.self.inside.cpu c.self.inside.keepers.items c.self.inside.journal c.args.self.now c.self.invariant c.self.view_is c.args.i c.meet_at.new.keeper (subst (IsKeeperOf IsHistory g.N.Name.name.timers c.args.self.now.params c.args.i) (sym c.meet_at.ensures.keeper) at))

pub returns : goal.returns
returns g c = record {
  kept = same_books g.N.Name.name c.self.inside.params.value c.self.inside.cpu c.self.inside.keepers.items c.self.inside.journal c.args.self.now c.self.invariant c.self.view_is c.args.i c.index_mut.result.now c.in-Some.keeper c.requires.here c.index_mut.ensures.value c.in-Some.is c.meet_at.new.keeper c.meet_at.ensures.keeper;
  passes = c.meet_at.ensures.same;
  shown = subst (λ (o : Option (List Entry)). IsShown by c.args.passes.now.actor (entries_in o) (seen_of c.args.passes.now c.args.i)) (sym (history_here g.N.Name.name c.self.inside.params.value c.self.inside.cpu c.self.inside.keepers.items c.self.inside.journal c.args.self.now c.self.invariant c.self.view_is c.args.i c.index_mut.result.now c.in-Some.keeper c.requires.here c.index_mut.ensures.value c.in-Some.is)) c.meet_at.ensures.met.shown;
  legal = legal_here g.N.Name.name c.self.inside.params.value c.self.inside.cpu c.self.inside.keepers.items c.self.inside.journal c.args.self.now c.self.invariant c.self.view_is c.args.i c.index_mut.result.now c.in-Some.keeper c.requires.here c.index_mut.ensures.value c.in-Some.is;
}
