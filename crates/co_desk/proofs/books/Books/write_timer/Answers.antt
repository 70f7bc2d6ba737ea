use Rattle.std.proofs.Common.{sym, ap, ◌∙◌, arith}
use Rattle.co_desk.specs.Name.{ServiceName}
use Rattle.co_desk.proofs.BooksKept.{below_here}
use Rattle.co_desk.proofs.BooksWritten.{timer_keeper, timer_legal, timer_back, timer_books, timer_noted}
use Rattle.co_desk.proofs.books.Books.write_timer.Goals as goal

pub write_at-requires-clause-may : goal.write_at-requires-clause-may
write_at-requires-clause-may g c = record {
  keeper = timer_keeper g.N.Name.name c.self.inside.params.value c.self.inside.cpu c.self.inside.keepers.items c.self.inside.journal c.args.self.now c.self.invariant c.self.view_is c.timers.result.now c.args.passes.now.params c.requires.together.params_are (c.timers.ensures ∙ ap (λ (n : ServiceName). n.timers) c.requires.together.here.places_are) c.args.i c.args.entry.now c.index_mut.result.now c.in-Some.keeper c.requires.here c.index_mut.ensures.value c.in-Some.is;
  legal = timer_legal g.N.Name.name c.self.inside.params.value c.self.inside.cpu c.self.inside.keepers.items c.self.inside.journal c.args.self.now c.self.invariant c.self.view_is c.timers.result.now c.args.passes.now.params c.requires.together.params_are (c.timers.ensures ∙ ap (λ (n : ServiceName). n.timers) c.requires.together.here.places_are) c.args.i c.args.entry.now c.index_mut.result.now c.in-Some.keeper c.requires.here c.index_mut.ensures.value c.in-Some.is c.requires.may;
}

pub invariant_of-self : goal.invariant_of-self
invariant_of-self g c =
    timer_back g.N.Name.name c.self.inside.params.value c.self.inside.cpu c.self.inside.keepers.items c.self.inside.journal c.args.self.now c.self.invariant c.self.view_is c.timers.result.now c.args.passes.now.params c.requires.together.params_are (c.timers.ensures ∙ ap (λ (n : ServiceName). n.timers) c.requires.together.here.places_are) c.args.i c.args.entry.now c.index_mut.result.now c.in-Some.keeper c.requires.here c.index_mut.ensures.value c.in-Some.is c.write_at.new.keeper c.write_at.ensures.kept.keeper

pub returns : goal.returns
returns g c = record {
  books = timer_books g.N.Name.name c.self.inside.params.value c.self.inside.cpu c.self.inside.keepers.items c.self.inside.journal c.args.self.now c.self.invariant c.self.view_is c.timers.result.now c.args.passes.now.params c.requires.together.params_are (c.timers.ensures ∙ ap (λ (n : ServiceName). n.timers) c.requires.together.here.places_are) c.args.i c.args.entry.now c.index_mut.result.now c.in-Some.keeper c.requires.here c.index_mut.ensures.value c.in-Some.is c.write_at.new.keeper c.write_at.ensures.kept.history;
  written = timer_noted g.N.Name.name c.self.inside.params.value c.self.inside.cpu c.self.inside.keepers.items c.self.inside.journal c.args.self.now c.self.invariant c.self.view_is c.timers.result.now c.args.passes.now.params c.requires.together.params_are (c.timers.ensures ∙ ap (λ (n : ServiceName). n.timers) c.requires.together.here.places_are) c.args.i c.args.entry.now c.index_mut.result.now c.in-Some.keeper c.requires.here c.index_mut.ensures.value c.in-Some.is c.args.passes.now c.write_at.new.passes c.write_at.result c.write_at.new.keeper c.write_at.ensures.kept.history c.write_at.ensures.written;
}

pub write_at-requires-clause-name : goal.write_at-requires-clause-name
write_at-requires-clause-name g c = ap (λ (n : ServiceName). n.timers) c.requires.together.here.passes_are ∙ sym (c.timers.ensures ∙ ap (λ (n : ServiceName). n.timers) c.requires.together.here.places_are)

pub index_mut-requires : goal.index_mut-requires
index_mut-requires g c =
    let here = below_here g.N.Name.name c.self.inside.params.value c.self.inside.cpu c.self.inside.keepers.items c.self.inside.journal c.args.self.now c.self.invariant c.self.view_is c.args.i c.requires.here in
    let n = c.self.inside.keepers.ok.0 in
    omega arith
