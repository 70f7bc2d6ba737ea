use Rattle.std.proofs.Common.{ℕ, sym, ap, ◌∙◌, subst}
use Rattle.co_desk.specs.Books.{BooksView}
use Rattle.co_desk.specs.Desk.{Owes}
use Rattle.co_desk.specs.Lines.{made}
use Rattle.co_desk.specs.Name.{ServiceName}
use Rattle.co_desk.specs.Kinds.{cpu_kind}
use Rattle.co_desk.specs.Writes.{WritesEntry}
use Rattle.co_desk.proofs.BooksWritten.{journal_back, journal_books, journal_keeper, journal_legal}
use Rattle.co_desk.proofs.DeskKept.{owes_next}
use Rattle.co_desk.proofs.books.Books.write.Goals as goal

pub write_at-requires-clause-name : goal.write_at-requires-clause-name
write_at-requires-clause-name g c = ap (λ (n : ServiceName). n.cpus) c.requires.together.here.passes_are ∙ sym (c.cpus.ensures ∙ ap (λ (n : ServiceName). n.cpus) c.requires.together.here.places_are)

pub write_at-requires-clause-may : goal.write_at-requires-clause-may
write_at-requires-clause-may g c = record {
  keeper = journal_keeper g.N.Name.name c.self.inside.params.value c.self.inside.cpu c.self.inside.keepers.items c.self.inside.journal c.args.self.now c.self.invariant c.self.view_is c.cpus.result.now c.args.passes.now.params c.requires.together.params_are (c.cpus.ensures ∙ ap (λ (n : ServiceName). n.cpus) c.requires.together.here.places_are) c.args.entry.now;
  legal = journal_legal g.N.Name.name c.self.inside.params.value c.self.inside.cpu c.self.inside.keepers.items c.self.inside.journal c.args.self.now c.self.invariant c.self.view_is c.cpus.result.now c.args.passes.now.params c.requires.together.params_are (c.cpus.ensures ∙ ap (λ (n : ServiceName). n.cpus) c.requires.together.here.places_are) c.args.entry.now c.requires.may;
}

pub invariant_of-self : goal.invariant_of-self
invariant_of-self g c =
    journal_back g.N.Name.name c.self.inside.params.value c.self.inside.cpu c.self.inside.keepers.items c.self.inside.journal c.args.self.now c.self.invariant c.self.view_is c.cpus.result.now c.args.passes.now.params c.requires.together.params_are (c.cpus.ensures ∙ ap (λ (n : ServiceName). n.cpus) c.requires.together.here.places_are) c.args.entry.now c.write_at.new.keeper c.write_at.ensures.kept.keeper

pub returns : goal.returns
returns g c =
    let books = journal_books g.N.Name.name c.self.inside.params.value c.self.inside.cpu c.self.inside.keepers.items c.self.inside.journal c.args.self.now c.self.invariant c.self.view_is c.cpus.result.now c.args.passes.now.params c.requires.together.params_are (c.cpus.ensures ∙ ap (λ (n : ServiceName). n.cpus) c.requires.together.here.places_are) c.args.entry.now c.write_at.new.keeper c.write_at.ensures.kept.history in
    record {
      books = books;
      written = subst (λ (k : ℕ). WritesEntry cpu_kind c.args.passes.now k c.args.entry.now c.write_at.result (made c.write_at.new.keeper.history) c.write_at.new.passes) (ap (λ (b : BooksView). b.cpu) c.self.view_is) c.write_at.ensures.written;
      goes_on = λ turns w o. subst (Owes turns w) (sym books) (owes_next c.args.self.now c.args.entry.now turns w o);
    }
