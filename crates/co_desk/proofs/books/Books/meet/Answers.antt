use Rattle.std.proofs.Common.{◌≡◌, sym, ap, ◌∙◌, subst}
use Rattle.std.specs.Prelude.{slice_get}
use Rattle.std.specs.declared.option.Option.TheVariants.{Some}
use Rattle.co_desk.specs.Books.{BooksView, books_of}
use Rattle.co_desk.specs.Moving.{params_in}
use Rattle.co_desk.specs.Name.{ServiceName}
use Rattle.co_desk.specs.Seats.{IsShown}
use Rattle.co_desk.specs.Stories.{IsJournal, queue_by}
use Rattle.co_desk.specs.Views.{journal_seen}
use Rattle.co_desk.proofs.BooksKept.{same_life}
use Rattle.co_desk.proofs.Writing.{below_get}
use Rattle.co_desk.proofs.books.Books.meet.Goals as goal

pub get-requires : goal.get-requires
get-requires g c =
    let lives = c.cpus.ensures ∙ ap (λ (n : ServiceName). n.cpus) c.requires.places_are in
    below_get c.cpus.result.now c.self.inside.cpu c.self.inside.journal.life (subst (λ l. slice_get l c.self.inside.cpu ≡ Some c.self.inside.journal.life) (sym lives) c.self.invariant.own.life)

pub meet_at-requires-clause-place : goal.meet_at-requires-clause-place
meet_at-requires-clause-place g c =
    let lives = c.cpus.ensures ∙ ap (λ (n : ServiceName). n.cpus) c.requires.places_are in
    record {
      at = (λ d. slice_get (c.requires.passes_are d).cpus c.self.inside.cpu) ∙ ((λ d. slice_get (sym lives d) c.self.inside.cpu) ∙ c.get.ensures);
      keeper = same_life g.N.Name.name.cpus c.cpus.result.now c.self.inside.cpu c.self.inside.journal.life c.get.result.now (sym lives) c.self.invariant.own.life c.get.ensures;
    }

pub meet_at-requires-clause-opened : goal.meet_at-requires-clause-opened
meet_at-requires-clause-opened g c = (c.self.inside.params.value, c.self.invariant.own.opened)

pub returns : goal.returns
returns g c = record {
  kept = (λ d. books_of c.self.inside.params.value c.self.inside.cpu c.self.inside.keepers.items (c.meet_at.ensures.keeper d)) ∙ c.self.view_is;
  passes = c.meet_at.ensures.same;
  params = ap (λ (b : BooksView). b.params) (sym c.self.view_is) ∙ ap params_in (sym c.self.invariant.own.opened ∙ c.meet_at.ensures.met.opened);
  shown = subst (λ (b : BooksView). IsShown queue_by c.args.passes.now.actor b.journal (journal_seen c.args.passes.now b.cpu)) c.self.view_is c.meet_at.ensures.met.shown;
  legal = subst (λ (b : BooksView). IsJournal b.params b.cpu b.journal) c.self.view_is c.self.invariant.own.legal;
}
