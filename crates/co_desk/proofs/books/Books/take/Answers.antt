use Rattle.std.proofs.Common.{sym, ap, ◌∙◌, subst, arith}
use Rattle.std.specs.Prelude.{IsSome}
use Rattle.co_desk.specs.Books.{with_history, kept_of}
use Rattle.co_desk.proofs.BooksKept.{below_here, history_here, keeper_of, set_once, some_here}
use Rattle.co_desk.proofs.books.Books.take.Goals as goal

pub returns : goal.returns
returns g c =
    let at = sym c.take.ensures.value ∙ c.unwrap.ensures in
    record {
      keeper = keeper_of g.N.Name.name c.self.inside.params.value c.self.inside.cpu c.self.inside.keepers.items c.self.inside.journal c.args.self.now c.self.invariant c.self.view_is c.args.i c.index_mut.result.now c.unwrap.result c.requires c.index_mut.ensures.value at;
      history = history_here g.N.Name.name c.self.inside.params.value c.self.inside.cpu c.self.inside.keepers.items c.self.inside.journal c.args.self.now c.self.invariant c.self.view_is c.args.i c.index_mut.result.now c.unwrap.result c.requires c.index_mut.ensures.value at;
      books = set_once g.N.Name.name c.self.inside.params.value c.self.inside.cpu c.self.inside.keepers.items c.self.inside.journal c.args.self.now c.self.invariant c.self.view_is c.args.i c.take.new.self ∙ ap (λ o. with_history c.args.self.now c.args.i (kept_of o)) c.take.ensures.after;
    }

pub index_mut-requires : goal.index_mut-requires
index_mut-requires g c =
    let here = below_here g.N.Name.name c.self.inside.params.value c.self.inside.cpu c.self.inside.keepers.items c.self.inside.journal c.args.self.now c.self.invariant c.self.view_is c.args.i c.requires in
    let n = c.self.inside.keepers.ok.0 in
    omega arith

pub unwrap-requires : goal.unwrap-requires
unwrap-requires g c = subst IsSome (sym c.take.ensures.value) (some_here g.N.Name.name c.self.inside.params.value c.self.inside.cpu c.self.inside.keepers.items c.self.inside.journal c.args.self.now c.self.invariant c.self.view_is c.args.i c.index_mut.result.now c.requires c.index_mut.ensures.value)
