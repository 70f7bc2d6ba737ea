use Rattle.std.proofs.Common.{◌<◌, length, ap, arith}
use Rattle.std.proofs.lemmas.List.{length-map}
use Rattle.co_desk.specs.Books.{BooksView, kept_of}
use Rattle.std.specs.declared.option.Option.TheVariants.{Some}
use Rattle.co_desk.proofs.BooksKept.{kept_once, of_params, set_once}
use Rattle.co_desk.proofs.books.Books.put.Goals as goal

pub returns : goal.returns
returns g c = record { books = set_once g.N.Name.name c.self.inside.params.value c.self.inside.cpu c.self.inside.keepers.items c.self.inside.journal c.args.self.now c.self.invariant c.self.view_is c.args.i (Some c.args.keeper) }

pub invariant_of-self : goal.invariant_of-self
invariant_of-self g c =
    let below : c.args.i < length c.self.inside.keepers.items = (let n = ap (λ (b : BooksView). length b.timers) c.self.view_is in let m = length-map c.self.inside.keepers.items kept_of in let k = c.requires.below in omega arith) in
    kept_once g.N.Name.name c.self.inside.params.value c.self.inside.cpu c.self.inside.keepers.items c.self.inside.journal c.args.self.now c.self.invariant c.self.view_is c.args.i (Some c.args.keeper) below (of_params g.N.Name.name c.self.inside.params.value c.self.inside.cpu c.self.inside.keepers.items c.self.inside.journal c.args.self.now c.self.invariant c.self.view_is c.args.i c.args.keeper c.requires.keeper)
