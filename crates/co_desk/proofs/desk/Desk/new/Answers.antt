use Rattle.std.proofs.Common.{sym, subst}
use Rattle.co_desk.specs.declared.params.Params.{Params}
use Rattle.co_desk.specs.Books.{books_of}
use Rattle.co_desk.specs.Desk.{IsDesk}
use Rattle.co_desk.proofs.desk.Desk.new.Goals as goal

pub invariant_of-result : goal.invariant_of-result
invariant_of-result g c =
    subst (λ (p : Params). IsDesk c.args.wheel (books_of p c.args.cpu c.args.keepers.items c.args.journal) 0) (sym c.of.ensures) c.requires.desk
