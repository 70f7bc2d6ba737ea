use Rattle.std.proofs.Common.{subst}
use Rattle.std.specs.Option.{IfSome}
use Rattle.co_kq.specs.Slots.{StandsAtKey}
use Rattle.co_kq.proofs.Listing.{found_is}
use Rattle.co_kq.proofs.knotes.Knotes.find.Goals as goal

pub returns-clause-found : goal.returns-clause-found
returns-clause-found c =
    subst (λ k. IfSome c.find.result (λ key. StandsAtKey k.slots key c.args.ident)) c.self.view_is
    (found_is c.self.inside.slab c.self.inside.order c.self.inside.ready c.args.ident c.find.result c.self.invariant c.find.ensures)
