use Rattle.std.proofs.Common.{subst}
use Rattle.std.specs.Option.{IfSome}
use Rattle.co_kq.specs.Slots.{IsFirstReady}
use Rattle.co_kq.proofs.Listing.{first_is}
use Rattle.co_kq.proofs.knotes.Knotes.first_ready.Goals as goal

pub returns-clause-first : goal.returns-clause-first
returns-clause-first c =
    subst (λ k. IfSome c.first.result (IsFirstReady k.slots)) c.self.view_is
    (first_is c.self.inside.slab c.self.inside.order c.self.inside.ready c.first.result c.self.invariant c.first.ensures.some)
