-- The lock at place `id` has that number.
use Rattle.std.proofs.Common.{◌∙◌, ap, ℕ, true, arith}
use Rattle.co_lock.specs.declared.held.Held.{Held}
use Rattle.co_lock.proofs.Numbered.{number_in}
use Rattle.co_lock.proofs.client_locks.ClientLocks.lock.Goals as goal

abbrev exclusive : ℕ → Held
exclusive id = record { id = id; exclusive = true }

pub lock-requires-after_bounds : goal.lock-requires-after_bounds
lock-requires-after_bounds g c =
    let number = number_in c.self.inside.locks.items c.args.self.now c.args.id c.index-lock.result.now c.self.invariant c.self.view_is c.requires c.index-lock.ensures in
    omega (arith, number, c.ranges.id.fits)

pub returns : goal.returns
returns g c =
    let number = number_in c.self.inside.locks.items c.args.self.now c.args.id c.index-lock.result.now c.self.invariant c.self.view_is c.requires c.index-lock.ensures in
    c.lock.ensures ∙ ap exclusive number
