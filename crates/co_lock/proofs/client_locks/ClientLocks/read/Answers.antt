-- The lock at place `id` has that number, and the kind that stands there.
use Rattle.std.proofs.Common.{◌∙◌, ap, ℕ, false, arith, slice_get}
use Rattle.std.proofs.lemmas.Option.{slice_get_within}
use Rattle.co_lock.specs.declared.held.Held.{Held}
use Rattle.co_lock.specs.declared.lock_kind.LockKind.TheVariants as kind
use Rattle.co_lock.proofs.Numbered.{number_in, kind_at}
use Rattle.co_lock.proofs.client_locks.ClientLocks.read.Goals as goal

abbrev shared : ℕ → Held
shared id = record { id = id; exclusive = false }

pub read-requires-clause-number : goal.read-requires-clause-number
read-requires-clause-number g c =
    let below = slice_get_within c.args.self.now c.args.id kind.Rw c.requires in
    let number = number_in c.self.inside.locks.items c.args.self.now c.args.id c.index-shared.result.now c.self.invariant c.self.view_is below c.index-shared.ensures in
    omega (arith, number, c.ranges.id.fits)

pub read-requires-clause-kind : goal.read-requires-clause-kind
read-requires-clause-kind g c κs outlives =
    let found = ap (λ kinds. slice_get kinds c.args.id) c.self.view_is ∙ c.requires in
    kind_at c.self.inside.locks.items c.args.id c.index-shared.result.now kind.Rw found c.index-shared.ensures

pub returns : goal.returns
returns g c =
    let below = slice_get_within c.args.self.now c.args.id kind.Rw c.requires in
    let number = number_in c.self.inside.locks.items c.args.self.now c.args.id c.index-shared.result.now c.self.invariant c.self.view_is below c.index-shared.ensures in
    c.read.ensures ∙ ap shared number
