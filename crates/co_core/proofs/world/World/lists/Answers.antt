-- The lists are those of a plain world that some schedule reaches, and so are a run's at that moment.
use Rattle.std.proofs.Common.{◌∙◌, ap}
use Rattle.co_core.specs.Seen.{Seen}
use Rattle.co_world.proofs.legal.Runs.{so_far}
use Rattle.co_core.specs.Written.{with_lists}
use Rattle.co_core.proofs.steps.Standing.{lists_whole}
use Rattle.co_core.proofs.world.World.lists.Goals as goal

pub returns-clause-lists : goal.returns-clause-lists
returns-clause-lists c w h = ap (λ (x : Seen). x.ledger.lists) c.self.view_is ∙ lists_whole c.args.self.now.script c.args.self.now.ledger w h.written

pub returns-clause-so_far : goal.returns-clause-so_far
returns-clause-so_far c =
    let h = c.self.invariant in
    rw (← c.self.view_is, lists_whole c.self.inside.script.now (with_lists c.self.inside.engine.ledger c.self.inside.lists) h.world h.stands.written) (so_far c.self.inside.script.now h.sound h.world h.stands.reached)
