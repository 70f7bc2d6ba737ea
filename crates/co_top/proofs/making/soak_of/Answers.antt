use Rattle.co_world.proofs.legal.Runs.{walks_are_runs}
use Rattle.co_top.proofs.Generated.{accepted, soaked}
use Rattle.co_top.proofs.making.soak_of.Goals as goal

pub counts_of_walk-requires : goal.counts_of_walk-requires
counts_of_walk-requires c = accepted c.args.seed c.args.script.now c.requires

pub returns : goal.returns
returns c =
    let walk = c.in_ok-counts.ensures in
    soaked c.args.seed c.args.script.now walk.0 c.in_ok-counts.counts c.print_soak.result c.requires walk.1
    (walks_are_runs c.args.script.now (accepted c.args.seed c.args.script.now c.requires) walk.0 walk.1)
    walk.2 c.print_soak.ensures
