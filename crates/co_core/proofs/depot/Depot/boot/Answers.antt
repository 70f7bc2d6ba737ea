use Rattle.std.proofs.Common.{length, refl, ap}
use Rattle.co_program.specs.Actors.{actor_count}
use Rattle.co_core.proofs.opening.Shown.{opening-stored}
use Rattle.co_core.proofs.depot.Depot.boot.Goals as goal

pub returns : goal.returns
returns c =
    rw (c.in_ok-wheels.ensures, c.in_ok-stands.ensures, c.in_ok-bags.ensures, c.actor_count.ensures) (
    opening-stored c.args.script.now (actor_count c.args.script.now) (length c.as_slice-2.result.now) refl (ap (λ xs. length xs) c.as_slice-2.ensures))
