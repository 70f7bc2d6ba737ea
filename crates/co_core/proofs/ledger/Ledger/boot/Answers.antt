use Rattle.std.proofs.Common.{length, refl, ap}
use Rattle.co_program.specs.Actors.{actor_count}
use Rattle.co_core.proofs.opening.Shown.{opening-written}
use Rattle.co_core.proofs.written.LockHolders.{no-one}
use Rattle.co_core.proofs.ledger.Ledger.boot.Goals as goal

pub returns : goal.returns
returns c =
    let actors = c.in_ok-tables.ensures in
    let entries = c.in_ok-counts.ensures in
    rw (actors.cursors_are, actors.own_are, entries.histories_are, entries.journals_are, entries.scans_are, c.actor_count-actors.ensures) (
    opening-written c.args.script.now (actor_count c.args.script.now) (length c.as_slice-timers.result.now) c.args.script.now.cpus refl (ap (λ xs. length xs) c.as_slice-timers.ensures) refl)

pub invariant_of-result : goal.invariant_of-result
invariant_of-result c = no-one _ _ c.in_ok-tables.ensures.holders_are c.in_ok-tables.ensures.cursors_are
