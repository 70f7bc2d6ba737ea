use Rattle.std.proofs.Common.{◌≡◌, ◌*◌}
use Rattle.co_gen.specs.Generator.{first, client, state_after}
use Rattle.co_gen.proofs.script.clients.Given as goal

-- the first clients are made, with 1024 draws for each
abbrev pub invariant-loop : goal.invariant-loop
invariant-loop l = record {
  draws : l.draws ≡ state_after l.seed (1024 * l.counter);
  clients : l.clients ≡ first (client l.seed) l.counter;
}
