use Rattle.std.proofs.Common.{◌≡◌}
use Rattle.co_gen.specs.Generator.{state_after, groups}
use Rattle.co_gen.proofs.acts.client_acts.Given as goal

-- the first groups are made, with a draw for each
abbrev pub invariant-loop-number : goal.invariant-loop-number
invariant-loop-number l = record {
  draws : l.draws ≡ state_after l.fn.draws l.number;
  acts : l.acts ≡ groups l.fn.draws l.number;
}
