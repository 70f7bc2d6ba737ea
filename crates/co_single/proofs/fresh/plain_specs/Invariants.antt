use Rattle.std.proofs.Common.{◌≡◌, replicate}
use Rattle.co_desk.specs.Params.{no_spec}
use Rattle.co_single.proofs.fresh.plain_specs.Given as goal

abbrev pub invariant-loop : goal.invariant-loop
invariant-loop l = l.specs ≡ replicate l.counter no_spec
