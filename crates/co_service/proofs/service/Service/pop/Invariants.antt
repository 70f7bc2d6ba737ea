use Rattle.std.proofs.Common.{◌≡◌}
use Rattle.co_service.proofs.service.Service.pop.Given as goal

abbrev pub invariant-loop : goal.invariant-loop
invariant-loop g l = l.passes ≡ l.initial.passes
