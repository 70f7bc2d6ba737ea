use Rattle.std.proofs.Common.{◌≡◌}
use Rattle.std.specs.declared.option.Option.TheVariants.{None}
use Rattle.co_service.proofs.service.Service.end_found.Given as goal

abbrev pub invariant-loop : goal.invariant-loop
invariant-loop g l = (l.passes ≡ l.initial.passes) × (l.gone ≡ None)
