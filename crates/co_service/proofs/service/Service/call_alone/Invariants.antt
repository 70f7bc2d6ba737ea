use Rattle.std.proofs.Common.{◌≡◌, ◌<◌}
use Rattle.std.specs.declared.option.Option.TheVariants.{None}
use Rattle.co_service.proofs.service.Service.call_alone.Given as goal

-- none of the desks so far had the callout
abbrev pub invariant-loop : goal.invariant-loop
invariant-loop g l = (l.passes ≡ l.initial.passes) × (l.leaves ≡ None) × (l.cpu < l.self.cpus) × (l.self ≡ l.initial.self)
