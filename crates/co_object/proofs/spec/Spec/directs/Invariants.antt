use Rattle.std.proofs.Common.{◌≡◌, map, take}
use Rattle.co_object.proofs.spec.Spec.directs.Given as goal

abbrev pub invariant-loop-spec : goal.invariant-loop-spec
invariant-loop-spec l = l.directs ≡ map (λ spec. spec.direct) (take l.spec-index l.specs)
