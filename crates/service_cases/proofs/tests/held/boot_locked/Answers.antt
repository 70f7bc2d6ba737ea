use Rattle.std.proofs.lemmas.Result.{IfOk-weaker}
use Rattle.service_cases.proofs.Stages.{locked_allowed, locked_is}
use Rattle.service_cases.proofs.tests.held.boot_locked.Goals as goal

pub boot-requires : goal.boot-requires
boot-requires c = locked_allowed

pub returns-clause-scene : goal.returns-clause-scene
returns-clause-scene c = IfOk-weaker c.boot.result _ _ (λ made is. locked_is made.0.params is) c.boot.ensures.params
