-- The call is lent the hold to look at alone.
use Rattle.std.proofs.Common.{refl}
use Rattle.service_cases.proofs.tests.timers.functions.FunctionsHandler.run.Goals as goal

pub returns-in-Some-clause-hold : goal.returns-in-Some-clause-hold
returns-in-Some-clause-hold g c = rw c.in-Some.is refl
