-- The handle's callouts answer what the call answered.
use Rattle.std.proofs.Common.{rules}
use Rattle.callout_c.proofs.service.callout_earliest.Goals as goal

pub returns : goal.returns
returns c = search rules
