-- The numbers are not counted up to: each case is by its name alone.
use Rattle.std.proofs.Common.{ap, sym}
use Rattle.co_top.specs.Headline.{limit_of}
use Rattle.co_top.proofs.top.limit_of.Goals as goal

pub returns-in-Steps : goal.returns-in-Steps
returns-in-Steps c = sym (ap limit_of c.in-Steps.is)

pub returns-in-Check : goal.returns-in-Check
returns-in-Check c = sym (ap limit_of c.in-Check.is)

pub returns-in-Event : goal.returns-in-Event
returns-in-Event c = sym (ap limit_of c.in-Event.is)
