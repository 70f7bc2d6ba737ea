-- The numbers are not counted up to: each case is by its name alone.
use Rattle.std.proofs.Common.{ap, sym}
use Rattle.co_top.specs.Headline.{served_limit}
use Rattle.co_top.proofs.top.served_limit.Goals as goal

pub returns-in-Run : goal.returns-in-Run
returns-in-Run c = sym (ap served_limit c.in-Run.is)

pub returns-in-Kq : goal.returns-in-Kq
returns-in-Kq c = sym (ap served_limit c.in-Kq.is)

pub returns-in-Sleep : goal.returns-in-Sleep
returns-in-Sleep c = sym (ap served_limit c.in-Sleep.is)

pub returns-in-Itimer : goal.returns-in-Itimer
returns-in-Itimer c = sym (ap served_limit c.in-Itimer.is)
