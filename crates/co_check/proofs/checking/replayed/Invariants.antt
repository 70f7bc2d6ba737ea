use Rattle.std.proofs.Common.{take}
use Rattle.co_check.specs.Hearing.{IsHeard}
use Rattle.co_check.proofs.checking.replayed.Given as goal

-- the lines so far are heard
abbrev pub invariant-loop-line : goal.invariant-loop-line
invariant-loop-line l = IsHeard l.script (take l.line-index l.lines) l.heard
