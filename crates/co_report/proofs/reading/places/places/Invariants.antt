use Rattle.std.proofs.Common.{◌≡◌, take}
use Rattle.co_print.specs.Reports.{places}
use Rattle.co_report.proofs.reading.places.places.Given as goal

-- the first places are added
abbrev pub invariant-loop-number : goal.invariant-loop-number
invariant-loop-number l = l.all ≡ take l.number (places l.script)
