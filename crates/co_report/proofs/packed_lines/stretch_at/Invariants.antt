use Rattle.std.proofs.Common.{◌≡◌, take}
use Rattle.co_report.specs.PackedLines.{no_stretch, stretch_at}
use Rattle.co_report.proofs.packed_lines.stretch_at.Given as goal

-- the one among those so far
abbrev pub invariant-loop-stretch : goal.invariant-loop-stretch
invariant-loop-stretch l = l.found ≡ stretch_at no_stretch (take l.stretch-index l.stretches) l.at
