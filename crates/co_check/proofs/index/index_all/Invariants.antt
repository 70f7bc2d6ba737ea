use Rattle.std.proofs.Common.{◌≡◌, map, take, drop}
use Rattle.co_report.specs.PackedLines.{note_from_line}
use Rattle.co_check.specs.Index.{IsIndexed}
use Rattle.co_check.specs.Numbers.{number_at, first_misnumbered}
use Rattle.co_check.specs.Replay.{first_bad}
use Rattle.co_check.proofs.index.index_all.Given as goal

-- the lines above are indexed and nothing is wrong with their numbers; what is left decides
abbrev pub invariant-loop-i : goal.invariant-loop-i
invariant-loop-i l = record {
  notes : l.notes ≡ map note_from_line (drop l.i l.lines);
  after : IsIndexed l.script l.lines (take l.i l.lines) l.index;
  rest : first_misnumbered l.lines ≡ first_bad (number_at l.lines) (take l.i l.lines) (drop l.i l.lines);
}
