use Rattle.std.proofs.Common.{◌≡◌, ◌++◌, take}
use Rattle.co_text.specs.Lines.{text}
use Rattle.co_print.specs.Origins.{lines_from}
use Rattle.co_print.proofs.origin.print_chunk.Given as goal

-- the notes of the first origins are written
abbrev pub invariant-loop-index : goal.invariant-loop-index
invariant-loop-index l = l.page ≡ l.fn.page ++ text (lines_from l.script l.lists (take l.index l.origins))
