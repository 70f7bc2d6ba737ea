use Rattle.std.proofs.Common.{◌≡◌, ◌++◌}
use Rattle.co_text.specs.Lines.{text}
use Rattle.co_print.specs.Reports.{lines_between}
use Rattle.co_print.proofs.report.Printing.print_places.Given as goal

-- the first parts are written
abbrev pub invariant-loop-number : goal.invariant-loop-number
invariant-loop-number l = l.page ≡ l.fn.page ++ text (lines_between l.self.script.now l.self.lists.now l.first l.number)
