use Rattle.std.proofs.Common.{arith}
use Rattle.co_report.proofs.ScriptLines.{refused_line}
use Rattle.co_report.proofs.reading.script_in_report.Goals as goal

pub overflow_add-line : goal.overflow_add-line
overflow_add-line c = omega (arith, refused_line c.args.text.now _ (rw c.in-Err-Bad.field-0-is at c.in-Err-Bad.ensures), c.requires)
