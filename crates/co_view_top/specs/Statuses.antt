-- The exit statuses of the program: those of `callout`.
use Rattle.std.specs.Prelude.{ℕ}
use Rattle.co_view_top.specs.declared.status.Status.{Status}
use Rattle.co_view_top.specs.declared.status.Status.TheVariants.{Done, BadReport, Usage, ReadFault, WriteFault, NoMemory, NoOrder}

abbrev pub exit_status : Status → ℕ
exit_status Done = 0
exit_status BadReport = 1
exit_status Usage = 2
exit_status ReadFault = 3
exit_status WriteFault = 4
exit_status NoMemory = 5
exit_status NoOrder = 6
