use Rattle.std.proofs.Common.{ℕ, ◌+◌, ◌*◌, Option, Some, None}
use Rattle.co_print.proofs.by_threads.+halves.Given as goal

-- what is in no part yet is halved until it is in parts, and these are halved again
abbrev unordered : {A : Type 0} → Option A → ℕ
unordered None = 8
unordered (Some _) = 0

abbrev pub decreases-print_part : goal.decreases-print_part
decreases-print_part g l = 7

abbrev pub decreases-print_halves : goal.decreases-print_halves
decreases-print_halves g l = 2 * l.halvings + unordered l.part

abbrev pub decreases-print_halves-front : goal.decreases-print_halves-front
decreases-print_halves-front g l = 2 * l.left + 1 + unordered l.part

abbrev pub decreases-print_halves-back : goal.decreases-print_halves-back
decreases-print_halves-back g l = 2 * l.left + 1 + unordered l.part
