use Rattle.std.proofs.Common.{◌+◌, ◌*◌}
use Rattle.co_print.proofs.counting.+counted.Given as goal

abbrev pub decreases-count_halves : goal.decreases-count_halves
decreases-count_halves g l = 2 * l.halvings

abbrev pub decreases-front : goal.decreases-front
decreases-front g l = 2 * l.left + 1

abbrev pub decreases-back : goal.decreases-back
decreases-back g l = 2 * l.left + 1
