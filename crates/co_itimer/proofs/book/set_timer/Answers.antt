-- The timer expires once its value has passed.
use Rattle.std.proofs.Common.{rules}
use Rattle.co_itimer.proofs.book.set_timer.Goals as goal

pub returns-else-eq : goal.returns-else-eq
returns-else-eq c = search rules
