-- The parts of the script, put together.
use Rattle.std.proofs.Common.{refl}
use Rattle.co_gen.specs.Generator.{generated}
use Rattle.co_gen.proofs.script.gen_script.Goals as goal

pub returns : goal.returns
unfolding generated
returns c = rw (c.in_ok-locks.ensures, c.in_ok-timers.ensures, c.in_ok-functions.ensures, c.in_ok-clients.ensures, c.in_ok-ticks.ensures, c.new.ensures) refl
