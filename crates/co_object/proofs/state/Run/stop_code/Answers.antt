-- A function that runs was not stopped.
use Rattle.std.proofs.Common.{rules}
use Rattle.co_object.proofs.state.Run.stop_code.Goals as goal

pub returns-in-Running : goal.returns-in-Running
returns-in-Running c = search rules
