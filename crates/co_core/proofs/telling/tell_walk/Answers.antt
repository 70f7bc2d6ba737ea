-- The walk begins with the opening of the plain world.
use Rattle.co_world.specs.World.{open_world}
use Rattle.std.proofs.lemmas.Result.{on_ok_weaker}
use Rattle.co_core.proofs.telling.tell_walk.Goals as goal

pub tell_all-requires : goal.tell_all-requires
tell_all-requires g c = record { script = c.requires.script; room = c.requires.actors; world = open_world c.args.script.now; told = c.in_ok-engine.ensures }

pub returns-clause-told : goal.returns-clause-told
returns-clause-told g c = on_ok_weaker c.tell_all.result (λ walk empty. walk c.in_ok-engine.ensures empty) c.tell_all.ensures.told
