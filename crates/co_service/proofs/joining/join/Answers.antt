use Rattle.std.proofs.Common.{◌∙◌}
use Rattle.co_service.proofs.Joined.{passes_joined}
use Rattle.co_service.proofs.joining.join.Goals as goal

pub returns : goal.returns
returns c = c.new.ensures ∙ passes_joined c.args.params.now c.args.actor c.args.timers c.args.cpus c.requires.timers c.requires.cpus
