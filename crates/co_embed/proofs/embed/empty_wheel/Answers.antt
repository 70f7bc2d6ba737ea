use Rattle.std.proofs.Common.{ap, ◌∙◌, length}
use Rattle.co_embed.proofs.Sizing.{directs-long}
use Rattle.co_embed.proofs.embed.empty_wheel.Goals as goal

pub new-requires-clause-direct : goal.new-requires-clause-direct
new-requires-clause-direct c = ap length (c.as_slice.ensures ∙ c.in_ok-direct.ensures) ∙ directs-long c.args.callouts c.args.first
