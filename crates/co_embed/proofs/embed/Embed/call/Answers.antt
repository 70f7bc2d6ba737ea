-- A callout that is not here is refused, and nothing has changed.
use Rattle.std.proofs.Common.{rules}
use Rattle.co_embed.proofs.embed.Embed.call.Goals as goal

pub returns-then-not-holds : goal.returns-then-not-holds
returns-then-not-holds c = search rules
