-- A time out of range is refused, and nothing has changed.
use Rattle.std.proofs.Common.{rules}
use Rattle.co_embed.proofs.embed.Embed.advance.Goals as goal

pub returns-in_default : goal.returns-in_default
returns-in_default c = search rules
