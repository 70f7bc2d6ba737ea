-- What is taken into service is told with its callout's function.
use Rattle.std.proofs.Common.{rules}
use Rattle.co_embed.proofs.embed.Embed.next.Goals as goal

pub returns : goal.returns
returns c = (
  search rules,
  record {
    i = c.in-Took.i;
    n = c.in-Took.n;
    at = c.in-Took.at;
    reply = c.in-Took.answer;
    taken = search rules;
    told = search rules;
  },
)
