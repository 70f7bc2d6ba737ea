use Rattle.std.proofs.Common.{◌≡◌, true, rules}
use Rattle.co_embed.specs.Sizes.{are_sizes}
use Rattle.co_embed.proofs.Sizing.{wheel-size, wheel-of}
use Rattle.co_embed.proofs.embed.Embed.new.Goals as goal

pub build-requires-clause-buckets : goal.build-requires-clause-buckets
build-requires-clause-buckets c =
    let sizes : are_sizes c.args.cpu c.args.buckets c.args.callouts c.args.direct ≡ true = search rules in
    wheel-size c.args.buckets (wheel-of c.args.cpu c.args.buckets c.args.callouts c.args.direct sizes)
