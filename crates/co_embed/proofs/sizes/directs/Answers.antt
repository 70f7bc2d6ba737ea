use Rattle.std.proofs.Common.{ap, sym, ◌∙◌, ◌++◌, ◌∷◌, [], nat_le}
use Rattle.co_embed.proofs.Sizing.{directs-more}
use Rattle.co_embed.proofs.sizes.directs.Goals as goal

pub loop-i-preserved : goal.loop-i-preserved
loop-i-preserved c = c.in_ok-push.ensures.ok ∙ ap (λ ds. ds ++ nat_le c.args.first c.loop-i.i ∷ []) c.loop-i.invariant ∙ sym (directs-more c.args.first c.loop-i.i)
