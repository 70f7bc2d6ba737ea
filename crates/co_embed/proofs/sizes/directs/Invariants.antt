-- The numbers so far.
use Rattle.std.proofs.Common.{◌≡◌}
use Rattle.co_embed.specs.Sizes.{directs}
use Rattle.co_embed.proofs.sizes.directs.Given as goal

abbrev pub invariant-loop-i : goal.invariant-loop-i
invariant-loop-i l = l.directs ≡ directs l.i l.first
