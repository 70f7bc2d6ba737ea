use Rattle.std.proofs.Common.{List, [], ◌∷◌, ◌++◌, ap, ◌∙◌}
use Rattle.std.proofs.lemmas.List.{replicate_more}
use Rattle.co_service.proofs.FirstKeepers.{Kept, away}
use Rattle.co_service.proofs.desk_parts.none_here.Goals as goal

pub loop-at-preserved : goal.loop-at-preserved
loop-at-preserved c = c.in_ok-push.ensures.pushed ∙ (ap (λ (l : List Kept). l ++ away ∷ []) c.loop-at.invariant ∙ replicate_more c.loop-at._at away)
