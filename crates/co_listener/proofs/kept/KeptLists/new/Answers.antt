use Rattle.std.proofs.Common.{◌≡◌, List, [], ◌∷◌, ◌++◌, subst, ◌∙◌}
use Rattle.co_object.specs.declared.note.Note.{Note}
use Rattle.co_listener.proofs.Grown.{one_actor_more}
use Rattle.co_listener.proofs.kept.KeptLists.new.Goals as goal

pub loop-actor-preserved : goal.loop-actor-preserved
loop-actor-preserved c =
    subst (λ (notes : List Note). c.push.new.self ≡ c.loop-actor.lists ++ notes ∷ []) c.new-notes.ensures c.in_ok-push.ensures.ok
    ∙ one_actor_more c.loop-actor.lists c.loop-actor._actor c.loop-actor.invariant
