use Rattle.std.proofs.Common.{◌≡◌, List, sym, subst}
use Rattle.co_object.specs.declared.note.Note.{Note}
use Rattle.co_world.specs.World.{lists_of, open_world}
use Rattle.co_core.specs.Acting.{StandsWith}
use Rattle.co_core.proofs.opening.Shown.{opening-lists}
use Rattle.co_core.proofs.world.World.boot.Goals as goal

pub invariant_of-result : goal.invariant_of-result
invariant_of-result c =
    let s = c.args.script.now in
    let lists : c.in_ok-lists.lists ≡ lists_of s (open_world s) = opening-lists s c.in_ok-lists.lists c.actor_count.result c.in_ok-lists.ensures c.actor_count.ensures in
    record { sound = c.requires; world = open_world s; stands = subst (λ (l : List (List Note)). StandsWith s c.in_ok-engine.engine l (open_world s)) (sym lists) c.in_ok-engine.ensures }

pub returns-clause-opens : goal.returns-clause-opens
returns-clause-opens c =
    let s = c.args.script.now in
    let lists : c.in_ok-lists.lists ≡ lists_of s (open_world s) = opening-lists s c.in_ok-lists.lists c.actor_count.result c.in_ok-lists.ensures c.actor_count.ensures in
    subst (λ (l : List (List Note)). StandsWith s c.in_ok-engine.engine l (open_world s)) (sym lists) c.in_ok-engine.ensures
