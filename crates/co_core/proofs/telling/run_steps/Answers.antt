-- The lists that were kept are those of the notes that were told.
use Rattle.std.proofs.Common.{◌≡◌, ℕ, [], List, ap, arith, length, subst, sym, ◌∙◌}
use Rattle.std.proofs.lemmas.List.FromFn.{length-map-range_with_len}
use Rattle.co_object.specs.declared.note.Note.{Note}
use Rattle.co_listener.specs.MadeNotes.{list_by, lists_by}
use Rattle.co_program.specs.Actors.{actor_count}
use Rattle.co_world.specs.Walk.{IsWalk}
use Rattle.co_core.proofs.telling.run_steps.Goals as goal

-- so many lists as actors
as_many : (lists : List (List Note)) (n : ℕ) → lists ≡ lists_by n [] → length lists ≡ n
as_many lists n is = ap length is ∙ length-map-range_with_len (list_by []) 0 n

pub tell_walk-requires-clause-actors : goal.tell_walk-requires-clause-actors
tell_walk-requires-clause-actors c =
    let long : length c.in_ok-lists.lists ≡ c.actor_count.result = as_many c.in_ok-lists.lists c.actor_count.result c.in_ok-lists.ensures in
    omega (arith, long, c.actor_count.ensures)

pub returns : goal.returns
returns c =
    let s = c.args.script.now in
    let opened : List (List Note) = c.in_ok-lists.lists in
    let long : length opened ≡ c.actor_count.result = as_many opened c.actor_count.result c.in_ok-lists.ensures in
    let empty : opened ≡ lists_by c.actor_count.result [] = c.in_ok-lists.ensures in
    let told = c.in_ok-tell_walk.ensures.told (empty ∙ ap (λ (n : ℕ). lists_by n []) (sym long)) in
    let kept : List (List Note) = c.tell_walk.new.listener in
    let as_long : length kept ≡ actor_count s = c.tell_walk.ensures.actors ∙ long ∙ c.actor_count.ensures in
    let all : c.into_lists.result ≡ lists_by (actor_count s) told.0 = c.into_lists.ensures ∙ told.1 ∙ ap (λ (n : ℕ). lists_by n told.0) as_long in
    subst (IsWalk s) (sym all) told.2.walk
