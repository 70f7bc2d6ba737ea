-- The listener has counted the notes of the script's walk.
use Rattle.std.proofs.Common.{◌≡◌, ◌≤◌, List, ap, sym, subst, ◌∙◌, arith}
use Rattle.co_object.specs.declared.note.Note.{Note}
use Rattle.co_listener.specs.MadeNotes.{lists_by}
use Rattle.co_program.specs.declared.script.Script.{Script}
use Rattle.co_program.specs.Actors.{actor_count}
use Rattle.co_program.specs.Runs.{actors_of}
use Rattle.co_world.proofs.legal.Runs.{walks_are_runs}
use Rattle.co_gen.specs.Laws.{HaveLegalHistories}
use Rattle.co_gen.specs.Soak.{counts_of}
use Rattle.co_top.proofs.making.counts_told.Goals as goal

as-many : (s t : Script) → s ≡ t → actor_count s ≤ actor_count t
as-many s t e = let same : actor_count s ≡ actor_count t = ap actor_count e in omega arith

pub tell_walk-requires-clause-actors : goal.tell_walk-requires-clause-actors
tell_walk-requires-clause-actors g c = as-many c.args.script.now g.S.Subject.script c.requires.subject

pub returns : goal.returns
returns g c =
    let s = c.args.script.now in
    let told = c.in_ok-tell_walk.ensures.told c.in_ok-tally.ensures in
    let lists : List (List Note) = lists_by (actor_count s) told.0 in
    let legal = (walks_are_runs s c.requires.accepted lists told.2.walk).callouts in (
      lists,
      told.2.walk,
      c.counts.ensures told.0 told.1 told.2.order (subst (λ (z : Script). HaveLegalHistories (actors_of z) z (lists_by (actor_count z) told.0)) c.requires.subject legal)
          ∙ ap (λ (z : Script). counts_of z (lists_by (actor_count z) told.0)) (sym c.requires.subject),
    )
