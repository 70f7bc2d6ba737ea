-- The listener has the notes of the script's walk, and prints their report.
use Rattle.std.proofs.Common.{◌≡◌, ◌≤◌, ℕ, true, List, Result, Ok, Err, IfOk, ap, sym, subst, ◌∙◌, arith}
use Rattle.std.specs.List.{concat}
use Rattle.co_listener.specs.MadeNotes.{MadeNote, IsInOrder, lists_by}
use Rattle.co_program.specs.declared.script.Script.{Script}
use Rattle.co_program.specs.Actors.{actor_count}
use Rattle.co_program.specs.Runs.{IsRunOf}
use Rattle.co_script.specs.Fits.{fits}
use Rattle.co_script.proofs.Accepted.{fits-accepted}
use Rattle.co_core.specs.Telling.{IsTelling}
use Rattle.co_world.proofs.legal.Runs.{walks_are_runs}
use Rattle.co_print.specs.Reports.{report_of}
use Rattle.co_report.specs.Sections.{Written, IsToldOf}
use Rattle.co_report.specs.Typed.{ListsTyped}
use Rattle.co_report.proofs.ToldPages.{told-typed}
use Rattle.co_top.specs.Headline.{IsReportOfWalk}
use Rattle.co_top.proofs.Accepts.{reported_run}
use Rattle.co_top.proofs.reading.report_told.Goals as goal

as-many : (s t u : Script) → s ≡ t → u ≡ t → actor_count s ≤ actor_count u
as-many s t u e f = let same : actor_count s ≡ actor_count u = ap actor_count (e ∙ sym f) in omega arith

pub tell_walk-requires-clause-actors : goal.tell_walk-requires-clause-actors
tell_walk-requires-clause-actors g c = as-many c.args.script.now g.S.Subject.script c.in_ok-sections.sections.sections.script c.requires.subject c.in_ok-sections.ensures.script

pub new-requires-clause-sound : goal.new-requires-clause-sound
new-requires-clause-sound g c = fits-accepted c.args.script.now c.requires.fits

pub tell_walk-requires-clause-script : goal.tell_walk-requires-clause-script
tell_walk-requires-clause-script g c = fits-accepted c.args.script.now c.requires.fits

-- the printed text is the report of the walk
reported : {E : Type 0} (s t : Script) (x : Written) (made : List MadeNote) (r : Result (List (List ℕ)) E) → s ≡ t → fits s ≡ true → IsTelling s made → IsToldOf t x made
    → IfOk r (λ pieces. (all : List MadeNote) → IsToldOf t x all → IsInOrder all → concat pieces ≡ report_of t (lists_by (actor_count t) all)) → IfOk r (λ pieces. IsReportOfWalk s (concat pieces))
reported s t x made (Ok pieces) same fit telling told shown = record {
  lists = lists_by (actor_count s) made;
  walk = telling.walk;
  report = reported_run s fit (lists_by (actor_count s) made) (concat pieces) run typed is;
}
  where
    run : IsRunOf s (lists_by (actor_count s) made)
    run = walks_are_runs s (fits-accepted s fit) (lists_by (actor_count s) made) telling.walk

    is : concat pieces ≡ report_of s (lists_by (actor_count s) made)
    is = shown made told telling.order ∙ ap (λ (z : Script). report_of z (lists_by (actor_count z) made)) (sym same)

    typed : ListsTyped (lists_by (actor_count s) made)
    typed = subst (λ (z : Script). ListsTyped (lists_by (actor_count z) made)) (told.script ∙ sym same) (told-typed x made told.told)
reported s t x made (Err e) same fit telling told shown = tt

pub returns : goal.returns
returns g c =
    let made = c.in_ok-tell_walk.ensures.told c.in_ok-sections.ensures in
    reported c.args.script.now g.S.Subject.script _ made.0 c.pieces.result c.requires.subject c.requires.fits made.2 made.1 c.pieces.ensures
