-- What the notes of every schedule name exists in the script: they stand in its places, their histories are legal, and each is
-- the next one of its actor's program. A walk is a run.
use Rattle.std.proofs.Common.{ℕ, ◌<◌, List, sym, subst}
use Rattle.co_object.specs.declared.Note.{Note}
use Rattle.co_program.specs.declared.Script.{Script}
use Rattle.co_program.specs.Actors.{actor_count}
use Rattle.co_program.specs.Cursor.{start_of}
use Rattle.co_program.specs.Follows.{Histories, AreNext}
use Rattle.co_program.specs.Runs.{notes_by, shown_histories}
use Rattle.co_program.specs.Scripts.{IsScript}
use Rattle.co_program.proofs.RunsName.{all_name, runs_name}
use Rattle.co_world.specs.World.{World, lists_of}
use Rattle.co_world.specs.SoFar.{IsRunSoFar}
use Rattle.co_world.specs.Laws.{reached, IsSchedule, NotesNameWhatExists, WalksNameWhatExists}
use Rattle.co_world.proofs.follows.Programs.{traced_reached}
use Rattle.co_world.proofs.shown.Lists.{lists_show}
use Rattle.co_world.proofs.legal.Runs.{histories_shown, list_of, so_far_at, walks_are_runs}
use Rattle.co_world.proofs.legal.Schedules.{no_remove_is_missing}

-- each note is the next one of its actor's program
next_at : (s : Script) (ok : IsScript s) (schedule : List ℕ) (may : IsSchedule s schedule) (a : ℕ) → a < actor_count s →
    AreNext s (shown_histories (lists_of s (reached s schedule))) a (start_of s a) (notes_by (lists_of s (reached s schedule)) a)
next_at s ok schedule may a within =
    let w : World = reached s schedule in
    subst (λ (notes : List Note). AreNext s (shown_histories (lists_of s w)) a (start_of s a) notes) (sym (list_of s ok schedule may a within))
    (subst (λ (H : Histories). AreNext s H a (start_of s a) (w.actors a).notes) (histories_shown s w (lists_show s schedule may)) ((traced_reached s schedule (no_remove_is_missing s ok schedule may)).traces a).next)

pub notes_name : NotesNameWhatExists
notes_name s ok exist schedule may =
    let far : IsRunSoFar s (lists_of s (reached s schedule)) = so_far_at s ok schedule may in
    all_name s ok exist (lists_of s (reached s schedule))
    (record { actors = far.actors; places = far.places; formed = far.formed; callouts = far.callouts; cpus = far.cpus; next = next_at s ok schedule may })

pub walks_name : WalksNameWhatExists
walks_name s ok exist lists walk = runs_name s lists ok exist (walks_are_runs s ok lists walk)
