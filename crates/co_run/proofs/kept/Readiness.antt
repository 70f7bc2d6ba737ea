-- An actor whose book has other room is ready still, and one that went on from there has gone on from where it was.
use Rattle.std.proofs.Common.{◌≡◌, ℕ, ◌+◌, ◌<◌, ◌≤◌, ◌^◌, List, length, true, refl, sym, subst}
use Rattle.co_object.specs.declared.note.Note.{Note}
use Rattle.co_program.specs.declared.script.Script.{Script}
use Rattle.co_program.specs.Indexed.{IsCounted}
use Rattle.co_program.specs.Stages.{Stage, Ready, Waiting, Popping, Picking, Locking, Beginning, Unlocking, Firing, Releasing, Ending, Freeing, Drained}
use Rattle.co_desk.specs.Name.{ServiceName}
use Rattle.co_run.specs.Ready.{IsReady, actor_cursor}
use Rattle.co_run.specs.Roomy.{is_resting, room_at}
use Rattle.co_run.specs.declared.actor.Actor.{Actor}
use Rattle.co_run.proofs.kept.ByCalls.{acting_same}

module _ {B : Type 0} {notes : B → List Note} {spare : B → ℕ} {s : Script} {longest : ℕ} {name : ServiceName} where
  pub other_book : (actor : Actor B) (book : B) → IsReady notes spare s longest name actor → notes book ≡ notes actor.book → length (notes book) + spare book < 2 ^ 56 → room_at longest (actor_cursor s actor).stage ≤ spare book →
      IsReady notes spare s longest name (record actor { book = book })
  other_book actor book ready same few room = record {
    acting = acting_same ready.acting refl refl refl same refl;
    count = record { counted = subst (λ (ns : List Note). IsCounted actor.cursor (length ns)) (sym same) ready.count.counted; few = few };
    room = room;
  }

-- an actor between two services needs no room
pub resting_room : (longest : ℕ) (stage : Stage) → is_resting stage ≡ true → room_at longest stage ≡ 0
resting_room longest Ready rests = refl
resting_room longest (Waiting n took) rests = refl
resting_room longest (Popping act) rests = refl
resting_room longest (Firing v acts) rests = cc
resting_room longest (Drained v acts) rests = cc
resting_room longest (Picking v) rests = cc
resting_room longest (Locking v) rests = cc
resting_room longest (Beginning v) rests = cc
resting_room longest (Unlocking v acts) rests = cc
resting_room longest (Releasing v) rests = cc
resting_room longest (Ending v) rests = cc
resting_room longest (Freeing v drain next) rests = cc
