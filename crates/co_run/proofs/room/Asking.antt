-- Room for the notes of what is asked: an act within a function has it already, and so has a step of a service; who asks for it is
-- between two services.
use Rattle.std.proofs.Common.{◌≡◌, ℕ, ◌+◌, ◌<◌, ◌≤◌, ◌^◌, true, false, List, length, refl, subst, ◌∙◌, arith}
use Rattle.std.specs.Prelude.{Result, Ok, Err, OnErr, OnOk}
use Rattle.co_object.specs.declared.note.Note.{Note}
use Rattle.co_object.specs.declared.Op.TheVariants.{Call, Run}
use Rattle.co_program.specs.declared.Script.{Script}
use Rattle.co_program.specs.declared.Asked.{Asked}
use Rattle.co_program.specs.declared.Asked.TheVariants.{Callout, Itself, Queue}
use Rattle.co_program.specs.Action.{Asks, action_for}
use Rattle.co_program.specs.Cursor.{Cursor}
use Rattle.co_program.specs.Indexed.{stage_of}
use Rattle.co_program.specs.Stages.{Stage}
use Rattle.co_desk.specs.Name.{ServiceName}
use Rattle.co_run.specs.Acting.{CursorFits}
use Rattle.co_run.specs.Ready.{HasRoomFor, HasTried, IsDue, actor_cursor}
use Rattle.co_run.specs.Roomy.{is_resting, is_serving, room_at, room_for}
use Rattle.co_run.specs.declared.actor.Actor.{Actor}
use Rattle.co_run.proofs.kept.Readiness.{other_book, resting_room}
use Rattle.co_run.proofs.places.AfterCalls.{acting_of}
use Rattle.co_run.proofs.room.BetweenServices.{acting_rests, queue_rests, resting_free}
use Rattle.co_run.proofs.room.RoomLeft.{made_room}

queue_room : (longest count before after : ℕ) (stage : Stage) → is_resting stage ≡ true → (is_serving stage ≡ false → count ≤ after) → (count ≤ after) × (room_at longest stage ≤ after)
queue_room longest count before after stage rests free =
    let none = resting_room longest stage rests in (free (resting_free stage rests), omega (arith, none))

asked_room : (longest before after : ℕ) (s : Script) (a : ℕ) (c : Cursor) (act : ℕ) (asked : Asked) → CursorFits s a c → action_for s a c ≡ Asks act asked → room_at longest c.stage ≤ before →
    (is_serving c.stage ≡ false → room_for longest asked ≤ after) → (is_serving c.stage ≡ true → after ≡ before) → (room_for longest asked ≡ 0 → after ≡ before) → (room_for longest asked ≤ after) × (room_at longest c.stage ≤ after)
asked_room longest before after s a c act (Itself kind) place is room free serving none =
    made_room longest 1 before after s a c place (acting_of s a c (Asks act (Itself kind)) place.parcel is tt) (omega arith) room free serving
asked_room longest before after s a c act (Callout i (Call op)) place is room free serving none =
    made_room longest 3 before after s a c place (acting_of s a c (Asks act (Callout i (Call op))) place.parcel is tt) (omega arith) room free serving
asked_room longest before after s a c act (Callout i (Run op)) place is room free serving none = let same = none refl in (omega arith, omega (arith, same, room))
asked_room longest before after s a c act (Queue cpu op) place is room free serving none =
    queue_room longest (room_for longest (Queue cpu op)) before after c.stage (queue_rests s a c act cpu op place is) free

asked_rests : (longest : ℕ) (s : Script) (a : ℕ) (c : Cursor) (act : ℕ) (asked : Asked) → CursorFits s a c → action_for s a c ≡ Asks act asked → is_serving c.stage ≡ false → 1 ≤ room_for longest asked → is_resting c.stage ≡ true
asked_rests longest s a c act (Itself kind) place is free some = acting_rests c.stage (acting_of s a c (Asks act (Itself kind)) place.parcel is tt) free
asked_rests longest s a c act (Callout i (Call op)) place is free some = acting_rests c.stage (acting_of s a c (Asks act (Callout i (Call op))) place.parcel is tt) free
asked_rests longest s a c act (Callout i (Run op)) place is free some = absurd (omega (arith, some))
asked_rests longest s a c act (Queue cpu op) place is free some = queue_rests s a c act cpu op place is

-- what was made of the book's room, and who is refused it
module _ {B X E : Type 0} {notes : B → List Note} {spare : B → ℕ} (s : Script) (longest : ℕ) (name : ServiceName) (actor : Actor B) (book : B) (act : ℕ) (asked : Asked) (count : ℕ) (is : count ≡ room_for longest asked)
    (due : IsDue notes spare s longest name actor (Asks act asked)) (same : notes book ≡ notes actor.book) (few : length (notes book) + spare book < 2 ^ 56)
    (serving : is_serving (actor_cursor s actor).stage ≡ true → spare book ≡ spare actor.book) (none : count ≡ 0 → spare book ≡ spare actor.book) where
  pub made_ready : (r : Result X E) → (is_serving (actor_cursor s actor).stage ≡ false → OnOk r (count ≤ spare book)) → OnErr r (spare book ≡ spare actor.book)
      → OnErr r ((s : Script) → is_serving (stage_of s actor.cursor.stage) ≡ false) → OnErr r (1 ≤ count)
      → HasTried notes spare s longest name actor (record actor { book = book }) r × OnOk r (HasRoomFor notes spare s longest name (room_for longest asked) (record actor { book = book }) (Asks act asked))
  made_ready (Ok x) free back rests some =
      let room = asked_room longest (spare actor.book) (spare book) s actor.number (actor_cursor s actor) act asked due.ready.acting.place due.next due.ready.room
      (λ h. subst (λ (n : ℕ). n ≤ spare book) is (free h)) serving (λ h. none (is ∙ h)) in
      let ready = other_book actor book due.ready same few room.1 in
      (record { gone_on = record { ready = ready; number = refl }; rests = tt }, record { due = record { ready = ready; next = due.next }; room = room.0 })
  made_ready (Err e) free back rests some =
      let room = due.ready.room in (
        record {
          gone_on = record { ready = other_book actor book due.ready same few (omega (arith, back, room)); number = refl };
          rests = asked_rests longest s actor.number (actor_cursor s actor) act asked due.ready.acting.place due.next (rests s) (subst (λ (n : ℕ). 1 ≤ n) is some);
        },
        tt,
      )
