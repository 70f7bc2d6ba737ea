-- Every schedule leaves notes that stand in places of the script: the places in the programs, the callouts' states and the
-- queues name what exists, at the opening and after each answer, and so does each note.
use Rattle.std.proofs.Common.{◌≡◌, ℕ, zero, suc, ◌+◌, ◌<◌, Bool, true, false, List, [], ◌∷◌, ◌++◌, length, map, refl, sym, subst, arith, lt-ltb, Option, Some, None}
use Rattle.std.specs.Prelude.{is_some}
use Rattle.std.specs.List.{range_with_len}
use Rattle.co_object.specs.declared.State.{State}
use Rattle.co_object.specs.declared.Reply.{Reply}
use Rattle.co_object.specs.declared.CallOp.{CallOp}
use Rattle.co_object.specs.declared.Op.{Op}
use Rattle.co_object.specs.declared.Op.TheVariants.{Call}
use Rattle.co_object.specs.declared.QOp.{QOp}
use Rattle.co_object.specs.declared.QOp.TheVariants.{Insert, Remove}
use Rattle.co_object.specs.declared.QReply.{QReply}
use Rattle.co_object.specs.declared.QReply.TheVariants.{Got}
use Rattle.co_object.specs.declared.Entry.{Entry}
use Rattle.co_object.specs.declared.QEntry.{QEntry}
use Rattle.co_object.specs.declared.Note.{Note}
use Rattle.co_object.specs.Stand.{off}
use Rattle.co_object.specs.Group.{off_of}
use Rattle.co_object.specs.Queue.{Queue as TimerQueue}
use Rattle.co_object.specs.Callout.{call, step as callout_step}
use Rattle.co_object.specs.Journal as journal
use Rattle.co_object.proofs.QueueChanges.{QChange}
use Rattle.co_program.specs.declared.Script.{Script}
use Rattle.co_program.specs.declared.Asked.{Asked}
use Rattle.co_program.specs.declared.Asked.TheVariants.{Callout, Queue, Itself}
use Rattle.co_program.specs.Actors.{actor_count}
use Rattle.co_program.specs.Cursor.{Cursor}
use Rattle.co_program.specs.Action.{Action, Silent, Take, Asks, action_for, spec_at}
use Rattle.co_program.specs.Advance.{advance}
use Rattle.co_program.specs.Existing.{IsCallout, CpuExists, IsIn, ActionExists, EntryExists, QReplyExists}
use Rattle.co_program.specs.Places.{place_exists, HavePlaces, AllHavePlaces}
use Rattle.co_program.specs.Scripts.{IsScript}
use Rattle.co_program.proofs.Existing.{start_in, action_exists, advance_exists}
use Rattle.co_world.specs.World.{World, Actor, open_world, with_cursor, lists_of}
use Rattle.co_world.specs.Step.{notes_down, enters, note_of, callout_answers, enters_journal, note_of_cpu, queue_answers, note_of_own, are_direct, world_answers}
use Rattle.co_world.specs.Laws.{reached, IsSchedule}
use Rattle.co_world.proofs.kept.Invariant.{states_of, queues_of, cursors_of}
use Rattle.co_object.proofs.EntriesKept.{EntriesFit, entries_change, entries_got}
use Rattle.co_world.proofs.basics.Changes.{IsAt, at_all, at_read, at_updated_is, cursor_at, note_at, state_at, queue_at, states_landed}
use Rattle.co_world.proofs.kept.Passages.{changed}
use Rattle.co_program.proofs.Homes.{CpusFit}
use Rattle.co_program.proofs.Replied.{AnswerFits, answer_fits}
use Rattle.co_world.proofs.schedules.DueAnswers.{may_run}

-- the notes of each actor
abbrev notes_in : World → ℕ → List Note
notes_in w a = (w.actors a).notes

notes_at : (s : Script) (w : World) (a : ℕ) (listed : Bool) (note : Note) → IsAt (notes_in w) a (notes_in w a ++ note ∷ []) (notes_in (notes_down s w a listed note))
notes_at s w a listed note =
    let new : Actor = record (w.actors a) { cursor = advance s (cursors_of w a) listed note.place note.entry; notes = notes_in w a ++ note ∷ [] } in
    at_read (λ (x : Actor). x.notes) w.actors a new (notes_down s w a listed note).actors (at_updated_is w.actors a new)

put_last : (s : Script) (notes : List Note) (note : Note) → HavePlaces s notes → place_exists s note.place ≡ true → HavePlaces s (notes ++ note ∷ [])
put_last s [] note have there = (there, tt)
put_last s (x ∷ notes) note have there = (have.0, put_last s notes note have.1 there)

-- what stands in the world exists in the script
pub record IsPut (s : Script) (w : World) : Type 0 where
  pub cursors : (a : ℕ) → a < actor_count s → IsIn s (cursors_of w a)
  pub states : (i : ℕ) → CpusFit s.cpus (states_of w i)
  pub queues : (cpu : ℕ) → EntriesFit (λ i n t. IsCallout s i) (queues_of w cpu)
  pub notes : (a : ℕ) → a < actor_count s → HavePlaces s (notes_in w a)

module _ (s : Script) (ok : IsScript s) where
  abbrev Standing : ℕ → ℕ → ℕ → Type 0
  Standing i n t = IsCallout s i

  due_at : (w : World) (a : ℕ) (due : Action) → a < actor_count s → action_for s a (cursors_of w a) ≡ due → IsPut s w → ActionExists s due
  due_at w a due may is put = subst (ActionExists s) is (action_exists s ok a may (cursors_of w a) (put.cursors a may))

  -- ---- a note in a place that exists, and what it names exists

  cursors_down : (w : World) (a : ℕ) (listed : Bool) (note : Note) → a < actor_count s → EntryExists s note.place note.entry →
      ((b : ℕ) → b < actor_count s → IsIn s (cursors_of w b)) → (b : ℕ) → b < actor_count s → IsIn s (cursors_of (notes_down s w a listed note) b)
  cursors_down w a listed note may exists inside =
      at_all (λ b (c : Cursor). b < actor_count s → IsIn s c) (cursors_of w) a (advance s (cursors_of w a) listed note.place note.entry) (cursors_of (notes_down s w a listed note)) (note_at s w a listed note)
      (λ _. advance_exists s ok (cursors_of w a) listed note.place note.entry (inside a may) exists) (λ b other. inside b)

  notes_down_have : (w : World) (a : ℕ) (listed : Bool) (note : Note) → a < actor_count s → place_exists s note.place ≡ true →
      ((b : ℕ) → b < actor_count s → HavePlaces s (notes_in w b)) → (b : ℕ) → b < actor_count s → HavePlaces s (notes_in (notes_down s w a listed note) b)
  notes_down_have w a listed note may there have =
      at_all (λ b (notes : List Note). b < actor_count s → HavePlaces s notes) (notes_in w) a (notes_in w a ++ note ∷ []) (notes_in (notes_down s w a listed note)) (notes_at s w a listed note)
      (λ _. put_last s (notes_in w a) note (have a may) there) (λ b other. have b)

  -- ---- a callout's answer

  callout_put : (w : World) (a act i : ℕ) (op : Op) (o : Option (State × Reply)) → a < actor_count s → callout_step (spec_at s i) (states_of w i) op ≡ o → ActionExists s (Asks act (Callout i op)) → IsPut s w →
      IsPut s (callout_answers s w a act i op o)
  callout_put w a act i op None may is exists put = put
  callout_put w a act i op (Some o) may is exists put =
      let made : Entry = record { actor = a; act = act; op = op; reply = o.1 } in
      let fits : AnswerFits s o = answer_fits s ok.cpus.0 (spec_at s i) (states_of w i) op o is (put.states i) exists.1 in
      record {
        cursors = cursors_down (enters w i o.0 made) a (is_some (off o.0)) (note_of w i made) may (exists.0, fits.reply.exists) put.cursors;
        states = at_all (λ j (t : State). CpusFit s.cpus t) (states_of w) i o.0 (states_of (enters w i o.0 made)) (state_at w i o.0 made) fits.state (λ j other. put.states j);
        queues = put.queues;
        notes = notes_down_have (enters w i o.0 made) a (is_some (off o.0)) (note_of w i made) may (lt-ltb i (length s.timers) exists.0) put.notes;
      }

  -- ---- a queue's answer

  got_exists : (w : World) (cpu : ℕ) (op : QOp) (reply : QReply) (t : TimerQueue) → QChange s.buckets (are_direct s) (queues_of w cpu) op reply t → IsPut s w → QReplyExists s reply
  got_exists w cpu op (Got i n time) t change put = entries_got Standing (λ i n t u later h. h) s.buckets (are_direct s) (queues_of w cpu) op (Got i n time) t i n time change refl (put.queues cpu)
  got_exists w cpu op reply t change put = tt

  queue_put : (w : World) (a act cpu : ℕ) (op : QOp) (o : Option (TimerQueue × QReply)) → a < actor_count s → cpu < s.cpus → journal.step s.buckets (are_direct s) (queues_of w cpu) op ≡ o →
      ((i n t : ℕ) → op ≡ Insert i n t → IsCallout s i) → IsPut s w → IsPut s (queue_answers s w a act cpu op o)
  queue_put w a act cpu op None may on is new put = put
  queue_put w a act cpu op (Some o) may on is new put =
      let made : QEntry = record { actor = a; act = act; op = op; reply = o.1 } in
      let change : QChange s.buckets (are_direct s) (queues_of w cpu) op o.1 o.0 = changed s.buckets (are_direct s) (queues_of w cpu) op o is in
      record {
        cursors = cursors_down (enters_journal w cpu o.0 made) a false (note_of_cpu w cpu made) may (got_exists w cpu op o.1 o.0 change put) put.cursors;
        states = λ j. subst (CpusFit s.cpus) (sym (states_landed w cpu op j)) (put.states j);
        queues = at_all (λ x (q : TimerQueue). EntriesFit Standing q) (queues_of w) cpu o.0 (queues_of (enters_journal w cpu o.0 made)) (queue_at w cpu o.0 made)
            (entries_change Standing (λ i n t u later h. h) s.buckets (are_direct s) (queues_of w cpu) op o.1 o.0 change new (put.queues cpu)) (λ x other. put.queues x);
        notes = notes_down_have (enters_journal w cpu o.0 made) a false (note_of_cpu w cpu made) may (lt-ltb cpu s.cpus on) put.notes;
      }

  inserts : (act cpu : ℕ) (op : QOp) → ActionExists s (Asks act (Queue cpu op)) → (i n t : ℕ) → op ≡ Insert i n t → IsCallout s i
  inserts act cpu op exists i n t is = (subst (λ (x : QOp). ActionExists s (Asks act (Queue cpu x))) is exists).1

  -- ---- any answer, and steps without a note

  answer_put : (w : World) (a act : ℕ) (asked : Asked) → a < actor_count s → action_for s a (cursors_of w a) ≡ Asks act asked → IsPut s w → IsPut s (world_answers s w a act asked)
  answer_put w a act (Callout i op) may is put = callout_put w a act i op (callout_step (spec_at s i) (states_of w i) op) may refl (due_at w a (Asks act (Callout i op)) may is put) put
  answer_put w a act (Queue cpu op) may is put =
      let exists : ActionExists s (Asks act (Queue cpu op)) = due_at w a (Asks act (Queue cpu op)) may is put in
      queue_put w a act cpu op (journal.step s.buckets (are_direct s) (queues_of w cpu) op) may exists.0 refl (inserts act cpu op exists) put
  answer_put w a act (Itself kind) may is put = record {
    cursors = cursors_down w a false (note_of_own s w a act kind) may tt put.cursors;
    states = put.states;
    queues = put.queues;
    notes = notes_down_have w a false (note_of_own s w a act kind) may (lt-ltb a (actor_count s) may) put.notes;
  }

  remove_put : (w : World) (a act i cpu : ℕ) (op : CallOp) → a < actor_count s → action_for s a (cursors_of w a) ≡ Asks act (Callout i (Call op)) → off_of (call (states_of w i) op).1 ≡ Some cpu → IsPut s w →
      IsPut s (world_answers s w a act (Queue cpu (Remove i)))
  remove_put w a act i cpu op may is gone put =
      let exists : ActionExists s (Asks act (Callout i (Call op))) = due_at w a (Asks act (Callout i (Call op))) may is put in
      let fits : AnswerFits s (call (states_of w i) op) = answer_fits s ok.cpus.0 (spec_at s i) (states_of w i) (Call op) (call (states_of w i) op) refl (put.states i) exists.1 in
      let on : CpuExists s (Some cpu) = subst (CpuExists s) gone fits.reply.gone in
      queue_put w a act cpu (Remove i) (journal.step s.buckets (are_direct s) (queues_of w cpu) (Remove i)) may on refl (λ j n t is. cc) put

  moved : (w : World) (a : ℕ) (to : Cursor) → IsIn s to → IsPut s w → IsPut s (with_cursor w a to)
  moved w a to inside put = record {
    cursors = at_all (λ b (c : Cursor). b < actor_count s → IsIn s c) (cursors_of w) a to (cursors_of (with_cursor w a to)) (cursor_at w a to) (λ _. inside) (λ b other. put.cursors b);
    states = put.states;
    queues = put.queues;
    notes = at_all (λ b (notes : List Note). b < actor_count s → HavePlaces s notes) (notes_in w) a (notes_in w a) (notes_in (with_cursor w a to))
        (at_read (λ (x : Actor). x.notes) w.actors a (record (w.actors a) { cursor = to }) (with_cursor w a to).actors (at_updated_is w.actors a (record (w.actors a) { cursor = to }))) (put.notes a) (λ b other. put.notes b);
  }

  open_put : IsPut s (open_world s)
  open_put = record {
    cursors = λ a may. start_in s ok a;
    states = λ i. record { home = (let h = ok.cpus.0 in omega arith); target = λ arming is. cc };
    queues = λ cpu. record { content = tt; expired = tt; urgent = tt };
    notes = λ a may. tt;
  }

  pub reached_put : (schedule : List ℕ) → IsSchedule s schedule → IsPut s (reached s schedule)
  reached_put schedule may =
      may_run s (λ a. a < actor_count s) (IsPut s) answer_put remove_put
      (λ w a to may is put. moved w a to (due_at w a (Silent to) may is put) put)
      (λ w a held to may is put. moved w a to (due_at w a (Take held to) may is put) put)
      schedule (open_world s) may open_put

-- ---- the lists of notes

each_list : (s : Script) (f : ℕ → List Note) (k n : ℕ) → ((a : ℕ) → a < k + n → HavePlaces s (f a)) → AllHavePlaces s (map f (range_with_len k n))
each_list s f k zero have = tt
each_list s f k (suc n) have = (have k (omega arith), each_list s f (k + 1) n (λ a within. have a (omega arith)))

pub have_places : (s : Script) → IsScript s → (schedule : List ℕ) → IsSchedule s schedule → AllHavePlaces s (lists_of s (reached s schedule))
have_places s ok schedule may = each_list s (notes_in (reached s schedule)) 0 (actor_count s) (λ a within. (reached_put s ok schedule may).notes a (omega arith))
