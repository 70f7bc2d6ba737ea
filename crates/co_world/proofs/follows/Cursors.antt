-- What every step of an actor keeps of its place in its program holds at every moment of every schedule.
use Rattle.std.proofs.Common.{◌≡◌, ℕ, Bool, false, List, [], ◌∷◌, ◌++◌, refl, Option, Some, None}
use Rattle.std.specs.Prelude.{is_some}
use Rattle.co_object.specs.declared.State.{State}
use Rattle.co_object.specs.declared.Reply.{Reply}
use Rattle.co_object.specs.declared.Op.{Op}
use Rattle.co_object.specs.declared.QOp.{QOp}
use Rattle.co_object.specs.declared.QReply.{QReply}
use Rattle.co_object.specs.declared.Entry.{Entry}
use Rattle.co_object.specs.declared.QEntry.{QEntry}
use Rattle.co_object.specs.declared.Note.{Note}
use Rattle.co_object.specs.Stand.{off}
use Rattle.co_object.specs.declared.Place.{Place}
use Rattle.co_object.specs.declared.AnyEntry.{AnyEntry}
use Rattle.co_object.specs.declared.Op.TheVariants.{Call, Run}
use Rattle.co_object.specs.declared.QOp.TheVariants.{Remove}
use Rattle.co_object.specs.Group.{off_of}
use Rattle.co_object.specs.Callout.{call, step as callout_step}
use Rattle.co_object.specs.Queue.{Queue as TimerQueue}
use Rattle.co_object.specs.Journal.{step as queue_step}
use Rattle.co_program.specs.declared.Script.{Script}
use Rattle.co_lock.specs.declared.Held.{Held}
use Rattle.co_program.specs.Cursor.{Cursor, start_of}
use Rattle.co_program.specs.Action.{Action, Nothing, Silent, Take, Asks, action_for, spec_at}
use Rattle.co_program.specs.declared.Asked.{Asked}
use Rattle.co_program.specs.declared.Asked.TheVariants.{Callout, Queue, Itself}
use Rattle.co_program.specs.Advance.{advance}
use Rattle.co_world.specs.World.{World, Actor, open_world, with_actor}
use Rattle.co_world.specs.Blocked.{blocked}
use Rattle.co_world.specs.Step.{notes_down, enters, enters_journal, note_of, note_of_cpu, note_of_own, callout_answers, queue_answers, are_direct, world_answers, removed_from, removed_first, asked_whole, makes_action, goes_on_in_section, is_in_section, stepped, step}
use Rattle.co_world.specs.Walk.{run}
use Rattle.co_world.proofs.basics.Updates.{at_updated, cond_kept}

-- the three ways in which a place in a program goes on
pub record IsKept (s : Script) (P : ℕ → Cursor → Type 0) : Type 0 where
  pub silent : (a : ℕ) (c to : Cursor) → P a c → action_for s a c ≡ Silent to → P a to
  pub take : (a : ℕ) (c to : Cursor) (held : Held) → P a c → action_for s a c ≡ Take held to → P a to
  pub note : (a : ℕ) (c : Cursor) (listed : Bool) (place : Place) (entry : AnyEntry) → P a c → P a (advance s c listed place entry)

module _ (s : Script) (P : ℕ → Cursor → Type 0) (start : (a : ℕ) → P a (start_of s a)) (kept : IsKept s P) where
  -- it holds of each actor's place in its program
  abbrev pub Everywhere : World → Type 0
  Everywhere w = (a : ℕ) → P a (w.actors a).cursor

  with_actor_kept : (w : World) (a : ℕ) (x : Actor) → Everywhere w → P a x.cursor → Everywhere (with_actor w a x)
  with_actor_kept w a x all here b = at_updated (λ k (actor : Actor). P k actor.cursor) w.actors a x b here (all b)

  notes_down_kept : (w : World) (a : ℕ) (listed : Bool) (note : Note) → Everywhere w → Everywhere (notes_down s w a listed note)
  notes_down_kept w a listed note all = with_actor_kept w a (record (w.actors a) { cursor = advance s (w.actors a).cursor listed note.place note.entry; notes = (w.actors a).notes ++ note ∷ [] }) all (kept.note a (w.actors a).cursor listed note.place note.entry (all a))

  callout_answers_kept : (w : World) (a act i : ℕ) (op : Op) (outcome : Option (State × Reply)) → Everywhere w → Everywhere (callout_answers s w a act i op outcome)
  callout_answers_kept w a act i op None all = all
  callout_answers_kept w a act i op (Some outcome) all =
      let made : Entry = record { actor = a; act = act; op = op; reply = outcome.1 } in
      notes_down_kept (enters w i outcome.0 made) a (is_some (off outcome.0)) (note_of w i made) all

  queue_answers_kept : (w : World) (a act cpu : ℕ) (op : QOp) (outcome : Option (TimerQueue × QReply)) → Everywhere w → Everywhere (queue_answers s w a act cpu op outcome)
  queue_answers_kept w a act cpu op None all = all
  queue_answers_kept w a act cpu op (Some outcome) all =
      let made : QEntry = record { actor = a; act = act; op = op; reply = outcome.1 } in
      notes_down_kept (enters_journal w cpu outcome.0 made) a false (note_of_cpu w cpu made) all

  answered_kept : (w : World) (a act : ℕ) (asked : Asked) → Everywhere w → Everywhere (world_answers s w a act asked)
  answered_kept w a act (Callout i op) all = callout_answers_kept w a act i op (callout_step (spec_at s i) (w.timers i).state op) all
  answered_kept w a act (Queue cpu op) all = queue_answers_kept w a act cpu op (queue_step s.buckets (are_direct s) (w.cpus cpu).queue op) all
  answered_kept w a act (Itself kind) all = notes_down_kept w a false (note_of_own s w a act kind) all

  removed_kept : (w : World) (a act i : ℕ) (off : Option ℕ) → Everywhere w → Everywhere (removed_from s w a act i off)
  removed_kept w a act i None all = all
  removed_kept w a act i (Some cpu) all = answered_kept w a act (Queue cpu (Remove i)) all

  first_kept : (w : World) (a act : ℕ) (asked : Asked) → Everywhere w → Everywhere (removed_first s w a act asked)
  first_kept w a act (Callout i (Call op)) all = removed_kept w a act i (off_of (call (w.timers i).state op).1) all
  first_kept w a act (Callout i (Run op)) all = all
  first_kept w a act (Queue cpu op) all = all
  first_kept w a act (Itself kind) all = all

  makes_kept : (w : World) (a : ℕ) (due : Action) → Everywhere w → Everywhere (makes_action s w a due)
  makes_kept w a (Asks act asked) all = answered_kept w a act asked all
  makes_kept w a Nothing all = all
  makes_kept w a (Silent to) all = all
  makes_kept w a (Take held to) all = all

  goes_on_kept : (w : World) (a : ℕ) → Everywhere w → Everywhere (goes_on_in_section s w a)
  goes_on_kept w a all = cond_kept Everywhere (is_in_section w (w.actors a).cursor) (makes_action s w a (action_for s a (w.actors a).cursor)) w (makes_kept w a (action_for s a (w.actors a).cursor) all) all

  stepped_kept : (w : World) (a : ℕ) (due : Action) → action_for s a (w.actors a).cursor ≡ due → Everywhere w → Everywhere (stepped s w a due)
  stepped_kept w a Nothing is all = all
  stepped_kept w a (Silent to) is all = with_actor_kept w a (record (w.actors a) { cursor = to }) all (kept.silent a (w.actors a).cursor to (all a) is)
  stepped_kept w a (Take held to) is all = with_actor_kept w a (record (w.actors a) { cursor = to }) all (kept.take a (w.actors a).cursor to held (all a) is)
  stepped_kept w a (Asks act asked) is all =
      goes_on_kept (asked_whole s w a act asked) a (answered_kept (removed_first s w a act asked) a act asked (first_kept w a act asked all))

  pub step_kept : (w : World) (a : ℕ) → Everywhere w → Everywhere (step s w a)
  step_kept w a all = cond_kept Everywhere (is_some (blocked s w a)) w (stepped s w a (action_for s a (w.actors a).cursor)) all (stepped_kept w a (action_for s a (w.actors a).cursor) refl all)

  pub run_kept : (schedule : List ℕ) (w : World) → Everywhere w → Everywhere (run s w schedule)
  run_kept [] w all = all
  run_kept (a ∷ schedule) w all = run_kept schedule (step s w a) (step_kept w a all)

  pub open_kept : Everywhere (open_world s)
  open_kept b = start b
