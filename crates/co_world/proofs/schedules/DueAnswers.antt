-- What each answer that is due and each step without a note keeps of the world holds after every schedule.
use Rattle.std.proofs.Common.{◌≡◌, ℕ, List, [], ◌∷◌, false, refl, ap, ◌∙◌, Option, Some, None}
use Rattle.std.specs.Prelude.{is_some}
use Rattle.std.specs.List.{AllByRecursion}
use Rattle.co_object.specs.declared.CallOp.{CallOp}
use Rattle.co_object.specs.declared.Op.TheVariants.{Call, Run}
use Rattle.co_object.specs.declared.QOp.TheVariants.{Remove}
use Rattle.co_object.specs.declared.QReply.{QReply}
use Rattle.co_object.specs.declared.QEntry.{QEntry}
use Rattle.co_object.specs.Group.{off_of}
use Rattle.co_object.specs.Callout.{call}
use Rattle.co_object.specs.Queue.{Queue as TimerQueue}
use Rattle.co_object.specs.Journal as journal
use Rattle.co_lock.specs.declared.Held.{Held}
use Rattle.co_program.specs.declared.Script.{Script}
use Rattle.co_program.specs.Cursor.{Cursor}
use Rattle.co_program.specs.Action.{Action, Nothing, Silent, Take, Asks, action_for}
use Rattle.co_program.specs.declared.Asked.{Asked}
use Rattle.co_program.specs.declared.Asked.TheVariants.{Callout, Queue, Itself}
use Rattle.co_world.specs.World.{World, with_cursor}
use Rattle.co_world.specs.Blocked.{blocked}
use Rattle.co_world.specs.Step.{enters_journal, note_of_cpu, world_answers, removed_from, asked_whole, makes_action, goes_on_in_section, is_in_section, stepped, step}
use Rattle.co_world.specs.Walk.{run}
use Rattle.co_world.proofs.kept.Invariant.{cursors_of, queues_of}
use Rattle.co_world.proofs.basics.Updates.{cond_kept}
use Rattle.co_world.proofs.follows.DueNotes.{due_removed}
use Rattle.co_world.proofs.basics.Changes.{note_at}

-- a Remove leaves due what was due
pub removed_due : (s : Script) (w : World) (a act i : ℕ) (op : CallOp) (off : Option ℕ) → action_for s a (cursors_of w a) ≡ Asks act (Callout i (Call op)) → action_for s a (cursors_of (removed_from s w a act i off) a) ≡ Asks act (Callout i (Call op))
removed_due s w a act i op None is = is
removed_due s w a act i op (Some cpu) is =
    let gone : TimerQueue × QReply = journal.remove (queues_of w cpu) i in
    let made : QEntry = record { actor = a; act = act; op = Remove i; reply = gone.1 } in
    ap (action_for s a) (note_at s (enters_journal w cpu gone.0 made) a false (note_of_cpu w cpu made)).here ∙ due_removed s a (cursors_of w a) (Some cpu) act (Callout i (Call op)) is

-- of a schedule of actors that may step; a Remove before a call is from the queue that the call's reply names
module _ (s : Script) (May : ℕ → Type 0) (Q : World → Type 0)
    (answer : (w : World) (a act : ℕ) (asked : Asked) → May a → action_for s a (cursors_of w a) ≡ Asks act asked → Q w → Q (world_answers s w a act asked))
    (remove : (w : World) (a act i cpu : ℕ) (op : CallOp) → May a → action_for s a (cursors_of w a) ≡ Asks act (Callout i (Call op)) → off_of (call (w.timers i).state op).1 ≡ Some cpu → Q w → Q (world_answers s w a act (Queue cpu (Remove i))))
    (silent : (w : World) (a : ℕ) (to : Cursor) → May a → action_for s a (cursors_of w a) ≡ Silent to → Q w → Q (with_cursor w a to))
    (take : (w : World) (a : ℕ) (held : Held) (to : Cursor) → May a → action_for s a (cursors_of w a) ≡ Take held to → Q w → Q (with_cursor w a to)) where
  from_kept : (w : World) (a act i : ℕ) (op : CallOp) (off : Option ℕ) → May a → action_for s a (cursors_of w a) ≡ Asks act (Callout i (Call op)) → off_of (call (w.timers i).state op).1 ≡ off → Q w → Q (removed_from s w a act i off)
  from_kept w a act i op None may is gone q = q
  from_kept w a act i op (Some cpu) may is gone q = remove w a act i cpu op may is gone q

  whole_kept : (w : World) (a act : ℕ) (asked : Asked) → May a → action_for s a (cursors_of w a) ≡ Asks act asked → Q w → Q (asked_whole s w a act asked)
  whole_kept w a act (Callout i (Call op)) may is q =
      let gone : Option ℕ = off_of (call (w.timers i).state op).1 in
      answer (removed_from s w a act i gone) a act (Callout i (Call op)) may (removed_due s w a act i op gone is) (from_kept w a act i op gone may is refl q)
  whole_kept w a act (Callout i (Run op)) may is q = answer w a act (Callout i (Run op)) may is q
  whole_kept w a act (Queue cpu op) may is q = answer w a act (Queue cpu op) may is q
  whole_kept w a act (Itself kind) may is q = answer w a act (Itself kind) may is q

  due_kept : (w : World) (a : ℕ) (due : Action) → May a → action_for s a (cursors_of w a) ≡ due → Q w → Q (makes_action s w a due)
  due_kept w a (Asks act asked) may is q = answer w a act asked may is q
  due_kept w a Nothing may is q = q
  due_kept w a (Silent to) may is q = q
  due_kept w a (Take held to) may is q = q

  on_kept : (w : World) (a : ℕ) → May a → Q w → Q (goes_on_in_section s w a)
  on_kept w a may q = cond_kept Q (is_in_section w (cursors_of w a)) (makes_action s w a (action_for s a (cursors_of w a))) w (due_kept w a (action_for s a (cursors_of w a)) may refl q) q

  stepped_kept : (w : World) (a : ℕ) (due : Action) → May a → action_for s a (cursors_of w a) ≡ due → Q w → Q (stepped s w a due)
  stepped_kept w a Nothing may is q = q
  stepped_kept w a (Silent to) may is q = silent w a to may is q
  stepped_kept w a (Take held to) may is q = take w a held to may is q
  stepped_kept w a (Asks act asked) may is q = on_kept (asked_whole s w a act asked) a may (whole_kept w a act asked may is q)

  pub may_run : (schedule : List ℕ) (w : World) → AllByRecursion May schedule → Q w → Q (run s w schedule)
  may_run [] w may q = q
  may_run (a ∷ schedule) w may q =
      may_run schedule (step s w a) may.1
      (cond_kept Q (is_some (blocked s w a)) w (stepped s w a (action_for s a (cursors_of w a))) q (stepped_kept w a (action_for s a (cursors_of w a)) may.0 refl q))
