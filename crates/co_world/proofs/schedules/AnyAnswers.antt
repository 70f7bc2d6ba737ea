-- What every answer and every step without a note keeps of the world holds at every moment of every schedule.
use Rattle.std.proofs.Common.{ℕ, List, [], ◌∷◌, Option, Some, None}
use Rattle.std.specs.Prelude.{is_some}
use Rattle.std.specs.List.{AllByRecursion}
use Rattle.co_object.specs.declared.Op.TheVariants.{Call, Run}
use Rattle.co_object.specs.declared.QOp.TheVariants.{Remove}
use Rattle.co_object.specs.Group.{off_of}
use Rattle.co_object.specs.Callout.{call}
use Rattle.co_program.specs.declared.Script.{Script}
use Rattle.co_program.specs.Cursor.{Cursor}
use Rattle.co_program.specs.Action.{Action, Nothing, Silent, Take, Asks, action_for}
use Rattle.co_program.specs.declared.Asked.{Asked}
use Rattle.co_program.specs.declared.Asked.TheVariants.{Callout, Queue, Itself}
use Rattle.co_world.specs.World.{World, with_cursor}
use Rattle.co_world.specs.Blocked.{blocked}
use Rattle.co_world.specs.Step.{world_answers, removed_from, removed_first, asked_whole, makes_action, goes_on_in_section, is_in_section, stepped, step}
use Rattle.co_world.specs.Walk.{run}
use Rattle.co_world.proofs.basics.Updates.{cond_kept}

module _ (s : Script) (May : ℕ → Type 0) (Q : World → Type 0)
    (answer : (w : World) (a act : ℕ) (asked : Asked) → May a → Q w → Q (world_answers s w a act asked))
    (place : (w : World) (a : ℕ) (to : Cursor) → May a → Q w → Q (with_cursor w a to)) where
  from_kept : (w : World) (a act i : ℕ) (off : Option ℕ) → May a → Q w → Q (removed_from s w a act i off)
  from_kept w a act i None may q = q
  from_kept w a act i (Some cpu) may q = answer w a act (Queue cpu (Remove i)) may q

  first_kept : (w : World) (a act : ℕ) (asked : Asked) → May a → Q w → Q (removed_first s w a act asked)
  first_kept w a act (Callout i (Call op)) may q = from_kept w a act i (off_of (call (w.timers i).state op).1) may q
  first_kept w a act (Callout i (Run op)) may q = q
  first_kept w a act (Queue cpu op) may q = q
  first_kept w a act (Itself kind) may q = q

  due_kept : (w : World) (a : ℕ) (due : Action) → May a → Q w → Q (makes_action s w a due)
  due_kept w a (Asks act asked) may q = answer w a act asked may q
  due_kept w a Nothing may q = q
  due_kept w a (Silent to) may q = q
  due_kept w a (Take held to) may q = q

  on_kept : (w : World) (a : ℕ) → May a → Q w → Q (goes_on_in_section s w a)
  on_kept w a may q = cond_kept Q (is_in_section w (w.actors a).cursor) (makes_action s w a (action_for s a (w.actors a).cursor)) w (due_kept w a (action_for s a (w.actors a).cursor) may q) q

  stepped_kept : (w : World) (a : ℕ) (due : Action) → May a → Q w → Q (stepped s w a due)
  stepped_kept w a Nothing may q = q
  stepped_kept w a (Silent to) may q = place w a to may q
  stepped_kept w a (Take held to) may q = place w a to may q
  stepped_kept w a (Asks act asked) may q = on_kept (asked_whole s w a act asked) a may (answer (removed_first s w a act asked) a act asked may (first_kept w a act asked may q))

  pub step_keeps : (w : World) (a : ℕ) → May a → Q w → Q (step s w a)
  step_keeps w a may q = cond_kept Q (is_some (blocked s w a)) w (stepped s w a (action_for s a (w.actors a).cursor)) q (stepped_kept w a (action_for s a (w.actors a).cursor) may q)

  -- a schedule of actors that may step
  pub run_keeps : (schedule : List ℕ) (w : World) → AllByRecursion May schedule → Q w → Q (run s w schedule)
  run_keeps [] w may q = q
  run_keeps (a ∷ schedule) w may q = run_keeps schedule (step s w a) may.1 (step_keeps w a may.0 q)
