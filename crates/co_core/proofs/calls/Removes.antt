-- The Remove of a call, if its answer took an arming out of a queue.
use Rattle.std.proofs.Common.{◌≡◌, ℕ, List, ◌++◌, refl, sym, ap, subst, Option, Some, None}
use Rattle.co_object.specs.declared.State.{State}
use Rattle.co_object.specs.declared.QOp.TheVariants.{Remove}
use Rattle.co_object.specs.declared.QReply.{QReply}
use Rattle.co_object.specs.declared.QReply.TheVariants.{Off}
use Rattle.co_object.specs.Journal as journal
use Rattle.co_object.specs.Queue.{Queue as TimerQueue}
use Rattle.co_program.specs.declared.role.Role.{Role}
use Rattle.co_program.specs.declared.script.Script.{Script}
use Rattle.co_program.specs.Cursor.{Cursor}
use Rattle.co_wheel.specs.Turns.{Takes, Turn, removal}
use Rattle.co_world.specs.World.{World}
use Rattle.co_world.specs.Step.{are_direct, removed_from, queue_answers}
use Rattle.co_world.specs.Placed.{server_slot}
use Rattle.co_world.proofs.kept.Invariant.{states_of, queues_of, cursors_of}
use Rattle.co_world.proofs.sections.Ways.{Goes, goes_queue, stands_of}
use Rattle.co_core.proofs.tables.Options.{some_is}
use Rattle.co_core.proofs.stored.Slots.{quiet_slots, answered_so}
use Rattle.co_core.proofs.stored.Worlds.{goes_as, goes_nowhere}

module _ (s : Script) (w : World) (a act i cpu : ℕ) (stand : stands_of w i ≡ cpu) where
  abbrev st : State
  st = states_of w i

  abbrev c0 : Cursor
  c0 = record (cursors_of w a) { removed = None }

  abbrev q0 : TimerQueue
  q0 = queues_of w cpu

  pub record IsRemoved (o : Option ℕ) (turns : List Turn) (Is : TimerQueue → Type 0) (q1 : TimerQueue) (c1 : Cursor) : Type 0 where
    pub goes : Goes w (removed_from s w a act i o) i cpu a st cpu q1 c1
    pub same : ◌≡◌ {A = Cursor} (record c1 { removed = None }) c0
    pub slots : (ro : Role) → server_slot ro q1 ≡ server_slot ro q0
    pub rest : Takes s.buckets (are_direct s) turns q1 Is
    pub world : (y : ℕ) → o ≡ Some y → removed_from s w a act i o ≡ queue_answers s w a act cpu (Remove i) (Some (q1, Off))

  pub removed_by : (o : Option ℕ) (turns : List Turn) (Is : TimerQueue → Type 0) → ((y : ℕ) → o ≡ Some y → y ≡ cpu) → Takes s.buckets (are_direct s) (removal i o ++ turns) q0 Is → (q1 : TimerQueue) × (c1 : Cursor) × IsRemoved o turns Is q1 c1
  removed_by None turns Is at takes = (
    q0,
    cursors_of w a,
    record {
      goes = goes_as w w i cpu a st (stands_of w i) cpu q0 q0 (cursors_of w a) (cursors_of w a) stand refl refl (goes_nowhere w i cpu a);
      same = refl;
      slots = λ ro. refl;
      rest = takes;
      world = λ y is. cc;
    },
  )
  removed_by (Some y) turns Is at takes = subst (λ (k : ℕ). (q1 : TimerQueue) × (c1 : Cursor) × IsRemoved (Some k) turns Is q1 c1) (sym (at y refl)) (
    q1,
    record (cursors_of w a) { removed = Some cpu },
    record {
      goes = goes_as w (queue_answers s w a act cpu (Remove i) (Some gone)) i cpu a st (stands_of w i) cpu q1 q1 (record (cursors_of w a) { removed = Some cpu }) (record (cursors_of w a) { removed = Some cpu }) stand refl refl (goes_queue s w i cpu a act (Remove i) gone refl);
      same = refl;
      slots = quiet_slots s.buckets (are_direct s) q0 (Remove i) gone refl (λ e. cc) (λ e. cc) (λ e. cc) (λ e. cc);
      rest = takes.1;
      world = λ z is. ap (λ (g : TimerQueue × QReply). queue_answers s w a act cpu (Remove i) (Some g)) (some_is gone (q1, Off) (answered_so (Some gone) q0 Off takes.0));
    },
  ) where
    gone : TimerQueue × QReply
    gone = journal.remove q0 i

    q1 : TimerQueue
    q1 = gone.0
