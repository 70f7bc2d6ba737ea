-- What becomes of a world, at equal values; and a world of which nothing becomes.
use Rattle.std.proofs.Common.{◌≡◌, ℕ, refl, subst}
use Rattle.co_object.specs.declared.State.{State}
use Rattle.co_object.specs.Queue.{Queue as TimerQueue}
use Rattle.co_program.specs.Cursor.{Cursor}
use Rattle.co_world.specs.World.{World}
use Rattle.co_world.proofs.kept.Invariant.{states_of, queues_of, cursors_of}
use Rattle.co_world.proofs.sections.Ways.{Goes, still as at_still, stands_of}

pub goes_as : (w w' : World) (i cpu a : ℕ) (state : State) (stand stand' : ℕ) (queue queue' : TimerQueue) (place place' : Cursor) → stand ≡ stand' → queue ≡ queue' → place ≡ place' →
    Goes w w' i cpu a state stand queue place → Goes w w' i cpu a state stand' queue' place'
goes_as w w' i cpu a state stand stand' queue queue' place place' e f g goes =
    subst (λ (d : Cursor). Goes w w' i cpu a state stand' queue' d) g (subst (λ (q : TimerQueue). Goes w w' i cpu a state stand' q place) f (subst (λ (t : ℕ). Goes w w' i cpu a state t queue place) e goes))

pub goes_nowhere : (w : World) (i cpu a : ℕ) → Goes w w i cpu a (states_of w i) (stands_of w i) (queues_of w cpu) (cursors_of w a)
goes_nowhere w i cpu a = record {
  states = at_still (states_of w) i (states_of w i) (states_of w) refl (λ j. refl);
  stands = at_still (stands_of w) i (stands_of w i) (stands_of w) refl (λ j. refl);
  queues = at_still (queues_of w) cpu (queues_of w cpu) (queues_of w) refl (λ j. refl);
  cursors = at_still (cursors_of w) a (cursors_of w a) (cursors_of w) refl (λ j. refl);
}
