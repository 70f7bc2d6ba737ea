-- Which callout, queue and place the notes of a section change, and how a step is made of them.
use Rattle.std.proofs.Common.{◌≡◌, ℕ, Bool, true, false, cond, [], ◌∷◌, ◌++◌, refl, ap, ◌∙◌, Option, Some, None}
use Rattle.std.specs.Prelude.{is_some}
use Rattle.co_object.specs.declared.State.{State}
use Rattle.co_object.specs.declared.Reply.{Reply}
use Rattle.co_object.specs.declared.Op.{Op}
use Rattle.co_object.specs.declared.QOp.{QOp}
use Rattle.co_object.specs.declared.QOp.TheVariants.{Insert, Remove, Scan, Pop, Free, PopDirect, FreeDirect}
use Rattle.co_object.specs.declared.QReply.{QReply}
use Rattle.co_object.specs.declared.Entry.{Entry}
use Rattle.co_object.specs.declared.QEntry.{QEntry}
use Rattle.co_object.specs.declared.AnyEntry.TheVariants as entry
use Rattle.co_object.specs.declared.Place.TheVariants as at
use Rattle.co_object.specs.Queue.{Queue as TimerQueue}
use Rattle.co_object.specs.Stand.{off}
use Rattle.co_program.specs.declared.script.Script.{Script}
use Rattle.co_program.specs.Cursor.{Cursor}
use Rattle.co_program.specs.declared.action.Asked.{Asked}
use Rattle.co_program.specs.Action.{Action, Asks, action_for}
use Rattle.co_program.specs.Advance.{advance}
use Rattle.co_world.specs.World.{World, Timer}
use Rattle.co_world.specs.Blocked.{blocked}
use Rattle.co_world.specs.Step.{enters, enters_journal, landed, note_of, note_of_cpu, callout_answers, queue_answers, world_answers, is_in_section, makes_action, goes_on_in_section, stepped, step}
use Rattle.co_world.proofs.basics.Updates.{at_updated}
use Rattle.co_world.proofs.basics.Changes.{IsAt, at_updated_is, at_read, note_at, state_at, queue_at, states_landed}
use Rattle.co_world.proofs.kept.Invariant.{states_of, queues_of, cursors_of}

abbrev pub stands_of : World → ℕ → ℕ
stands_of w i = (w.timers i).stand

-- nothing changes
pub still : {X : Type 0} (f : ℕ → X) (i : ℕ) (x : X) (g : ℕ → X) → f i ≡ x → ((j : ℕ) → g j ≡ f j) → IsAt f i x g
still f i x g is all = record { here = all i ∙ is; else = λ j other. all j }

-- one value changes twice
pub twice : {X : Type 0} (f : ℕ → X) (i : ℕ) (x y : X) (g h : ℕ → X) → IsAt f i x g → IsAt g i y h → IsAt f i y h
twice f i x y g h one two = record { here = two.here; else = λ j other. two.else j other ∙ one.else j other }

-- from one world to another callout i, the queue of a CPU and the place of an actor may change, and nothing else
pub record Goes (w w' : World) (i cpu a : ℕ) (state : State) (stand : ℕ) (queue : TimerQueue) (place : Cursor) : Type 0 where
  pub states : IsAt (states_of w) i state (states_of w')
  pub stands : IsAt (stands_of w) i stand (stands_of w')
  pub queues : IsAt (queues_of w) cpu queue (queues_of w')
  pub cursors : IsAt (cursors_of w) a place (cursors_of w')

pub goes_on_from : (w w1 w2 : World) (i cpu a : ℕ) (state state' : State) (stand stand' : ℕ) (queue queue' : TimerQueue) (place place' : Cursor) →
    Goes w w1 i cpu a state stand queue place → Goes w1 w2 i cpu a state' stand' queue' place' → Goes w w2 i cpu a state' stand' queue' place'
goes_on_from w w1 w2 i cpu a state state' stand stand' queue queue' place place' one two = record {
  states = twice (states_of w) i state state' (states_of w1) (states_of w2) one.states two.states;
  stands = twice (stands_of w) i stand stand' (stands_of w1) (stands_of w2) one.stands two.stands;
  queues = twice (queues_of w) cpu queue queue' (queues_of w1) (queues_of w2) one.queues two.queues;
  cursors = twice (cursors_of w) a place place' (cursors_of w1) (cursors_of w2) one.cursors two.cursors;
}

-- a callout answers
pub goes_callout : (s : Script) (w : World) (i cpu a act : ℕ) (op : Op) (o : State × Reply) →
    Goes w (callout_answers s w a act i op (Some o)) i cpu a o.0 (stands_of w i) (queues_of w cpu)
    (advance s (cursors_of w a) (is_some (off o.0)) (at.Timer i) (entry.Timer (record { actor = a; act = act; op = op; reply = o.1 })))
goes_callout s w i cpu a act op o =
    let made : Entry = record { actor = a; act = act; op = op; reply = o.1 } in
    let after : World = enters w i o.0 made in
    let stays : (j : ℕ) → stands_of after j ≡ stands_of w j = λ j. at_updated (λ k (x : Timer). x.stand ≡ stands_of w k) w.timers i (record (w.timers i) { state = o.0; history = (w.timers i).history ++ made ∷ [] }) j refl refl in
    record {
      states = state_at w i o.0 made;
      stands = still (stands_of w) i (stands_of w i) (stands_of after) refl stays;
      queues = still (queues_of w) cpu (queues_of w cpu) (queues_of after) refl (λ j. refl);
      cursors = note_at s after a (is_some (off o.0)) (note_of w i made);
    }

-- an entry of a queue that moves no callout
abbrev pub moves_none : QOp → Bool
moves_none (Insert i n t) = false
moves_none op = true

stands_kept : (w : World) (cpu : ℕ) (op : QOp) (j : ℕ) → moves_none op ≡ true → ((landed w cpu op) j).stand ≡ stands_of w j
stands_kept w cpu (Insert i n t) j h = cc
stands_kept w cpu (Remove i) j h = refl
stands_kept w cpu (Scan now) j h = refl
stands_kept w cpu Pop j h = refl
stands_kept w cpu Free j h = refl
stands_kept w cpu PopDirect j h = refl
stands_kept w cpu FreeDirect j h = refl

-- a queue answers
pub goes_queue : (s : Script) (w : World) (i cpu a act : ℕ) (op : QOp) (o : TimerQueue × QReply) → moves_none op ≡ true →
    Goes w (queue_answers s w a act cpu op (Some o)) i cpu a (states_of w i) (stands_of w i) o.0
    (advance s (cursors_of w a) false (at.Cpu cpu) (entry.Cpu (record { actor = a; act = act; op = op; reply = o.1 })))
goes_queue s w i cpu a act op o none =
    let made : QEntry = record { actor = a; act = act; op = op; reply = o.1 } in
    let after : World = enters_journal w cpu o.0 made in
    record {
      states = still (states_of w) i (states_of w i) (states_of after) refl (λ j. states_landed w cpu op j);
      stands = still (stands_of w) i (stands_of w i) (stands_of after) refl (λ j. stands_kept w cpu op j none);
      queues = queue_at w cpu o.0 made;
      cursors = note_at s after a false (note_of_cpu w cpu made);
    }

-- and so an insert, by which the callout comes to the CPU
pub goes_insert : (s : Script) (w : World) (i cpu a act n t : ℕ) (o : TimerQueue × QReply) →
    Goes w (queue_answers s w a act cpu (Insert i n t) (Some o)) i cpu a (states_of w i) cpu o.0
    (advance s (cursors_of w a) false (at.Cpu cpu) (entry.Cpu (record { actor = a; act = act; op = Insert i n t; reply = o.1 })))
goes_insert s w i cpu a act n t o =
    let made : QEntry = record { actor = a; act = act; op = Insert i n t; reply = o.1 } in
    let after : World = enters_journal w cpu o.0 made in
    record {
      states = still (states_of w) i (states_of w i) (states_of after) refl (λ j. states_landed w cpu (Insert i n t) j);
      stands = at_read (λ (x : Timer). x.stand) w.timers i (record (w.timers i) { stand = cpu }) (landed w cpu (Insert i n t)) (at_updated_is w.timers i (record (w.timers i) { stand = cpu }));
      queues = queue_at w cpu o.0 made;
      cursors = note_at s after a false (note_of_cpu w cpu made);
    }

-- ---- a step

none_some : {X : Type 0} (o : Option X) → o ≡ None → is_some o ≡ false
none_some o is = ap is_some is

pub step_free : (s : Script) (w : World) (a : ℕ) (action : Action) → action_for s a (cursors_of w a) ≡ action → blocked s w a ≡ None → step s w a ≡ stepped s w a action
step_free s w a action due free =
    ap (λ (b : Bool). cond b w (stepped s w a (action_for s a (cursors_of w a)))) (none_some (blocked s w a) free) ∙ ap (stepped s w a) due

-- nothing more belongs to the section
pub goes_no_further : (s : Script) (w : World) (a : ℕ) → is_in_section w (cursors_of w a) ≡ false → goes_on_in_section s w a ≡ w
goes_no_further s w a is = ap (λ (b : Bool). cond b (makes_action s w a (action_for s a (cursors_of w a))) w) is

-- one more note belongs to it
pub goes_further : (s : Script) (w : World) (a act : ℕ) (asked : Asked) → is_in_section w (cursors_of w a) ≡ true → action_for s a (cursors_of w a) ≡ Asks act asked → goes_on_in_section s w a ≡ world_answers s w a act asked
goes_further s w a act asked is due =
    ap (λ (b : Bool). cond b (makes_action s w a (action_for s a (cursors_of w a))) w) is ∙ ap (makes_action s w a) due
