-- The step is the plain world's, and what it answers is told by how many notes it made.
use Rattle.std.proofs.Common.{rules, ◌≡◌, ◌<◌, ◌^◌, List, arith, subst, sym, ap, ◌∙◌, refl, Some}
use Rattle.co_object.specs.declared.note.Note.{Note}
use Rattle.co_program.specs.declared.cursor.Cursor.{Cursor as CursorAt}
use Rattle.co_program.specs.Indexed.{IsCounted}
use Rattle.co_world.specs.World.{World, lists_of}
use Rattle.co_core.specs.Acting.{IsDue, StandsWith}
use Rattle.co_core.specs.Written.{booked_at, noted, with_lists}
use Rattle.co_world.specs.Blocked.{blocked}
use Rattle.co_world.specs.declared.turn.Turn.TheVariants.{Notes}
use Rattle.co_core.proofs.steps.Idle.{ends, idle, of_world, waits}
use Rattle.co_core.proofs.steps.Undue.{turn_is, not_some}
use Rattle.co_core.proofs.steps.Waits.{due_of}
use Rattle.co_core.proofs.engine.Engine.step.Goals as goal

-- the act's number is at most the number of notes, which is far below
pub action_for-requires-clause-room : goal.action_for-requires-clause-room
action_for-requires-clause-room g c =
    let counted : IsCounted c.cursor-cursor.result.now c.args.self.now.ledger.made =
    subst (λ (p : CursorAt). IsCounted p c.args.self.now.ledger.made) (sym c.cursor-cursor.ensures) (c.requires.runs.running.stands.written.counted c.args.actor c.requires.runs.actor) in
    let few : c.args.self.now.ledger.made < 2 ^ 63 = c.requires.few in
    let task : c.cursor-cursor.result.now.task < 2 ^ 32 = search rules in
    omega (arith, counted, few, task)

pub act-requires-clause-may : goal.act-requires-clause-may
act-requires-clause-may g c =
    let at = c.requires.runs.running in
    let lists : List (List Note) = lists_of c.args.script.now at.world in
    let due = due_of c.args.script.now at.script (with_lists c.args.self.now.ledger lists) c.args.self.now.depot at.world at.stands c.args.actor c.requires.runs.actor c.cursor-cursor.result.now c.action_for.new.next c.cursor-cursor.ensures c.action_for.ensures.action in
    let free = sym (c.blocked.ensures at.world at.stands) ∙ not_some c.blocked.result c.in_default.not-Some in
    record { may = record { script = at.script; world = at.world; lists = lists; held = at.stands; due = record { may = c.requires.runs.actor; due = due; free = free }; few = c.requires.few }; room = c.requires.room }

pub returns-in_ok-count-in_default-action-clause-stepped : goal.returns-in_ok-count-in_default-action-clause-stepped
returns-in_ok-count-in_default-action-clause-stepped g c =
    let s = c.args.script.now in
    let a = c.args.actor in
    let acted = c.in_ok-count-in_default-action.ensures.acted in
    let due : (lists : List (List Note)) (w : World) → StandsWith s c.args.self.now lists w → IsDue s w a _ = λ lists w h. record {
      may = c.requires.runs.actor;
      due = due_of s c.requires.runs.running.script (with_lists c.args.self.now.ledger lists) c.args.self.now.depot w h a c.requires.runs.actor c.cursor-cursor.result.now c.action_for.new.next c.cursor-cursor.ensures c.action_for.ensures.action;
      free = sym (c.blocked.ensures w (of_world s c.args.self.now lists w h)) ∙ not_some c.blocked.result c.in_default.not-Some;
    } in
    record {
      notes = acted.notes;
      stands = λ lists w h. acted.stands lists w h (due lists w h);
      tells = λ lists w h.
          (let now = due lists w h in
          let after = acted.stands lists w h now in
          ap Notes (sym acted.count)
          ∙ turn_is s (with_lists c.args.self.now.ledger lists) (with_lists c.act.new.self.ledger (noted lists a acted.notes)) w a acted.notes (booked_at c.args.self.now.ledger a) c.action_for.new.next c.requires.runs.actor h.written after.written now.free now.due c.in_default-action.not-Nothing refl);
      heard = acted.heard;
    }

pub returns-in-Some-clause-stepped : goal.returns-in-Some-clause-stepped
returns-in-Some-clause-stepped g c =
    let s = c.args.script.now in
    let a = c.args.actor in
    idle s g.N.Listener.has a _ c.args.self.now c.args.listener.now (λ lists w h.
    (let is : blocked s w a ≡ Some c.in-Some.why = sym (c.blocked.ensures w (of_world s c.args.self.now lists w h)) ∙ c.in-Some.is in
    waits s w a c.in-Some.why is))

pub returns-in-Nothing-clause-stepped : goal.returns-in-Nothing-clause-stepped
returns-in-Nothing-clause-stepped g c =
    let s = c.args.script.now in
    let a = c.args.actor in
    idle s g.N.Listener.has a _ c.args.self.now c.args.listener.now (λ lists w h.
    (let due = due_of s c.requires.runs.running.script (with_lists c.args.self.now.ledger lists) c.args.self.now.depot w h a c.requires.runs.actor c.cursor-cursor.result.now c.action_for.new.next c.cursor-cursor.ensures c.action_for.ensures.action in
    let free = sym (c.blocked.ensures w (of_world s c.args.self.now lists w h)) ∙ not_some c.blocked.result c.in_default.not-Some in
    ends s w a (booked_at c.args.self.now.ledger a) c.action_for.new.next c.in-Nothing.is due free))
