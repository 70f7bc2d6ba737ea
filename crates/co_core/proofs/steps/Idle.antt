-- A step that changes nothing: of an actor that waits, or has finished. And the notes beside which an engine stands.
use Rattle.std.proofs.Common.{◌≡◌, ℕ, List, [], sym, ap, ◌∙◌, subst, inl, inr, Some, None}
use Rattle.std.specs.Prelude.{Option}
use Rattle.std.proofs.lemmas.List.{append-nil}
use Rattle.co_object.specs.declared.note.Note.{Note}
use Rattle.co_listener.specs.MadeNotes.{MadeNote}
use Rattle.co_program.specs.declared.script.Script.{Script}
use Rattle.co_program.specs.declared.cursor.Cursor.{Cursor as CursorAt}
use Rattle.co_program.specs.declared.Action.{Action as ActionAt}
use Rattle.co_program.specs.declared.action.Action.TheVariants as action
use Rattle.co_program.specs.Action.{action_for}
use Rattle.co_program.specs.Indexed.{action_of}
use Rattle.co_world.specs.Blocked.{blocked}
use Rattle.co_world.specs.declared.turn.Turn.{Turn}
use Rattle.co_world.specs.declared.turn.Turn.TheVariants.{Blocked, Finished}
use Rattle.co_world.specs.declared.turn.Why.{Why}
use Rattle.co_world.specs.Step.{step, turn_at, turn_of}
use Rattle.co_world.specs.World.{World}
use Rattle.co_world.proofs.measure.Rounds.{turn-finished}
use Rattle.co_world.proofs.measure.Walks.{idle_steps_stay}
use Rattle.co_core.specs.declared.engine.Engine.{Engine}
use Rattle.co_core.specs.Acting.{HasStepped, Stands, StandsWith}
use Rattle.co_core.specs.Written.{noted}
use Rattle.co_core.proofs.written.Notes.{noted_none}

-- the notes beside which it stands are those of the world's actors
pub of_world : (s : Script) (e : Engine) (lists : List (List Note)) (w : World) → StandsWith s e lists w → Stands s e w
of_world s e lists w h = subst (λ (l : List (List Note)). StandsWith s e l w) h.written.each_list h

pub idle : (s : Script) {B : Type 0} (has : B → List MadeNote → Type 0) (a : ℕ) (turn : Turn) (e : Engine) (book : B) →
    ((lists : List (List Note)) (w : World) → StandsWith s e lists w → (step s w a ≡ w) × (turn ≡ turn_of s w a)) → HasStepped s has a turn e e book book
idle s has a turn e book stays = record {
  notes = [];
  stands = λ lists w h. subst (λ (v : World). StandsWith s e (noted lists a []) v) (sym (stays lists w h).0) (subst (λ (l : List (List Note)). StandsWith s e l w) (sym (noted_none lists a)) h);
  tells = λ lists w h. (stays lists w h).1;
  heard = λ made h. subst (has book) (sym (append-nil made)) h;
}

pub waits : (s : Script) (w : World) (a : ℕ) (why : Why) → blocked s w a ≡ Some why → (step s w a ≡ w) × (Blocked why ≡ turn_of s w a)
waits s w a why is = (idle_steps_stay s w a (inr (why, is)), sym (ap (λ (o : Option Why). turn_at s w a o (action_for s a (w.actors a).cursor)) is))

pub ends : (s : Script) (w : World) (a : ℕ) (p : CursorAt) (next : ActionAt) → next ≡ action.Nothing → action_for s a (w.actors a).cursor ≡ action_of s a p next → blocked s w a ≡ None → (step s w a ≡ w) × (Finished ≡ turn_of s w a)
ends s w a p next nothing due free = (idle_steps_stay s w a (inl (turn-finished s w a (sym answer))), answer) where
  answer : Finished ≡ turn_of s w a
  answer =
      sym (ap (λ (o : Option Why). turn_at s w a o (action_for s a (w.actors a).cursor)) free
      ∙ ap (turn_at s w a None) (due ∙ ap (action_of s a p) nothing))
