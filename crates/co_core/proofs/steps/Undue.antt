-- What is never due to an actor: between two of its steps no section is open.
use Rattle.std.proofs.Common.{◌≡◌, ℕ, ◌-◌, ◌<◌, List, length, length-append, refl, sym, ap, ◌∙◌, subst, arith, Option, Some, None}
use Rattle.co_object.specs.declared.Op.TheVariants.{Run}
use Rattle.co_object.specs.declared.RunOp.TheVariants.{Pick}
use Rattle.co_object.specs.declared.QOp.{QOp}
use Rattle.co_object.specs.declared.QOp.TheVariants.{Insert, Remove, Scan, Free, FreeDirect}
use Rattle.co_program.specs.declared.cursor.Cursor.{Cursor as CursorAt}
use Rattle.co_program.specs.declared.Script.{Script}
use Rattle.co_program.specs.declared.Role.{Role}
use Rattle.co_program.specs.declared.Role.TheVariants.{Client, Cpu, Interrupt}
use Rattle.co_program.specs.declared.PendingInsert.{PendingInsert}
use Rattle.co_program.specs.declared.Asked.TheVariants.{Callout, Queue}
use Rattle.co_program.specs.Actors.{actor_count, role_of}
use Rattle.co_program.specs.Stages.{Stage}
use Rattle.co_program.specs.Cursor.{Cursor}
use Rattle.co_program.specs.Action.{Asks, action_for, pop_of}
use Rattle.co_program.specs.Scripts.{IsScript}
use Rattle.co_world.specs.World.{World}
use Rattle.co_core.specs.Acting.{IsDue}
use Rattle.co_core.specs.Stands.{ShowsWritten, StandsFor}
use Rattle.co_world.specs.Blocked.{blocked}
use Rattle.co_world.specs.Step.{step, turn_at, turn_of}
use Rattle.co_world.specs.declared.turn.Why.{Why}
use Rattle.co_world.specs.declared.turn.Turn.TheVariants.{Notes}
use Rattle.co_program.specs.declared.Action.{Action as ActionAt}
use Rattle.co_program.specs.declared.action.Action.TheVariants as action
use Rattle.co_program.specs.Indexed.{action_of}
use Rattle.co_core.specs.Stored.{Stored}
use Rattle.co_core.specs.Written.{Written, noted}
use Rattle.co_core.proofs.written.Counting.{notes_by}
use Rattle.co_core.proofs.written.Notes.{notes_after}
use Rattle.co_object.specs.declared.Note.{Note}
use Rattle.co_world.proofs.basics.Actions.{IsAction, IsActionWith, inserts, goes_by, scans, starts, pops, frees, picks}
use Rattle.co_world.proofs.kept.ByOwnSteps.{view_of}
use Rattle.co_world.proofs.kept.Invariant.{IsBetween, cursors_of}
use Rattle.co_world.proofs.kept.BySchedules.{reached_steady}
use Rattle.co_world.proofs.kept.BySteps.{IsSteady}

picks_within : (s : Script) (r : Role) (c : Cursor) (x : Stage) (act i n cpu at : ℕ) → IsAction s r c x (Asks act (Callout i (Run (Pick n cpu at)))) → IsBetween x → ⊥
picks_within s r c x act i n cpu at (picks v) between = between

picked_within : (s : Script) (r : Role) (c : Cursor) (parcel : Option PendingInsert) (act i n cpu at : ℕ) → IsActionWith s r c parcel (Asks act (Callout i (Run (Pick n cpu at)))) → IsBetween c.stage → ⊥
picked_within s r c parcel act i n cpu at (goes_by due view) between = picks_within s r c c.stage act i n cpu at view between

-- a queue is asked for an Insert, a Scan or a Pop between two steps
data IsOpen (r : Role) : QOp → Type 0 where
  inserting : (i n t : ℕ) → IsOpen r (Insert i n t)
  scanning : (now : ℕ) → IsOpen r (Scan now)
  popping : IsOpen r (pop_of r)

opens_queue : (s : Script) (r : Role) (c : Cursor) (x : Stage) (act cpu : ℕ) (op : QOp) → IsAction s r c x (Asks act (Queue cpu op)) → IsBetween x → IsOpen r op
opens_queue s r c x act cpu op (scans time left own) between = scanning time
opens_queue s r c x act cpu op (starts j left own) between = popping
opens_queue s r c x act cpu op (pops act') between = popping
opens_queue s r c x act cpu op (frees v drain next) between = absurd between

opens : (s : Script) (r : Role) (c : Cursor) (parcel : Option PendingInsert) (act cpu : ℕ) (op : QOp) → IsActionWith s r c parcel (Asks act (Queue cpu op)) → IsBetween c.stage → IsOpen r op
opens s r c parcel act cpu op (inserts p) between = inserting p.i p.n p.due
opens s r c parcel act cpu op (goes_by due view) between = opens_queue s r c c.stage act cpu op view between

abbrev IsAsked : QOp → Type 0
IsAsked (Remove i) = ⊥
IsAsked Free = ⊥
IsAsked FreeDirect = ⊥
IsAsked op = Unit {0}

pops_asked : (r : Role) → IsAsked (pop_of r)
pops_asked (Client c) = tt
pops_asked (Cpu x) = tt
pops_asked (Interrupt x) = tt

open_asked : (r : Role) (op : QOp) → IsOpen r op → IsAsked op
open_asked r op (inserting i n t) = tt
open_asked r op (scanning now) = tt
open_asked r op popping = pops_asked r

module _ (s : Script) (ok : IsScript s) (ledger : Written) (depot : Stored) (w : World) (stands : StandsFor s ledger depot w) (a : ℕ) where
  between : IsBetween (cursors_of w a).stage
  between = steady.between a where
    steady : IsSteady s w
    steady = subst (IsSteady s) (sym stands.reached.world) (reached_steady s ok stands.reached.schedule stands.reached.may)

  pub never_picks : (act i n cpu at : ℕ) → IsDue s w a (Asks act (Callout i (Run (Pick n cpu at)))) → ⊥
  never_picks act i n cpu at due = picked_within s (role_of s a) (cursors_of w a) (cursors_of w a).parcel act i n cpu at (view_of s a (cursors_of w a) (Asks act (Callout i (Run (Pick n cpu at)))) due.due) between

  asked : (act cpu : ℕ) (op : QOp) → IsDue s w a (Asks act (Queue cpu op)) → IsAsked op
  asked act cpu op due = open_asked (role_of s a) op (opens s (role_of s a) (cursors_of w a) (cursors_of w a).parcel act cpu op (view_of s a (cursors_of w a) (Asks act (Queue cpu op)) due.due) between)

  pub never_removes : (act cpu i : ℕ) → IsDue s w a (Asks act (Queue cpu (Remove i))) → ⊥
  never_removes act cpu i due = asked act cpu (Remove i) due

  pub never_frees : (act cpu : ℕ) → IsDue s w a (Asks act (Queue cpu Free)) → ⊥
  never_frees act cpu due = asked act cpu Free due

  pub never_frees_direct : (act cpu : ℕ) → IsDue s w a (Asks act (Queue cpu FreeDirect)) → ⊥
  never_frees_direct act cpu due = asked act cpu FreeDirect due

-- ---- what a step answers

turn_notes : (s : Script) (w : World) (a : ℕ) (p : CursorAt) (x : ActionAt) → blocked s w a ≡ None → action_for s a (cursors_of w a) ≡ action_of s a p x → (x ≡ action.Nothing → ⊥) →
    turn_of s w a ≡ Notes (length ((step s w a).actors a).notes - length (w.actors a).notes)
turn_notes s w a p x free due some =
    ap (λ (why : Option Why). turn_at s w a why (action_for s a (cursors_of w a))) free ∙ (ap (turn_at s w a None) due ∙ go x some) where
      go : (x : ActionAt) → (x ≡ action.Nothing → ⊥) → turn_at s w a None (action_of s a p x) ≡ Notes (length ((step s w a).actors a).notes - length (w.actors a).notes)
      go action.Nothing some = absurd (some refl)
      go (action.Silent to) some = refl
      go (action.Take held to) some = refl
      go (action.Asks act asked) some = refl

-- a step that has led to a world in which the actor has so many notes more answers so
pub turn_is : (s : Script) (x y : Written) (w : World) (a : ℕ) (notes : List Note) (p : CursorAt) (act : ActionAt) → a < actor_count s → ShowsWritten s x w → ShowsWritten s y (step s w a) → blocked s w a ≡ None → action_for s a (cursors_of w a) ≡ action_of s a p act → (act ≡ action.Nothing → ⊥) →
    y.lists ≡ noted x.lists a notes → Notes (length notes) ≡ turn_of s w a
turn_is s x y w a notes p act may before after free due some lists =
    ap Notes (let long = ap length (notes_after s x y w (step s w a) a notes may before after lists) ∙ length-append (notes_by w a) notes in omega (arith, long)) ∙ sym (turn_notes s w a p act free due some)

pub not_some : (o : Option Why) → ((why : Why) → o ≡ Some why → ⊥) → o ≡ None
not_some None h = refl
not_some (Some why) h = absurd (h why refl)
