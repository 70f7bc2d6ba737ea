-- What is kept of an actor, is kept by its steps without the service: its own notes, and steps without a note.
use Rattle.std.proofs.Common.{◌≡◌, ℕ, ◌+◌, true, cond, List, [], ◌∷◌, ◌++◌, refl, sym, subst, ◌∙◌, Option, Some, None, ◌⊎◌, inl, inr}
use Rattle.std.specs.Prelude.{is_some}
use Rattle.co_object.specs.declared.Note.{Note}
use Rattle.co_object.specs.declared.OwnKind.{OwnKind}
use Rattle.co_object.specs.declared.Place.TheVariants as place
use Rattle.co_object.specs.declared.AnyEntry.TheVariants as entry
use Rattle.co_lock.specs.declared.Held.{Held}
use Rattle.co_program.specs.declared.Script.{Script}
use Rattle.co_program.specs.Scripts.{IsScript}
use Rattle.co_program.specs.Cursor.{Cursor}
use Rattle.co_program.specs.Action.{Silent, Take, Asks, action_for}
use Rattle.co_program.specs.Actors.{role_of}
use Rattle.co_program.specs.Advance.{act_over}
use Rattle.co_program.specs.declared.Asked.TheVariants.{Itself}
use Rattle.co_world.proofs.kept.Stages.{is_acting}
use Rattle.co_world.proofs.follows.Traces.{Trace}
use Rattle.co_desk.specs.Name.{ServiceName}
use Rattle.co_desk.specs.Views.{PassesView}
use Rattle.co_run.specs.Acting.{IsActing, HasLocks, HeldExists}
use Rattle.co_run.proofs.kept.ByCalls.{over_hold}
use Rattle.co_run.proofs.places.AfterCalls.{acting_of, over_placed, over_serves}
use Rattle.co_run.proofs.places.AfterSilentSteps.{silent_hold, silent_placed, silent_serves, stage_view, take_hold, take_placed, take_serves}
use Rattle.co_run.proofs.follows.ServiceNotes.{own_leads, silent_leads, take_leads}
use Rattle.co_run.proofs.shown.OneMore.{shown_own}
use Rattle.co_run.proofs.kept.Scanned.{own_none, scanned_same, silent_none, take_none}

module _ (s : Script) (ok : IsScript s) (name : ServiceName) (a : ℕ) (q : PassesView) (c : Cursor) (hold : Option Held) (notes : List Note) (made : ℕ) (acting : IsActing s name a q c hold notes made) where
  -- a note of its own
  pub acts_own : (act : ℕ) (kind : OwnKind) (note : Note) → action_for s a c ≡ Asks act (Itself kind) → note ≡ record { place = place.Actor a; pos = made; entry = entry.Own (record { actor = a; act = act; kind = kind }) } →
      IsActing s name a q (act_over c c.stage) hold (notes ++ note ∷ []) (made + 1)
  acts_own act kind note is note_is =
      let speaks : is_acting c.stage ≡ true = acting_of s a c (Asks act (Itself kind)) acting.place.parcel is tt in
      record {
        of = acting.of;
        actor = acting.actor;
        below = acting.below;
        sized = acting.sized;
        held = acting.held ∙ sym (over_hold c c.stage);
        place = over_placed s ok a c speaks acting.place;
        scanned = scanned_same s (role_of s a) q c.left (act_over c c.stage).left c.stage (act_over c c.stage).stage
            (own_none s (role_of s a) c (Asks act (Itself kind)) (stage_view s a c (Asks act (Itself kind)) acting.place.parcel is) tt acting.place.fits) acting.scanned;
        serves = over_serves (role_of s a) q c speaks acting.serves;
        shown = shown_own s a act made kind q notes note acting.below note_is acting.shown;
        leads = λ H goes. subst (λ (n : Note). Trace s H a (record { cursor = act_over c c.stage; notes = notes ++ n ∷ [] })) (sym note_is)
            (own_leads s a H c notes act made kind is acting.shown.count (acting.leads H goes));
      }

  -- a step without a note
  pub acts_silent : HasLocks s → (to : Cursor) (after : Option Held) → action_for s a c ≡ Silent to → after ≡ (cond (is_some to.hold) hold None) → IsActing s name a q to after notes made
  acts_silent has to after is after_is = record {
    of = acting.of;
    actor = acting.actor;
    below = acting.below;
    sized = acting.sized;
    held = after_is ∙ kept to.hold hold (old (silent_hold s has a c to acting.place is));
    place = silent_placed s ok a c to acting.below acting.place is;
    scanned = scanned_same s (role_of s a) q c.left to.left c.stage to.stage (silent_none s (role_of s a) c c.stage to (stage_view s a c (Silent to) acting.place.parcel is) acting.place.fits) acting.scanned;
    serves = silent_serves s ok a c to acting.below acting.place q is acting.serves;
    shown = acting.shown;
    leads = λ H goes. silent_leads s a H c to notes is (acting.leads H goes);
  } where
    old : (to.hold ≡ None) ⊎ (to.hold ≡ c.hold) → (to.hold ≡ None) ⊎ (to.hold ≡ hold)
    old (inl none) = inl none
    old (inr same) = inr (same ∙ sym acting.held)

    kept : (x y : Option Held) → (x ≡ None) ⊎ (x ≡ y) → cond (is_some x) y None ≡ x
    kept None y h = refl
    kept (Some x) y (inl h) = cc
    kept (Some x) y (inr h) = sym h

  pub acts_take : HasLocks s → (to : Cursor) (held : Held) (after : Option Held) → action_for s a c ≡ Take held to → after ≡ Some held → IsActing s name a q to after notes made
  acts_take has to held after is after_is = record {
    of = acting.of;
    actor = acting.actor;
    below = acting.below;
    sized = acting.sized;
    held = after_is ∙ sym (take_hold s has a c to held acting.place is).1;
    place = take_placed s ok a c to acting.below acting.place held is;
    scanned = scanned_same s (role_of s a) q c.left to.left c.stage to.stage (take_none s (role_of s a) c c.stage held to (stage_view s a c (Take held to) acting.place.parcel is) acting.place.fits) acting.scanned;
    serves = take_serves s ok a c to acting.below acting.place held q is acting.serves;
    shown = acting.shown;
    leads = λ H goes. take_leads s a H c to held notes is (acting.leads H goes);
  }

  pub taken_exists : HasLocks s → (to : Cursor) (held : Held) → action_for s a c ≡ Take held to → HeldExists s.locks held
  taken_exists has to held is = (take_hold s has a c to held acting.place is).0
