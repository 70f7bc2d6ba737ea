-- Steps that ask no callout and no queue: without a note, and with one of the actor's own.
use Rattle.std.proofs.Common.{◌≡◌, ℕ, ◌<◌, Bool, false, refl, sym, ap, ◌∙◌, subst, Option, None}
use Rattle.std.specs.Prelude.{◌||◌}
use Rattle.co_object.specs.declared.OwnKind.{OwnKind}
use Rattle.co_lock.specs.declared.held.Held.{Held}
use Rattle.co_program.specs.declared.role.Role.{Role}
use Rattle.co_program.specs.declared.cursor.Cursor.{Cursor as CursorAt}
use Rattle.co_program.specs.declared.cursor.PendingInsert.{PendingInsert}
use Rattle.co_program.specs.declared.action.Asked.TheVariants.{Itself}
use Rattle.co_program.specs.declared.script.Script.{Script}
use Rattle.co_program.specs.Actors.{actor_count, role_of}
use Rattle.co_program.specs.Cursor.{Cursor}
use Rattle.co_program.specs.Action.{Silent, Take, Asks}
use Rattle.co_program.specs.Advance.{act_over}
use Rattle.co_program.specs.Indexed.{ActsAreCounted, cursor_of}
use Rattle.co_world.specs.World.{World, with_cursor}
use Rattle.co_world.specs.Step.{own_note, note_of_own, step, is_in_section, is_within_service, lands_here}
use Rattle.co_core.specs.Stored.{Stored}
use Rattle.co_core.specs.Written.{Written, cursor_at, put_cursor}
use Rattle.co_world.specs.Placed.{IsPlaced}
use Rattle.co_core.specs.Acting.{IsDue}
use Rattle.co_core.specs.Stands.{StandsFor, ShowsStored, ShowsWritten}
use Rattle.co_world.proofs.basics.Actions.{IsAction, IsActionWith, goes_by}
use Rattle.co_world.proofs.kept.ByOwnSteps.{view_of}
use Rattle.co_world.proofs.kept.Invariant.{cursors_of}
use Rattle.co_world.proofs.basics.Changes.{IsAt, at_all, cursor_at as place_at_is, note_at}
use Rattle.co_world.proofs.sections.Movers.{parcels_of}
use Rattle.co_world.proofs.sections.Slots.{StageKept}
use Rattle.co_core.proofs.stored.Places.{stored_quiet, placed_quiet, reached_after}
use Rattle.co_world.proofs.sections.Slots.{silent_kept, take_kept, own_kept, own_acting, over_within, over_parcel}
use Rattle.co_world.proofs.sections.Ways.{step_free, goes_no_further}
use Rattle.co_core.proofs.written.Entries.{written_place}

silent_view : (s : Script) (role : Role) (c : Cursor) (parcel : Option PendingInsert) (to : Cursor) → IsActionWith s role c parcel (Silent to) → StageKept c.stage to.stage × (to.parcel ≡ c.parcel)
silent_view s role c parcel to (goes_by due view) = silent_kept s role c c.stage to view

take_view : (s : Script) (role : Role) (c : Cursor) (parcel : Option PendingInsert) (held : Held) (to : Cursor) → IsActionWith s role c parcel (Take held to) → StageKept c.stage to.stage × (to.parcel ≡ c.parcel)
take_view s role c parcel held to (goes_by due view) = take_kept s role c c.stage held to view

module _ (s : Script) (ledger : Written) (depot : Stored) (w : World) (a : ℕ) (to : CursorAt) (stands : StandsFor s ledger depot w) (may : a < actor_count s) (counts : ActsAreCounted (cursor_at ledger a) to 0) where
  abbrev c : Cursor
  c = cursors_of w a

  abbrev d : Cursor
  d = cursor_of s a to

  abbrev w' : World
  w' = with_cursor w a d

  parcels : d.parcel ≡ c.parcel → (b : ℕ) → parcels_of w' b ≡ parcels_of w b
  parcels same b = at b where
    at : (b : ℕ) → parcels_of w' b ≡ parcels_of w b
    at b = at_all (λ k (x : Cursor). x.parcel ≡ parcels_of w k) (cursors_of w) a d (cursors_of w') (place_at_is w a d) same (λ j other. refl) b

  goes : StageKept c.stage d.stage → d.parcel ≡ c.parcel → step s w a ≡ w' → StandsFor s (put_cursor ledger a to) depot (step s w a)
  goes kept same is =
      record {
        written = subst (ShowsWritten s (put_cursor ledger a to)) (sym is) (written_place s ledger w a to stands.written may counts);
        stored = subst (ShowsStored s depot) (sym is) (stored_quiet s w w' (λ j. refl) (λ j. refl) (λ y. refl) (parcels same) depot stands.stored);
        placed = subst (IsPlaced s) (sym is) (placed_quiet s w w' (λ j. refl) (λ j. refl) (λ y. refl) (parcels same) a (place_at_is w a d).else (subst (λ (x : Cursor). StageKept c.stage x.stage) (sym (place_at_is w a d).here) kept) stands.placed);
        reached = reached_after s w a may stands.reached;
      }

  pub stands_silent : IsDue s w a (Silent d) → StandsFor s (put_cursor ledger a to) depot (step s w a)
  stands_silent due = (let view = silent_view s (role_of s a) c c.parcel d (view_of s a c (Silent d) due.due) in goes view.0 view.1 (step_free s w a (Silent d) due.due due.free))

  pub stands_take : (held : Held) → IsDue s w a (Take held d) → StandsFor s (put_cursor ledger a to) depot (step s w a)
  stands_take held due = (let view = take_view s (role_of s a) c c.parcel held d (view_of s a c (Take held d) due.due) in goes view.0 view.1 (step_free s w a (Take held d) due.due due.free))

-- ---- a note of the actor's own

-- between two sections, with nothing on its way
pub out_of_section : (w : World) (c : Cursor) → is_within_service c.stage ≡ false → c.parcel ≡ None → is_in_section w c ≡ false
out_of_section w c stage parcel = ap (λ (b : Bool). b || lands_here w c.parcel) stage ∙ ap (lands_here w) parcel

own_view : (s : Script) (role : Role) (c : Cursor) (parcel : Option PendingInsert) (act : ℕ) (kind : OwnKind) → IsActionWith s role c parcel (Asks act (Itself kind)) → (parcel ≡ None) × IsAction s role c c.stage (Asks act (Itself kind))
own_view s role c parcel act kind (goes_by due view) = (refl, view)

pub stands_own : (s : Script) (ledger ledger' : Written) (depot : Stored) (w : World) (a act : ℕ) (kind : OwnKind) → StandsFor s ledger depot w → IsDue s w a (Asks act (Itself kind)) → ShowsWritten s ledger' (own_note s w a act kind) →
    StandsFor s ledger' depot (step s w a)
stands_own s ledger ledger' depot w a act kind stands due written =
    record {
      written = subst (ShowsWritten s ledger') (sym is) written;
      stored = subst (ShowsStored s depot) (sym is) (stored_quiet s w w' (λ j. refl) (λ j. refl) (λ y. refl) parcels depot stands.stored);
      placed = subst (IsPlaced s) (sym is) (placed_quiet s w w' (λ j. refl) (λ j. refl) (λ y. refl) parcels a at.else (subst (λ (x : Cursor). StageKept c.stage x.stage) (sym at.here) (own_kept s (role_of s a) c c c.stage act kind view.1)) stands.placed);
      reached = reached_after s w a due.may stands.reached;
    } where
      c : Cursor
      c = cursors_of w a

      w' : World
      w' = own_note s w a act kind

      at : IsAt (cursors_of w) a (act_over c c.stage) (cursors_of w')
      at = note_at s w a false (note_of_own s w a act kind)

      view : (c.parcel ≡ None) × IsAction s (role_of s a) c c.stage (Asks act (Itself kind))
      view = own_view s (role_of s a) c c.parcel act kind (view_of s a c (Asks act (Itself kind)) due.due)

      parcels : (b : ℕ) → parcels_of w' b ≡ parcels_of w b
      parcels b = at_all (λ k (x : Cursor). x.parcel ≡ parcels_of w k) (cursors_of w) a (act_over c c.stage) (cursors_of w') at (over_parcel c c.stage) (λ j other. refl) b

      quiet : is_in_section w' (cursors_of w' a) ≡ false
      quiet =
          subst (λ (x : Cursor). is_in_section w' x ≡ false) (sym at.here)
          (out_of_section w' (act_over c c.stage) (over_within c c.stage (own_acting s (role_of s a) c c.stage act kind view.1)) (over_parcel c c.stage ∙ view.0))

      is : step s w a ≡ w'
      is = step_free s w a (Asks act (Itself kind)) due.due due.free ∙ goes_no_further s w' a quiet
