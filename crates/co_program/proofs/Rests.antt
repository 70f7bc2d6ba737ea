-- The rest of an actor's list, from a place in its program on: what comes next there, note by note.
use Rattle.std.proofs.Common.{◌≡◌, ℕ, zero, suc, ◌+◌, List, [], ◌∷◌, ◌++◌, length, take, refl, sym, ap, subst, ◌∙◌, Some}
use Rattle.std.specs.Prelude.{⊤}
use Rattle.std.specs.List.{slice_get, AllByRecursion}
use Rattle.co_object.specs.declared.Note.{Note}
use Rattle.co_object.specs.declared.Place.{Place}
use Rattle.co_object.specs.declared.Place.TheVariants as place
use Rattle.co_object.specs.declared.AnyEntry.{AnyEntry}
use Rattle.co_object.specs.declared.AnyEntry.TheVariants.{Timer, Cpu}
use Rattle.co_object.specs.declared.Entry.{Entry}
use Rattle.co_object.specs.declared.QEntry.{QEntry}
use Rattle.co_object.specs.declared.State.{State}
use Rattle.co_object.specs.Callout.{step}
use Rattle.co_object.specs.History.{state}
use Rattle.co_object.specs.Journal as journal
use Rattle.co_object.specs.Queue.{Queue}
use Rattle.co_program.specs.declared.script.Script.{Script}
use Rattle.co_program.specs.declared.action.Asked.{Asked}
use Rattle.co_program.specs.Cursor.{Cursor}
use Rattle.co_program.specs.Action.{Action, Nothing, Silent, Take, Asks, action_for, spec_at}
use Rattle.co_program.specs.Follows.{Histories, Fits, IsNextNote, AreNext, cursor_after, goes_on, past, at_next_note}
use Rattle.co_program.specs.Runs.{are_direct}

module _ (s : Script) (H : Histories) where
  -- the entry stands in its history at its position, and its reply is that of the callout, whose state after it is that of
  -- the history
  pub record IsKnownEntry (i pos : ℕ) (e : Entry) : Type 0 where
    pub stands : slice_get (H.timers i) pos ≡ Some e
    pub before : State
    pub answers : step (spec_at s i) before e.op ≡ Some (state (spec_at s i) (take (pos + 1) (H.timers i)), e.reply)

  pub record IsKnownTurn (e : QEntry) : Type 0 where
    pub queue : Queue
    pub answers : journal.reply_of (journal.step s.buckets (are_direct s) queue e.op) ≡ Some e.reply

  abbrev pub KnownAt : ℕ → Place → AnyEntry → Type 0
  KnownAt pos (place.Timer i) (Timer e) = IsKnownEntry i pos e
  KnownAt pos (place.Cpu cpu) (Cpu e) = IsKnownTurn e
  KnownAt pos at e = ⊤

  abbrev pub IsKnown : Note → Type 0
  IsKnown note = KnownAt note.pos note.place note.entry

module _ (s : Script) (H : Histories) (a : ℕ) where
  -- the notes are those of the actor from here to the end of its program; here no step without a note comes first
  abbrev pub IsRest : Cursor → List Note → Type 0
  IsRest d [] = action_for s a d ≡ Nothing
  IsRest d (note ∷ notes) = IsNextNote s H a d note × IsKnown s H note × IsRest (at_next_note s a (goes_on s H d note)) notes

  pub rest-of : (c : Cursor) (notes : List Note) → AreNext s H a c notes → action_for s a (at_next_note s a (cursor_after s H a c notes)) ≡ Nothing → AllByRecursion (IsKnown s H) notes → IsRest (at_next_note s a c) notes
  rest-of c [] next whole known = whole
  rest-of c (note ∷ notes) next whole known = (next.0, known.0, rest-of (goes_on s H (at_next_note s a c) note) notes next.1 whole known.1)

  -- the notes after the first ones
  pub next-after : (c : Cursor) (front notes : List Note) → AreNext s H a c (front ++ notes) → AreNext s H a (cursor_after s H a c front) notes
  next-after c [] notes next = next
  next-after c (note ∷ front) notes next = next-after (goes_on s H (at_next_note s a c) note) front notes next.1

  pub cursor-after : (c : Cursor) (front notes : List Note) → cursor_after s H a c (front ++ notes) ≡ cursor_after s H a (cursor_after s H a c front) notes
  cursor-after c [] notes = refl
  cursor-after c (note ∷ front) notes = cursor-after (goes_on s H (at_next_note s a c) note) front notes

  -- where a note is asked, it comes next
  pub record IsFirst (d : Cursor) (act : ℕ) (asked : Asked) (notes : List Note) : Type 0 where
    pub note : Note
    pub rest : List Note
    pub split : notes ≡ note ∷ rest
    pub fits : Fits a d (Asks act asked) note.place note.entry
    pub known : IsKnown s H note
    pub later : IsRest (at_next_note s a (goes_on s H d note)) rest

  pub first : (d : Cursor) (notes : List Note) (act : ℕ) (asked : Asked) → IsRest d notes → action_for s a d ≡ Asks act asked → IsFirst d act asked notes
  first d [] act asked rest is = absurd (let no = sym rest ∙ is in cc)
  first d (note ∷ notes) act asked rest is = record {
    note = note;
    rest = notes;
    split = refl;
    fits = subst (λ (x : Action). Fits a d x note.place note.entry) is rest.0.fits;
    known = rest.1;
    later = rest.2;
  }

-- ---- steps without a note

module _ (s : Script) (a : ℕ) where
  pub at-next-asks : (c : Cursor) (act : ℕ) (asked : Asked) → action_for s a c ≡ Asks act asked → at_next_note s a c ≡ c
  at-next-asks c act asked is = ap (past s a (suc (length c.left)) c) is

  past-asks : (fuel : ℕ) (c : Cursor) (act : ℕ) (asked : Asked) → action_for s a c ≡ Asks act asked → past s a fuel c (action_for s a c) ≡ c
  past-asks zero c act asked is = refl
  past-asks (suc fuel) c act asked is = ap (past s a (suc fuel) c) is

  -- one of them, and then a note
  pub at-next-silent : (c to : Cursor) (act : ℕ) (asked : Asked) → action_for s a c ≡ Silent to → action_for s a to ≡ Asks act asked → at_next_note s a c ≡ to
  at-next-silent c to act asked is then = ap (past s a (suc (length c.left)) c) is ∙ past-asks (length c.left) to act asked then

  pub at-next-take : (c to : Cursor) (held : _) (act : ℕ) (asked : Asked) → action_for s a c ≡ Take held to → action_for s a to ≡ Asks act asked → at_next_note s a c ≡ to
  at-next-take c to held act asked is then = ap (past s a (suc (length c.left)) c) is ∙ past-asks (length c.left) to act asked then
