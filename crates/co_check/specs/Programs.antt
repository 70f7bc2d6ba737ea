-- An actor's notes beside its program: what the checker sees of them says whether they follow.
use Rattle.std.specs.Prelude.{◌≡◌, ℕ, ⊤, true, List, [], ◌∷◌, None}
use Rattle.co_object.specs.declared.Note.{Note}
use Rattle.co_program.specs.declared.script.Script.{Script}
use Rattle.co_program.specs.Action.{action_for}
use Rattle.co_program.specs.Cursor.{start_of}
use Rattle.co_program.specs.Follows.{Histories, Follows, listed_after, scans_before, at_next_note}
use Rattle.co_check.specs.Asking.{is_nothing}
use Rattle.co_check.specs.Astray.{SeenLine, first_astray, cursor_after_lines}

-- the note's line says what the note does, and what is seen of it is what the histories say
pub record IsSeenAs (s : Script) (H : Histories) (note : Note) (x : SeenLine) : Type 0 where
  pub place : x.line.place ≡ note.place
  pub entry : x.line.entry ≡ note.entry
  pub listed : x.listed ≡ listed_after s H note.place note.pos
  pub scans : x.scans ≡ scans_before H note.place note.pos

abbrev pub AreSeenAs : Script → Histories → List Note → List SeenLine → Type 0
AreSeenAs s H [] [] = ⊤
AreSeenAs s H (note ∷ notes) (x ∷ xs) = IsSeenAs s H note x × AreSeenAs s H notes xs
AreSeenAs s H [] (x ∷ xs) = ⊥
AreSeenAs s H (note ∷ notes) [] = ⊥

-- no note is astray, and the program has ended after the last one
abbrev pub IsOfProgram : Script → ℕ → List SeenLine → Type 0
IsOfProgram s a xs =
    (first_astray s a (start_of s a) xs ≡ None) × (is_nothing (action_for s a (at_next_note s a (cursor_after_lines s a (start_of s a) xs))) ≡ true)

abbrev pub FollowsWhereSeen : Type 0
FollowsWhereSeen = (s : Script) (H : Histories) (a : ℕ) (notes : List Note) (xs : List SeenLine) → AreSeenAs s H notes xs → (Follows s H a notes → IsOfProgram s a xs) × (IsOfProgram s a xs → Follows s H a notes)
