-- The notes of a call, told one after another.
use Rattle.std.proofs.Common.{◌≡◌, ℕ, ◌+◌, ◌≤◌, Bool, true, false, List, [], ◌∷◌, ◌++◌, length, refl, ap, ◌∙◌, Option, Some, None, arith, append_assoc}
use Rattle.std.specs.Prelude.{is_some}
use Rattle.co_object.specs.declared.Note.{Note}
use Rattle.co_program.specs.declared.Script.{Script}
use Rattle.co_program.specs.Cursor.{Cursor}
use Rattle.co_program.specs.Advance.{advance}
use Rattle.co_desk.specs.declared.told.Inserted.{Inserted}
use Rattle.co_desk.specs.Call.{notes_with, insertion_told, removal_told}
use Rattle.co_run.specs.Noted.{are_some, gone_on, gone_on_with, gone_through}

-- one note, if there is one
pub some_gone_through : (s : Script) (k : Cursor) (o : Option Note) → gone_on_with s k true o ≡ gone_through s k true (notes_with o)
some_gone_through s k None = refl
some_gone_through s k (Some note) = refl

pub some_gone_on : (s : Script) (k : Cursor) (o : Option Note) → gone_on_with s k false o ≡ gone_on s k (notes_with o)
some_gone_on s k None = refl
some_gone_on s k (Some note) = refl

pub removal_few : (actor act i : ℕ) (off : Option ℕ) (pos : ℕ) → length (removal_told actor act i off pos) ≤ 1
removal_few actor act i None pos = omega arith
removal_few actor act i (Some cpu) pos = omega arith

pub insertion_few : (actor act i : ℕ) (x : Option Inserted) → length (insertion_told actor act i x) ≤ 1
insertion_few actor act i None = omega arith
insertion_few actor act i (Some x) = omega arith

insertion_some : (actor act i : ℕ) (x : Option Inserted) → is_some x ≡ are_some (insertion_told actor act i x)
insertion_some actor act i None = refl
insertion_some actor act i (Some x) = refl

-- past the notes before an entry, and past the entry
gone_past : (s : Script) (k : Cursor) (before : List Note) (entry : Note) (after : List Note) →
    gone_on s (advance s (gone_through s k true before) (are_some after) entry.place entry.entry) after ≡ gone_on s k (before ++ entry ∷ after)
gone_past s k [] entry after = refl
gone_past s k (note ∷ []) entry after = refl
gone_past s k (note ∷ other ∷ before) entry after = gone_past s (advance s k true note.place note.entry) (other ∷ before) entry after

pub call_gone : (s : Script) (k0 k1 k2 k3 : Cursor) (before : List Note) (entry : Note) (actor act i : ℕ) (x : Option Inserted) (more : Bool) → more ≡ is_some x →
    k1 ≡ gone_through s k0 true before → k2 ≡ advance s k1 more entry.place entry.entry → k3 ≡ gone_on s k2 (insertion_told actor act i x) →
    k3 ≡ gone_on s k0 (before ++ entry ∷ insertion_told actor act i x)
call_gone s k0 k1 k2 k3 before entry actor act i x more is first second third =
    let after = insertion_told actor act i x in
    third ∙ (ap (λ (k : Cursor). gone_on s k after) (second
    ∙ (ap (λ (k : Cursor). advance s k more entry.place entry.entry) first
    ∙ ap (λ (m : Bool). advance s (gone_through s k0 true before) m entry.place entry.entry) (is ∙ insertion_some actor act i x)))
    ∙ gone_past s k0 before entry after)

pub call_noted : (n0 n1 n2 n3 before : List Note) (entry : Note) (after : List Note) → n1 ≡ n0 ++ before → n2 ≡ n1 ++ entry ∷ [] → n3 ≡ n2 ++ after → n3 ≡ n0 ++ (before ++ entry ∷ after)
call_noted n0 n1 n2 n3 before entry after first second third =
    third ∙ (ap (λ (l : List Note). l ++ after) (second ∙ ap (λ (l : List Note). l ++ entry ∷ []) first)
    ∙ (append_assoc (n0 ++ before) (entry ∷ []) after ∙ append_assoc n0 before (entry ∷ after)))

around_length : (before : List Note) (entry : Note) (after : List Note) → length (before ++ entry ∷ after) ≡ length before + 1 + length after
around_length [] entry after = omega arith
around_length (note ∷ before) entry after = let rest = around_length before entry after in omega (arith, rest)

pub call_spent : (p0 p1 p2 p3 : ℕ) (before : List Note) (entry : Note) (after : List Note) → p0 ≡ p1 + length before → p1 ≡ p2 + 1 → p2 ≡ p3 + length after → p0 ≡ p3 + length (before ++ entry ∷ after)
call_spent p0 p1 p2 p3 before entry after first second third = let long = around_length before entry after in omega (arith, first, second, third, long)

pub call_few : (before : List Note) (entry : Note) (after : List Note) → length before ≤ 1 → length after ≤ 1 → length (before ++ entry ∷ after) ≤ 3
call_few before entry after few least = let long = around_length before entry after in omega (arith, few, least, long)
