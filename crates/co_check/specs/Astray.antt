-- The notes of an actor, in order of their numbers, beside its program.
use Rattle.std.specs.Prelude.{ℕ, ◌&&◌, not, nat_le, Bool, if◌then◌else◌, List, [], ◌∷◌, ◌++◌, Option, Some, None}
use Rattle.std.specs.List.{filter_map, find, range_with_len}
use Rattle.co_program.specs.declared.script.Script.{Script}
use Rattle.co_program.specs.Action.{action_for, scans_first}
use Rattle.co_program.specs.Advance.{advance}
use Rattle.co_program.specs.Cursor.{Cursor, start_of}
use Rattle.co_program.specs.Follows.{at_next_note}
use Rattle.co_report.specs.declared.line.Line.{Line}
use Rattle.co_check.specs.Asking.{asks, is_nothing}
use Rattle.co_check.specs.Numbers.{lines_made_by}
use Rattle.co_check.specs.Shown.{is_note, is_queued, scans_above}

-- a line, and what the other lines of its place say of it
pub record SeenLine : Type 0 where
  pub line : Line
  -- its callout stands in a queue once the note is made
  pub listed : Bool
  -- how many Scans stand above it in its CPU's journal
  pub scans : ℕ

abbrev pub seen_at : Script → List Line → Line → SeenLine
seen_at s above l = record { line = l; listed = is_queued s (above ++ l ∷ []) l.place; scans = scans_above above l.place }

abbrev pub seen_from : Script → List Line → List Line → List SeenLine
seen_from s above [] = []
seen_from s above (l ∷ ls) = seen_at s above l ∷ seen_from s (above ++ l ∷ []) ls

abbrev pub seen_lines : Script → List Line → List SeenLine
seen_lines s lines = seen_from s [] lines

-- the actor's note of this number
abbrev pub note_numbered : List SeenLine → ℕ → ℕ → Option SeenLine
note_numbered notes a number = find (λ x. is_note a number x.line) notes

-- the notes of so many numbers
abbrev pub lines_numbered : List SeenLine → (a count : ℕ) → List SeenLine
lines_numbered notes a count = filter_map (note_numbered notes a) (range_with_len 0 count)

-- the note is the next one of the program, and stands below the Scans that it waits for
abbrev pub is_next_note : Script → ℕ → Cursor → SeenLine → Bool
is_next_note s a c x = asks a c.removed (action_for s a c) x.line.place x.line.entry && nat_le (scans_first c) x.scans

abbrev pub goes_on : Script → Cursor → SeenLine → Cursor
goes_on s c x = advance s c x.listed x.line.place x.line.entry

-- the line of the first note that the program doesn't give
abbrev pub first_astray : Script → ℕ → Cursor → List SeenLine → Option ℕ
first_astray s a c [] = None
first_astray s a c (x ∷ xs) =
    if is_next_note s a (at_next_note s a c) x then first_astray s a (goes_on s (at_next_note s a c) x) xs else Some x.line.line

-- the cursor after these lines
abbrev pub cursor_after_lines : Script → ℕ → Cursor → List SeenLine → Cursor
cursor_after_lines s a c [] = c
cursor_after_lines s a c (x ∷ xs) = cursor_after_lines s a (goes_on s (at_next_note s a c) x) xs

-- the notes of an actor
abbrev pub by_actor : Script → List Line → ℕ → List SeenLine
by_actor s lines a = lines_numbered (seen_lines s lines) a (lines_made_by a lines)

abbrev pub astray_of : Script → List Line → ℕ → Option ℕ
astray_of s lines a = first_astray s a (start_of s a) (by_actor s lines a)

-- its program goes on after its notes
abbrev pub is_unfinished : Script → List Line → ℕ → Bool
is_unfinished s lines a = not (is_nothing (action_for s a (at_next_note s a (cursor_after_lines s a (start_of s a) (by_actor s lines a)))))

abbrev pub or_later : Option ℕ → Option ℕ → Option ℕ
or_later (Some line) later = Some line
or_later None later = later

-- the first of these actors of which something is wrong
abbrev pub first_astray_of : (ℕ → Option ℕ) → List ℕ → Option ℕ
first_astray_of wrong [] = None
first_astray_of wrong (a ∷ actors) = or_later (wrong a) (first_astray_of wrong actors)
