-- Where an actor's notes lead, by the lines that have them.
use Rattle.std.specs.Prelude.{◌≡◌, ℕ, suc, Bool, true, false, List, Option, Some, None, option_and_then, slice_get}
use Rattle.std.specs.List.{filter_map}
use Rattle.co_program.specs.declared.script.Script.{Script}
use Rattle.co_program.specs.declared.cursor.Cursor.{Cursor as CursorAt}
use Rattle.co_program.specs.declared.action.Action.{Action}
use Rattle.co_program.specs.Action.{action_for}
use Rattle.co_program.specs.Cursor.{start_of}
use Rattle.co_program.specs.Follows.{past, at_next_note}
use Rattle.co_program.specs.Indexed.{IsCounted, action_of, cursor_of}
use Rattle.co_check.specs.declared.walk.Walked.{Walked}
use Rattle.co_check.specs.declared.walk.Walked.TheVariants.{Astray, At}
use Rattle.co_check.specs.Astray.{SeenLine, is_next_note, goes_on, first_astray, cursor_after_lines}
use Rattle.co_check.specs.Lines.{lines_max}

-- the notes that stand at these lines
abbrev pub by_row : List SeenLine → List (Option ℕ) → List SeenLine
by_row notes row = filter_map (λ slot. option_and_then (slice_get notes) slot) row

abbrev pub IsWalked : Script → ℕ → List SeenLine → Walked → Type 0
IsWalked s a notes (Astray line) = first_astray s a (start_of s a) notes ≡ Some line
IsWalked s a notes (At c) = (first_astray s a (start_of s a) notes ≡ None) × (cursor_of s a c ≡ cursor_after_lines s a (start_of s a) notes) × IsCounted c lines_max

-- this is what the program does there
abbrev pub IsActionAt : Script → ℕ → CursorAt → Action → Type 0
IsActionAt s a c action = action_of s a c action ≡ action_for s a (cursor_of s a c)

-- the cursor steps there without a note, or has no such step and stays where it does this
abbrev pub IsQuietStep : Script → ℕ → CursorAt → Bool → Action → CursorAt → Type 0
IsQuietStep s a c false action to =
    (to ≡ c) × IsActionAt s a c action × ((fuel : ℕ) → past s a fuel (cursor_of s a c) (action_for s a (cursor_of s a c)) ≡ cursor_of s a c)
IsQuietStep s a c true action to = (fuel : ℕ) →
    past s a (suc fuel) (cursor_of s a c) (action_for s a (cursor_of s a c)) ≡ past s a fuel (cursor_of s a to) (action_for s a (cursor_of s a to))

-- the note is the next one of the program, which goes on there; or it is not
abbrev pub IsNoteWalked : Script → ℕ → CursorAt → SeenLine → Bool → CursorAt → Type 0
IsNoteWalked s a c x false to = is_next_note s a (at_next_note s a (cursor_of s a c)) x ≡ false
IsNoteWalked s a c x true to = (is_next_note s a (at_next_note s a (cursor_of s a c)) x ≡ true) × (cursor_of s a to ≡ goes_on s (at_next_note s a (cursor_of s a c)) x)
