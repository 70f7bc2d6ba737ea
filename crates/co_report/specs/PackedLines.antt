-- Note lines in few bytes: notes, and where the numbers of their lines follow each other.
use Rattle.std.specs.Prelude.{ℕ, ◌+◌, ◌-◌, Bool, ◌&&◌, ◌==◌, min, nat_le, if◌then◌else◌, List, [], ◌∷◌}
use Rattle.co_object.specs.declared.note.Note.{Note}
use Rattle.co_report.specs.declared.line.Line.{Line}
use Rattle.co_report.specs.declared.packed_lines.Stretch.{Stretch}

-- before the first stretch
abbrev pub no_stretch : Stretch
no_stretch = record { at = 0; line = 0 }

-- the last of these stretches that does not begin behind the note at this index
abbrev pub stretch_at : Stretch → List Stretch → ℕ → Stretch
stretch_at first [] at = first
stretch_at first (x ∷ xs) at = stretch_at (if nat_le x.at at then x else first) xs at

-- the number of that note's line, where it is of this stretch
abbrev pub line_in : Stretch → ℕ → ℕ
line_in x at = min (x.line + (at - x.at)) 18446744073709551615

-- the stretch goes on with the note at this index, whose line has this number
abbrev pub is_next_of : Stretch → (at line : ℕ) → Bool
is_next_of x at line = nat_le x.at at && line_in x at == line

-- the line of a note
abbrev pub line_of : ℕ → Note → Line
line_of line note = record { line = line; place = note.place; number = note.pos; entry = note.entry }

-- the note of a line
abbrev pub note_from_line : Line → Note
note_from_line l = record { place = l.place; pos = l.number; entry = l.entry }

-- the lines of notes, the first of which has this index
abbrev pub lines_from : List Stretch → ℕ → List Note → List Line
lines_from stretches at [] = []
lines_from stretches at (n ∷ ns) = line_of (line_in (stretch_at no_stretch stretches at) at) n ∷ lines_from stretches (at + 1) ns
