-- A note of a line: whatever the line's number, the line fits, and what is said of the note holds.
use Rattle.std.proofs.Common.{◌≡◌, ℕ, zero, suc, List, [], ◌∷◌, refl, subst}
use Rattle.std.specs.Prelude.{Some, slice_get}
use Rattle.co_object.specs.declared.note.Note.{Note}
use Rattle.co_object.specs.declared.Entry.{Entry}
use Rattle.co_object.specs.declared.QEntry.{QEntry}
use Rattle.co_object.specs.declared.Place.TheVariants as place
use Rattle.co_object.specs.declared.AnyEntry.{AnyEntry}
use Rattle.co_object.specs.declared.AnyEntry.TheVariants as of
use Rattle.co_program.specs.declared.script.Script.{Script}
use Rattle.co_report.specs.declared.line.Line.{Line}
use Rattle.co_report.specs.PackedLines.{line_of}
use Rattle.co_check.specs.Lines.{AreLinesOf, IsLineOf, IsOfKind}
use Rattle.co_check.proofs.Taking.{some-is}

pub renumbered : (s : Script) (note : Note) (a b : ℕ) → IsLineOf s (line_of a note) → IsLineOf s (line_of b note)
renumbered s note a b h = record { place = h.place; kind = h.kind; actor = h.actor; names = h.names }

line-in : (s : Script) (lines : List Line) (i : ℕ) (l : Line) → AreLinesOf s lines → slice_get lines i ≡ Some l → IsLineOf s l
line-in s [] i l h here = cc
line-in s (x ∷ xs) zero l h here = subst (IsLineOf s) (some-is x l here) h.0
line-in s (x ∷ xs) (suc i) l h here = line-in s xs i l h.1 here

-- each line fits
pub fits-at : (s : Script) (lines : List Line) (i line : ℕ) (note : Note) → AreLinesOf s lines → slice_get lines i ≡ Some (line_of line note) → IsLineOf s (line_of 0 note)
fits-at s lines i line note h here = renumbered s note line 0 (line-in s lines i (line_of line note) h here)

-- ---- the kind of a place

pub not-timer : (i : ℕ) (e : AnyEntry) → IsOfKind (place.Timer i) e → ((x : Entry) → e ≡ of.Timer x → ⊥) → ⊥
not-timer i (of.Timer x) h other = other x refl
not-timer i (of.Cpu x) h other = h
not-timer i (of.Own x) h other = h

pub not-cpu : (cpu : ℕ) (e : AnyEntry) → IsOfKind (place.Cpu cpu) e → ((x : QEntry) → e ≡ of.Cpu x → ⊥) → ⊥
not-cpu cpu (of.Timer x) h other = h
not-cpu cpu (of.Cpu x) h other = other x refl
not-cpu cpu (of.Own x) h other = h
