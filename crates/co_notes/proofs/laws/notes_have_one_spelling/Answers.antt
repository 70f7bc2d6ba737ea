use Rattle.std.proofs.Common.{ap, ◌∙◌}
use Rattle.std.specs.Prelude.{Some}
use Rattle.co_notes.specs.NoteValues.{names_of}
use Rattle.co_notes.specs.NoteForms.{shown_note}
use Rattle.co_notes.proofs.OneSpelling.{small_script, note-read, note-shown}
use Rattle.co_notes.proofs.laws.notes_have_one_spelling.Goals as goal

pub returns : goal.returns
returns c s p line x fits = (
  λ h. note-read s (small_script s fits) p line x h,
  λ h. ap (λ l. shown_note (names_of s) (Some p) l) h.1 ∙ note-shown s (small_script s fits) p x h.0,
)
