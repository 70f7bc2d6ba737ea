-- The line shows the note that was read, and that is told.
use Rattle.std.proofs.Common.{◌≡◌, List, [], ◌∷◌, ◌++◌, Ok, Some, false, ap, sym, subst, ◌∙◌}
use Rattle.co_object.specs.declared.note.Note.{Note}
use Rattle.co_text.specs.Fallible.{◌>>=◌}
use Rattle.co_report.specs.declared.line.Line.{Line}
use Rattle.co_notes.specs.declared.reading.notes.NumberedEntry.{NumberedEntry}
use Rattle.co_notes.specs.NoteForms.{shown_note}
use Rattle.co_notes.specs.NoteValues.{names_of}
use Rattle.co_report.specs.PackedLines.{line_of}
use Rattle.co_report.specs.Reading.{line_after, with_note}
use Rattle.co_report.specs.ReadingViews.{so_far, with_line, IsLineSorted}
use Rattle.co_report.proofs.reading.line_by_line.tell_note.Goals as goal

pub returns-clause-value : goal.returns-clause-value
returns-clause-value g c =
    let s = c.args.setting.now.script.now in
    let d = so_far c.args.setting.now c.args.progress.now in
    let k = c.args.number in
    let line = c.args.line.now in
    let note : Note = c.read_note.new.note in
    let x : NumberedEntry = record { number = note.pos; entry = note.entry } in
    let sorted : IsLineSorted s d line (Ok false) = subst (λ b. IsLineSorted s d line (Ok b)) c.if-branch.false c.in_ok-is_closed_by.ensures in
    let at_place : d.current ≡ Some note.place = c.in-Some.is ∙ ap (λ p. Some p) (sym c.in_ok-read_note.ensures.place) in
    let shown : shown_note (names_of s) (Some note.place) line ≡ Ok x =
    ap (λ names. shown_note names (Some note.place) line) (sym c.requires.setting.names)
    ∙ (ap (λ p. shown_note c.args.setting.now.names (Some p) line) c.in_ok-read_note.ensures.place ∙ c.in_ok-read_note.ensures.shown) in
    let told : line_after s k d line ≡ Ok (with_line d (Some (line_of k note))) =
    sorted k
    ∙ (ap (λ current. shown_note (names_of s) current line >>= λ y. Ok (with_note k d current y)) at_place
    ∙ (ap (λ read. read >>= λ y. Ok (with_note k d (Some note.place) y)) shown
    ∙ ap (λ (ls : List Line). Ok (record { current = d.current; left = d.left; lines = ls ++ line_of k note ∷ []; end = d.end })) c.requires.none)) in
    (Some (line_of k note), told, c.in_ok-take.ensures)
