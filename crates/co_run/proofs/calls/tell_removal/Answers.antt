-- The note that there may be is what the call took out.
use Rattle.std.proofs.Common.{true, ◌∙◌, List, ap, subst}
use Rattle.co_object.specs.declared.Note.{Note}
use Rattle.co_run.specs.Counted.{HasTold}
use Rattle.co_run.specs.Noted.{gone_through}
use Rattle.co_program.specs.Indexed.{cursor_of}
use Rattle.co_run.proofs.shown.CallNotes.{some_gone_through}
use Rattle.co_run.proofs.calls.tell_removal.Goals as goal

pub returns-then-has_removal-clause-cursor : goal.returns-then-has_removal-clause-cursor
returns-then-has_removal-clause-cursor g c = λ a.
    c.tell_some.ensures.cursor a ∙ (some_gone_through c.args.script.now _ c.note_of_removal-note.result
    ∙ ap (λ (l : List Note). gone_through c.args.script.now (cursor_of c.args.script.now a c.args.cursor.now) true l) c.note_of_removal-note.ensures)

pub returns-then-has_removal-clause-told : goal.returns-then-has_removal-clause-told
returns-then-has_removal-clause-told g c = subst (λ (l : List Note). HasTold g.B.Book.notes g.B.Book.spare c.tell_some.new.cursor c.args.book.now c.tell_some.new.book l) c.note_of_removal-note.ensures c.tell_some.ensures.told
