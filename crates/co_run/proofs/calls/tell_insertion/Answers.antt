-- The note that there may be is what the call put in.
use Rattle.std.proofs.Common.{◌∙◌, List, ap, subst}
use Rattle.co_object.specs.declared.Note.{Note}
use Rattle.co_run.specs.Counted.{HasTold}
use Rattle.co_run.specs.Noted.{gone_on}
use Rattle.co_program.specs.Indexed.{cursor_of}
use Rattle.co_run.proofs.shown.CallNotes.{some_gone_on}
use Rattle.co_run.proofs.calls.tell_insertion.Goals as goal

pub returns-then-has_insertion-clause-cursor : goal.returns-then-has_insertion-clause-cursor
returns-then-has_insertion-clause-cursor g c = λ a.
    c.tell_some.ensures.cursor a ∙ (some_gone_on c.args.script.now _ c.note_of_insertion-note.result
    ∙ ap (λ (l : List Note). gone_on c.args.script.now (cursor_of c.args.script.now a c.args.cursor.now) l) c.note_of_insertion-note.ensures)

pub returns-then-has_insertion-clause-told : goal.returns-then-has_insertion-clause-told
returns-then-has_insertion-clause-told g c = subst (λ (l : List Note). HasTold g.B.Book.notes g.B.Book.spare c.tell_some.new.cursor c.args.book.now c.tell_some.new.book l) c.note_of_insertion-note.ensures c.tell_some.ensures.told
