use Rattle.std.proofs.Common.{◌≡◌, [], sym, ◌∙◌, arith}
use Rattle.co_packed.proofs.Storing.{no_notes, notes_next}
use Rattle.co_packed.specs.Rows.{after_row}
use Rattle.co_packed.proofs.ahead.NotesAhead.next.Goals as goal

pub returns-then-self-eq0 : goal.returns-then-self-eq0
returns-then-self-eq0 c =
    let none : c.args.self.now ≡ [] = sym c.self.view_is ∙ no_notes c.self.inside.left c.self.inside.rest.now (omega arith) in
    (none, none)

pub returns : goal.returns
unfolding after_row
returns c = rw (c.note_of.ensures, c.row_at-size.ensures.row, c.rest_from-self-inside.ensures, c.row_at-size.ensures.size) (sym c.self.view_is ∙ notes_next c.self.inside.left c.self.inside.rest.now (omega arith))
