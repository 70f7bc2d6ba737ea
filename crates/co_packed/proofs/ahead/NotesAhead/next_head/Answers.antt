use Rattle.std.proofs.Common.{◌≡◌, [], sym, ap, ◌∙◌, arith}
use Rattle.co_packed.proofs.Renumbered.{head_again}
use Rattle.co_packed.proofs.Storing.{no_notes, notes_next}
use Rattle.co_packed.specs.Numbered.{numbered_head, numbered_note}
use Rattle.co_packed.specs.Rows.{row_in, after_row}
use Rattle.co_packed.proofs.ahead.NotesAhead.next_head.Goals as goal

pub returns-then-self-eq0 : goal.returns-then-self-eq0
returns-then-self-eq0 c =
    let none : c.args.self.now ≡ [] = sym c.self.view_is ∙ no_notes c.self.inside.left c.self.inside.rest.now (omega arith) in
    (none, none)

pub returns : goal.returns
unfolding after_row
returns c =
    let ahead = sym c.self.view_is ∙ notes_next c.self.inside.left c.self.inside.rest.now (omega arith) in
    (numbered_note (row_in c.self.inside.rest.now), rw (c.rest_from-self-inside.ensures, c.front_at-size.ensures.size) ahead, c.head_of.ensures ∙ ap numbered_head c.front_at-size.ensures.front ∙ head_again (row_in c.self.inside.rest.now))
