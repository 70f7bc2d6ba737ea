-- The note is looked at where the steps without a note end.
use Rattle.std.proofs.Common.{ℕ, Bool, ap, sym, ◌∙◌}
use Rattle.co_program.specs.Advance.{advance}
use Rattle.co_program.specs.Cursor.{Cursor}
use Rattle.co_program.specs.Indexed.{cursor_of}
use Rattle.co_check.specs.Astray.{SeenLine, is_next_note}
use Rattle.co_report.specs.declared.line.Line.{Line}
use Rattle.co_report.specs.PackedLines.{line_of}
use Rattle.co_check.proofs.walk.walk_note.Goals as goal

abbrev seen_note : Line → Bool → ℕ → SeenLine
seen_note l listed scans = record { line = l; listed = listed; scans = scans }

pub returns-then-not-is_next-clause-note : goal.returns-then-not-is_next-clause-note
returns-then-not-is_next-clause-note c line =
    let s = c.args.script.now in
    let a = c.args.actor in
    let l = line_of line c.args.note.now in
    let f = c.args.fact.now in
    ap (λ (x : Cursor). is_next_note s a x (seen_note l f.listed f.scans)) (sym c.settle.ensures.cursor)
    ∙ (ap (λ n. is_next_note s a (cursor_of s a c.settle.new.cursor) (seen_note l f.listed n)) (sym c.scans.ensures)
    ∙ (sym (c.is_next.ensures line f.listed) ∙ c.if-not-is_next.true))

pub returns-clause-note : goal.returns-clause-note
returns-clause-note c line =
    let s = c.args.script.now in
    let a = c.args.actor in
    let l = line_of line c.args.note.now in
    let f = c.args.fact.now in (
      ap (λ (x : Cursor). is_next_note s a x (seen_note l f.listed f.scans)) (sym c.settle.ensures.cursor)
          ∙ (ap (λ n. is_next_note s a (cursor_of s a c.settle.new.cursor) (seen_note l f.listed n)) (sym c.scans.ensures)
          ∙ (sym (c.is_next.ensures line f.listed) ∙ c.if-not-is_next.false)),
      c.advance.ensures.cursor a
          ∙ (ap (λ (b : Bool). advance s (cursor_of s a c.settle.new.cursor) b l.place l.entry) c.listed.ensures
          ∙ ap (λ (x : Cursor). advance s x f.listed l.place l.entry) c.settle.ensures.cursor),
    )
