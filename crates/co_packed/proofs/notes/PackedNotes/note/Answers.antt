use Rattle.std.proofs.Common.{◌≡◌, length, sym, refl, ap, ◌∙◌, arith}
use Rattle.std.proofs.lemmas.List.{length-map}
use Rattle.co_packed.proofs.Storing.{length_of_rows, stored_at, note_there}
use Rattle.co_packed.specs.Numbered.{numbered_note}
use Rattle.co_packed.specs.Stored.{rows_in}
use Rattle.co_packed.proofs.notes.PackedNotes.note.Goals as goal

pub rest_at-rest-requires : goal.rest_at-rest-requires
rest_at-rest-requires c =
    let many : length c.args.self.now ≡ c.self.inside.count = ap length (sym c.self.view_is) ∙ length-map (rows_in c.self.inside.count c.self.inside.bytes) numbered_note ∙ length_of_rows c.self.inside.count c.self.inside.bytes in
    let enough = c.self.invariant.enough in
    let placed = stored_at c.self.inside.bytes c.self.inside.starts c.self.inside.count c.args.at c.self.invariant (omega arith) in
    rw (c.as_slice.ensures, c.as_slice-2.ensures) (record { marked = omega arith; within = placed.in_range })

pub returns : goal.returns
returns c =
    let many : length c.args.self.now ≡ c.self.inside.count = ap length (sym c.self.view_is) ∙ length-map (rows_in c.self.inside.count c.self.inside.bytes) numbered_note ∙ length_of_rows c.self.inside.count c.self.inside.bytes in
    let placed = stored_at c.self.inside.bytes c.self.inside.starts c.self.inside.count c.args.at c.self.invariant (omega arith) in
    note_there c.self.inside.bytes c.self.inside.count c.args.at c.args.self.now c.note_in.result c.self.view_is (omega arith)
    (c.note_in.ensures ∙ rw (c.rest_at-rest.ensures, c.as_slice.ensures, c.as_slice-2.ensures, placed.row_is) refl)
