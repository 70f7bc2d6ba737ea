use Rattle.std.proofs.Common.{◌≡◌, length, refl, arith}
use Rattle.std.proofs.lemmas.List.{map_push}
use Rattle.co_packed.proofs.Storing.{stored_marked, marked_more, stored_more, stored_fits, rows_pushed}
use Rattle.co_packed.specs.Numbered.{numbered_note}
use Rattle.co_packed.specs.Stored.{marked, rows_in}
use Rattle.co_packed.proofs.notes.PackedNotes.push.Goals as goal

pub invariant_of-self-in_err-extend_from_slice : goal.invariant_of-self-in_err-extend_from_slice
invariant_of-self-in_err-extend_from_slice c =
    let end : c.as_slice-end.result.now ≡ c.self.inside.bytes = c.as_slice-end.ensures in
    rw (c.in_err-extend_from_slice.ensures.err, c.in_ok-mark.ensures.ok, end) (stored_marked c.self.inside.bytes c.self.inside.starts c.self.inside.count c.self.invariant)

pub one_more-count-requires : goal.one_more-count-requires
one_more-count-requires c =
    let few = stored_fits c.self.inside.bytes c.self.inside.starts c.self.inside.count c.self.invariant in
    rw c.as_slice-end.ensures (omega arith)

pub invariant_of-self-2 : goal.invariant_of-self-2
invariant_of-self-2 c =
    let end : c.as_slice-end.result.now ≡ c.self.inside.bytes = c.as_slice-end.ensures in
    rw (c.one_more-count.ensures, c.in_ok-extend_from_slice.ensures.ok, c.write_row-size.ensures.written, c.in_ok-mark.ensures.ok, end)
    (stored_more c.self.inside.bytes (marked c.self.inside.starts c.self.inside.count (length c.self.inside.bytes)) c.numbers_of.result c.self.inside.count
    (stored_marked c.self.inside.bytes c.self.inside.starts c.self.inside.count c.self.invariant)
    (marked_more c.self.inside.bytes c.self.inside.starts c.self.inside.count c.self.invariant)
    c.write_row-size.ensures.row)

pub returns-clause-ok : goal.returns-clause-ok
returns-clause-ok c =
    let pushed = rows_pushed c.self.inside.bytes c.numbers_of.result c.self.inside.count c.self.invariant.whole c.write_row-size.ensures.row in
    rw (c.one_more-count.ensures, c.in_ok-extend_from_slice.ensures.ok, c.write_row-size.ensures.written, pushed, map_push numbered_note (rows_in c.self.inside.count c.self.inside.bytes) c.numbers_of.result, c.numbers_of.ensures, c.self.view_is) refl
