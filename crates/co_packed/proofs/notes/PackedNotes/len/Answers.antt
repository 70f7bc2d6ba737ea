use Rattle.std.proofs.Common.{length, sym, ap, ◌∙◌}
use Rattle.std.proofs.lemmas.List.{length-map}
use Rattle.co_packed.proofs.Storing.{length_of_rows}
use Rattle.co_packed.specs.Numbered.{numbered_note}
use Rattle.co_packed.specs.Stored.{rows_in}
use Rattle.co_packed.proofs.notes.PackedNotes.len.Goals as goal

pub returns : goal.returns
returns c =
    let s = c.self.inside in
    sym (ap length (sym c.self.view_is) ∙ length-map (rows_in c.self.inside.count c.self.inside.bytes) numbered_note ∙ length_of_rows c.self.inside.count c.self.inside.bytes)
