-- Its place and its entry are those that their parts stand for.
use Rattle.std.proofs.Common.{◌≡◌, ◌∙◌, refl, ap, w32, rules}
use Rattle.std.specs.Prelude.{ℤ}
use Rattle.std.proofs.lemmas.Int.{to_z-of_z}
use Rattle.co_object.specs.declared.note.AnyEntry.{AnyEntry}
use Rattle.co_object.specs.declared.note.Note.{Note}
use Rattle.co_object.specs.declared.note.Place.{Place}
use Rattle.co_packed.specs.Parts.{entry_of, place_of}
use Rattle.co_packed.proofs.packed.PackedNote.of.Goals as goal

same : (note : Note) (place : Place) (entry : AnyEntry) → place ≡ note.place → entry ≡ note.entry → record note { place = place; entry = entry } ≡ note
same note place entry at said = rw (at, said) refl

pub returns : goal.returns
returns c =
    let whose = c.place_parts-whose.result in
    let parts = c.entry_parts-actor.result in
    ap (λ (code : ℤ). record c.args.note.now { place = place_of whose.0 whose.1; entry = entry_of parts.sort parts.actor parts.act parts.op (record parts.reply { code = code }) })
    (to_z-of_z w32 parts.reply.code (search rules))
    ∙ same c.args.note.now _ _ c.place_parts-whose.ensures c.entry_parts-actor.ensures
