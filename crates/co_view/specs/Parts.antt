-- Texts in parts.
use Rattle.std.specs.Prelude.{ℕ, ◌+◌, ◌*◌, List, ◌++◌, decimal, flat_map}
use Rattle.co_view.specs.declared.parts.Part.{Part}
use Rattle.co_view.specs.declared.parts.Part.TheVariants.{Text, Tagged, Down, At, Note}
use Rattle.co_view.specs.Trace.{at_text}
use Rattle.co_view.specs.Words.{note_text}

abbrev pub part_text : Part → List ℕ
part_text (Text t) = t.now
part_text (Tagged t n) = t.now ++ decimal n
part_text (Down t from step) = t.now ++ decimal (from + 18 * step)
part_text (At lane step) = at_text lane step
part_text (Note p entry) = note_text p entry.now

abbrev pub parts_text : List Part → List ℕ
parts_text parts = flat_map part_text parts
