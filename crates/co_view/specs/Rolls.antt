-- A text that grows in pieces.
use Rattle.std.specs.Prelude.{ℕ, List, ◌++◌}
use Rattle.std.specs.List.{concat}
use Rattle.co_view.specs.declared.roll.Roll.{Roll}

abbrev pub roll_text : Roll → List ℕ
roll_text r = concat r.pieces ++ r.page
