use Rattle.std.proofs.Common.{ℕ, List, length, get_or, ap, ◌∙◌}
use Rattle.co_packed.proofs.Widths.{zeros_behind, zeros_left}
use Rattle.co_packed.proofs.rows.with_room.Goals as goal

pub returns : goal.returns
returns c = λ i. ap (λ (xs : List ℕ). get_or xs i 0) c.put_first.ensures ∙ zeros_behind c.args.bytes.now _ (zeros_left (length c.args.bytes.now)) i
