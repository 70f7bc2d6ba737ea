-- What was copied and what is left then are what was left.
use Rattle.std.proofs.Common.{◌≡◌, ◌∙◌, ℕ, List, take, drop, sym, ap, arith}
use Rattle.std.proofs.lemmas.List.{take_rest, length-take-le}
use Rattle.co_io.proofs.Turns.{left_after}
use Rattle.co_io.proofs.quiet.QuietSource.give.Goals as goal

pub returns-clause-bytes : goal.returns-clause-bytes
returns-clause-bytes c =
    let bytes = c.self.inside.bytes in
    let at = c.self.inside.at in
    let n = c.min-count.result in
    let copied : c.copy_from_slice.new.self ≡ take n (drop at bytes) = c.copy_from_slice.ensures.after ∙ ap (take n) (take_rest c.as_slice.result.now at) ∙ ap (λ (l : List ℕ). take n (drop at l)) c.as_slice.ensures in
    sym c.self.view_is ∙ left_after bytes c.copy_from_slice.new.self _ at n copied (c.copy_from_slice.ensures.len ∙ length-take-le n c.args.buf.now (omega (arith, c.min-count.ensures)))
