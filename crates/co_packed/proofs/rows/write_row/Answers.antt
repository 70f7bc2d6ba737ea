use Rattle.std.proofs.Common.{ℕ, ◌≡◌, ◌+◌, ◌*◌, ◌++◌, List, take, drop, ap, sym, ◌∙◌, append-nil, arith}
use Rattle.std.proofs.lemmas.List.{take_all, drop_all, length-take-le}
use Rattle.std.specs.List.{flat_map}
use Rattle.co_packed.proofs.Widths.{row_put, widths_none}
use Rattle.co_packed.specs.Rows.{widths, number_bytes, row_bytes}
use Rattle.co_packed.proofs.rows.write_row.Goals as goal

pub returns-clause-written : goal.returns-clause-written
unfolding row_bytes
returns-clause-written c =
    let ns : List ℕ = c.args.numbers.now in
    let front : List ℕ = take 8 c.args.buffer.now in
    let one = c.put_four-first.ensures in
    let two = c.put_four-second.ensures in
    let three = c.put_four_if_some-third.ensures in
    let four = c.put_four_if_some-fourth.ensures in
    let first : widths ns ≡ c.put_four-first.result.0 + 65536 * widths (drop 4 ns) = one.widths in
    let second : widths (drop 4 ns) ≡ c.put_four-second.result.0 + 65536 * widths (drop 8 ns) = two.widths in
    let third : widths (drop 8 ns) ≡ c.put_four_if_some-third.result.0 + 65536 * widths (drop 12 ns) = three.widths in
    let fourth : widths (drop 12 ns) ≡ c.put_four_if_some-fourth.result.0 + 65536 * widths (drop 16 ns) = four.widths in
    let last : widths (drop 16 ns) ≡ 0 = ap widths (drop_all 16 ns (omega arith)) ∙ widths_none in
    let so_far = four.written front (three.written front (two.written front (one.written front (sym (append-nil front))))) in
    let all = so_far ∙ ap (λ (xs : List ℕ). front ++ flat_map number_bytes xs) (take_all 16 ns (omega arith)) in
    row_put c.put_four_if_some-fourth.new.buffer c.put_word.new.buffer front ns c.put_four_if_some-fourth.result.1 _
    (omega (arith, first, second, third, fourth, last)) (omega (arith, one.behind, two.behind, three.behind, four.behind)) (length-take-le 8 c.args.buffer.now (omega arith)) all
    c.put_word.ensures.written c.put_word.ensures.behind
