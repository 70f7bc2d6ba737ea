use Rattle.std.proofs.Common.{◌≡◌, ◌∙◌, ap, sym, arith}
use Rattle.std.specs.List.{count_by}
use Rattle.std.proofs.lemmas.List.{take_all}
use Rattle.co_kq.specs.Numbers.{is_held}
use Rattle.co_kq.proofs.numbers.loose_in.Goals as goal

pub unreachable-requires : goal.unreachable-requires
unreachable-requires c =
    let all : count_by is_held c.args.uses.now ≡ c.loop-number.number = ap (count_by is_held) (sym (take_all c.loop-number.number c.args.uses.now c.loop-number-test.false)) ∙ c.loop-number.invariant in
    omega (arith, all, c.requires.some, c.loop-number-test.false)
