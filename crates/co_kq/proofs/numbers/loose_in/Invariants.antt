use Rattle.std.proofs.Common.{◌≡◌, take}
use Rattle.std.specs.List.{count_by}
use Rattle.co_kq.specs.Numbers.{is_held}
use Rattle.co_kq.proofs.numbers.loose_in.Given as goal

-- all so far are held
abbrev pub invariant-loop-number : goal.invariant-loop-number
invariant-loop-number l = count_by is_held (take l.number l.uses) ≡ l.number
