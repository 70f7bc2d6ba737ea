use Rattle.std.proofs.Common.{◌≡◌, take}
use Rattle.co_text.proofs.values.is_word.Given as goal

-- the bytes so far are the same
abbrev pub invariant-loop-index : goal.invariant-loop-index
invariant-loop-index l = take l.index l.word ≡ take l.index l.wanted
