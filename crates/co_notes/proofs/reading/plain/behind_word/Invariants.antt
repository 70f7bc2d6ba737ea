use Rattle.std.proofs.Common.{◌≡◌, drop}
use Rattle.co_notes.specs.Plain.{behind_word}
use Rattle.co_notes.proofs.reading.plain.behind_word.Given as goal

-- what is left of both is compared as the whole is
abbrev pub invariant-loop-i : goal.invariant-loop-i
invariant-loop-i l = behind_word l.wanted l.text ≡ behind_word (drop l.i l.wanted) (drop l.i l.text)
