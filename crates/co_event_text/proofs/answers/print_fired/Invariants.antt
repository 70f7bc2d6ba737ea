use Rattle.std.proofs.Common.{◌≡◌, ◌++◌, take, map}
use Rattle.co_text.specs.Lines.{text}
use Rattle.co_event_text.specs.Answers.{fired_words}
use Rattle.co_event_text.proofs.answers.print_fired.Given as goal

abbrev pub invariant-loop-number : goal.invariant-loop-number
invariant-loop-number l = l.page ≡ l.initial.page ++ text (map fired_words (take l.number-index l.numbers))
