use Rattle.std.proofs.Common.{◌^◌}
use Rattle.co_notes.specs.NoteValues.{lettered}
use Rattle.co_notes.proofs.PlainParts.{lettered_carried, word_left}
use Rattle.co_notes.proofs.reading.values.next_lettered64.Goals as goal

pub returns-in-Some : goal.returns-in-Some
returns-in-Some c = lettered_carried c.args.letter (2 ^ 64) _ _ _ c.whole.result c.in-Some.ensures c.whole.ensures

pub returns-in_ok-word-in-None : goal.returns-in_ok-word-in-None
returns-in_ok-word-in-None c = word_left (lettered c.args.letter (2 ^ 64)) (λ n. n) _ _ _ _ c.lettered64.result c.in-None.ensures c.in_ok-word-in-None.ensures c.lettered64.ensures
