use Rattle.co_notes.specs.NoteValues.{count32}
use Rattle.co_notes.proofs.PlainParts.{half_carried, word_left}
use Rattle.co_notes.proofs.reading.values.number32.Goals as goal

pub returns-in-Some : goal.returns-in-Some
returns-in-Some c = half_carried _ _ _ c.half.result c.in-Some.ensures c.half.ensures

pub returns-in_ok-word-in-None : goal.returns-in_ok-word-in-None
returns-in_ok-word-in-None c = word_left count32 (λ n. n) _ _ _ _ c.count32.result c.in-None.ensures c.in_ok-word-in-None.ensures c.count32.ensures
