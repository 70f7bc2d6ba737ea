use Rattle.co_notes.specs.NoteValues.{lettered}
use Rattle.co_notes.proofs.PlainParts.{lettered_carried, word_left}
use Rattle.co_notes.proofs.reading.values.next_lettered32.Goals as goal

pub returns-in-Some : goal.returns-in-Some
returns-in-Some c = lettered_carried c.args.letter c.args.bound _ _ _ c.small.result c.in-Some.ensures c.small.ensures

pub returns-in_ok-word-in-None : goal.returns-in_ok-word-in-None
returns-in_ok-word-in-None c = word_left (lettered c.args.letter c.args.bound) (λ n. n) _ _ _ _ c.lettered32.result c.in-None.ensures c.in_ok-word-in-None.ensures c.lettered32.ensures
