use Rattle.co_notes.specs.NoteValues.{code}
use Rattle.co_notes.proofs.PlainParts.{word_carried}
use Rattle.co_notes.proofs.reading.codes.code_by_word.Goals as goal

pub returns : goal.returns
returns c = word_carried code (λ z. z) _ _ _ _ c.in_ok-word.ensures c.code_of.ensures
