use Rattle.co_notes.proofs.PlainParts.{code_left}
use Rattle.co_notes.proofs.reading.codes.signed_code.Goals as goal

pub returns-in-None : goal.returns-in-None
returns-in-None c = code_left _ _ _ _ c.in-None.ensures c.code_by_word.ensures
