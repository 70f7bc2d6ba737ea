use Rattle.co_program.proofs.ListsLook.{acts}
use Rattle.co_program.proofs.laws.acts_make_their_notes.Goals as goal

pub returns : goal.returns
returns c = acts
