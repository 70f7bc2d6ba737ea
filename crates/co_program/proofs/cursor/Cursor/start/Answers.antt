use Rattle.co_program.proofs.Existing.{start_in}
use Rattle.co_program.proofs.cursor.Cursor.start.Goals as goal

pub returns-clause-existing : goal.returns-clause-existing
returns-clause-existing c s actor is = let start = start_in s is actor in record { left = start.left; stage = start.stage; parcel = start.parcel }
