use Rattle.co_check.proofs.LegalHistories.{histories-legal}
use Rattle.co_check.proofs.laws.legal_histories.Goals as goal

pub returns : goal.returns
returns c = histories-legal
