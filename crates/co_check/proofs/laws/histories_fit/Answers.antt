use Rattle.co_check.proofs.LegalHistories.{legal-fit}
use Rattle.co_check.proofs.laws.histories_fit.Goals as goal

pub returns : goal.returns
returns c = legal-fit
