use Rattle.co_script.specs.Canonical.{canonical}
use Rattle.co_script.proofs.laws.fits_exactly.Goals as goal
use Rattle.co_script.proofs.CanonicalBack.{reads-back}
use Rattle.co_script.proofs.ReadFits.{read-fits}

pub returns : goal.returns
returns c = λ s. (λ h. (canonical s, reads-back s h), λ r. read-fits r.0 s r.1)
