use Rattle.co_script.proofs.laws.canonical_text_reads_back.Goals as goal
use Rattle.co_script.proofs.CanonicalBack.{reads-back}

pub returns : goal.returns
returns c = reads-back
