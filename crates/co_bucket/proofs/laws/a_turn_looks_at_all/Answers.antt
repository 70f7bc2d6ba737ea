use Rattle.co_bucket.proofs.laws.a_turn_looks_at_all.Goals as goal
use Rattle.co_bucket.proofs.Looked.{turn_all}

pub returns : goal.returns
returns c = turn_all
