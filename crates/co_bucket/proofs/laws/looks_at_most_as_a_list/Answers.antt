use Rattle.co_bucket.proofs.laws.looks_at_most_as_a_list.Goals as goal
use Rattle.co_bucket.proofs.Looked.{at_most_all}

pub returns : goal.returns
returns c = at_most_all
