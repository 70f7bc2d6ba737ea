use Rattle.co_bucket.proofs.laws.looks_are_at_visited_buckets.Goals as goal
use Rattle.co_bucket.proofs.Looked.{looked}

pub returns : goal.returns
returns c = looked
