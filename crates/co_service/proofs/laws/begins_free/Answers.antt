use Rattle.co_service.proofs.Lasts.{booted_free}
use Rattle.co_service.proofs.laws.begins_free.Goals as goal

pub returns : goal.returns
returns c = booted_free
