use Rattle.co_single.proofs.LawsHold.{none_past}
use Rattle.co_single.proofs.laws.no_alarm_past_the_last.Goals as goal

pub returns : goal.returns
returns c = none_past
