use Rattle.co_event_text.proofs.Until.{takes_all}
use Rattle.co_event_text.proofs.laws.each_until_takes_all.Goals as goal

pub returns : goal.returns
returns c = takes_all
