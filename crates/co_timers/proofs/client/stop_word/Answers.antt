use Rattle.std.proofs.Common.{◌∙◌, ap, rules}
use Rattle.co_timers.specs.Answers.{stop_word}
use Rattle.co_timers.proofs.client.stop_word.Goals as goal

pub returns-in-Stopped-eq0-default : goal.returns-in-Stopped-eq0-default
returns-in-Stopped-eq0-default c = ap stop_word c.in-Stopped-eq0-default.is ∙ search rules
