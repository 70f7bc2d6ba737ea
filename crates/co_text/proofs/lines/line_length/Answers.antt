use Rattle.co_text.proofs.Feeds.{none_is_first, first_is_first}
use Rattle.co_text.proofs.lines.line_length.Goals as goal

pub returns-in-Some-clause-value : goal.returns-in-Some-clause-value
returns-in-Some-clause-value c = first_is_first c.args.text.now c.in-Some.feed c.in-Some.ensures.0 c.in-Some.ensures.1

pub returns-in-None-clause-value : goal.returns-in-None-clause-value
returns-in-None-clause-value c = none_is_first c.args.text.now c.in-None.ensures
