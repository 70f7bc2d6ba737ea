use Rattle.co_notes.proofs.PartSplits.{split_part}
use Rattle.co_notes.proofs.reading.parts.split.Goals as goal

pub returns : goal.returns
returns c = split_part c.args.text.now _ _ c.length_before.result c.length_before.ensures.value c.length_before.ensures.bound c.split_at.ensures.front c.split_at.ensures.back
