use Rattle.std.proofs.Common.{refl}
use Rattle.co_script.proofs.Beside.{section-read}
use Rattle.co_script.proofs.sections.section_of.Goals as goal

pub grow_on-grown-requires-clause-begins : goal.grow_on-grown-requires-clause-begins
grow_on-grown-requires-clause-begins c = record { kind = refl; acts = c.requires.begins.acts; clock = c.requires.begins.clock }

pub returns : goal.returns
returns c = section-read c.args.text.now c.args.draft c.grow_on-grown.new.draft c.args.stage c.args.at c.in_ok-end.end c.in_ok-end.lines c.into_section-acts.result c.requires.begins c.in_ok-end.ensures c.into_section-acts.ensures
