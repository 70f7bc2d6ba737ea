use Rattle.co_script.proofs.Beside.{section-framed}
use Rattle.co_script.proofs.sections.read_section.Goals as goal

pub returns : goal.returns
returns c = section-framed c.args.text.now c.args.frame.now c.in_ok-draft.draft c.section_of.result c.in_ok-draft.ensures.frame c.section_of.ensures
