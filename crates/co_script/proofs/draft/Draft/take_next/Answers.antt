use Rattle.std.proofs.Common.{subst}
use Rattle.co_script.specs.Beside.{SaysNext}
use Rattle.co_script.proofs.Nexts.{takes}
use Rattle.co_script.proofs.draft.Draft.take_next.Goals as goal

pub returns : goal.returns
returns c =
    let says = subst (λ t. SaysNext c.args.self.now t c.said_next.new.into c.in-Some.after.now) c.split_at.ensures.back c.in-Some.ensures in
    takes c.args.text.now c.in-Some.after.now c.args.at c.args.self.now c.add.new.self c.said_next.new.into c.requires says c.in_ok-add.ensures
