use Rattle.std.proofs.Common.{subst}
use Rattle.co_text.specs.Fallible.{LineGives}
use Rattle.co_script.proofs.Stated.{number-line}
use Rattle.co_script.proofs.draft.Draft.number_line.Goals as goal

pub returns : goal.returns
returns c = subst (λ r. LineGives (λ _. c.numbered.new.self) c.numbered.result r) (number-line c.args.self.now c.close.new.self c.args.kind c.in_ok-number.number _ c.in_ok-number.ensures c.in_ok-close.ensures) c.numbered.ensures
