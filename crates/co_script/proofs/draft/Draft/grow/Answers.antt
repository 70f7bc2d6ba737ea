-- The line says an act, which is added.
use Rattle.std.proofs.Common.{subst, sym, ◌∙◌}
use Rattle.co_text.specs.Fallible.{Gives}
use Rattle.co_text.specs.Lines.{content}
use Rattle.co_script.specs.Beside.{Grows}
use Rattle.co_script.proofs.Nexts.{grows-added}
use Rattle.co_script.proofs.draft.Draft.grow.Goals as goal

pub returns : goal.returns
returns c line given =
    let before = c.args.self.now in
    subst (λ after. Grows line before after) (sym c.in_ok-add.ensures)
    (grows-added before line c.in-Ok.part.now c.in-Some.first.now c.next.new.self c.in-Some-act_said.act
    (subst (λ part. Gives (λ p. p.now) part (content line)) c.in-Ok.is given)
    (sym c.new-words.ensures ∙ c.in-Some.ensures)
    c.in-Some-act_said.ensures)
