use Rattle.std.proofs.Common.{ap, length, subst, ◌∙◌, arith}
use Rattle.std.proofs.lemmas.List.Elements.{All-head, All-rest}
use Rattle.std.specs.List.{All}
use Rattle.co_script.specs.Beside.{IsSection}
use Rattle.co_script.proofs.by_threads.read_around.Goals as goal

pub loop-section-preserved : goal.loop-section-preserved
loop-section-preserved c =
    let before = c.loop-section.invariant in
    let steps = c.in-Some.ensures.steps in
    record {
      left = omega (arith, ap (λ l. length l) steps.0, before.left, steps.1);
      sections = All-rest (IsSection c.args.text.now c.args.frame.now) c.in-Some.section _ _ steps.0 before.sections;
      spot = c.put_section-spot.ensures.spot;
      same = before.same ∙ (c.in_ok-spot.ensures.same ∙ c.put_section-spot.ensures.same);
    }

pub put_section-spot-requires-clause-section : goal.put_section-spot-requires-clause-section
put_section-spot-requires-clause-section c =
    let is = IsSection c.args.text.now c.args.frame.now in
    All-head is c.in-Some.section _ (subst (All is) c.in-Some.ensures.steps.0 c.loop-section.invariant.sections)
