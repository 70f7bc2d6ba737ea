-- The pieces of one section more.
use Rattle.std.proofs.Common.{◌≡◌, ◌∷◌, [], length, ap, append_assoc, ◌∙◌, arith}
use Rattle.std.specs.Vec.Iter.{into_iter_items}
use Rattle.co_report.proofs.Pieces.{text-appended}
use Rattle.co_report.proofs.sections.append_all.Goals as goal

pub loop-page-preserved : goal.loop-page-preserved
loop-page-preserved c =
    let at = c.loop-page in
    let i = at.invariant in
    let x = c.in-Some.page in
    let steps : into_iter_items at.page-iterator ≡ x ∷ into_iter_items c.next.new.self = c.in-Some.ensures.steps.0 in
    record {
      yields = append_assoc at.yielded (x ∷ []) _ ∙ rw (← steps) i.yields;
      left = (let was = i.left in let gone = c.in-Some.ensures.steps.1 in let short = ap length steps in omega arith);
      appended = text-appended c.args.pieces.now at.pieces c.append.new.items c.in_ok-pieces.field-0 at.yielded x i.appended c.in_ok-pieces.ensures c.in_ok-append.ensures;
    }
