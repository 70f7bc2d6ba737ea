use Rattle.std.proofs.Common.{◌≡◌, List, [], ◌∷◌, ◌++◌, length, sym, ap, ◌∙◌, arith, append_assoc}
use Rattle.std.specs.Vec.Iter.{into_iter_items}
use Rattle.co_service.proofs.FirstKeepers.{Kept, kept}
use Rattle.co_desk.proofs.Items.{map_more}
use Rattle.co_service.proofs.desk_parts.all_here.Goals as goal

pub loop-keeper-preserved : goal.loop-keeper-preserved
loop-keeper-preserved c =
    let at = c.loop-keeper in
    let i = at.invariant in
    let x = c.in-Some.keeper in
    let steps : into_iter_items at.keeper-iterator ≡ x ∷ into_iter_items c.next.new.self = c.in-Some.ensures.steps.0 in
    record {
      yields = append_assoc at.yielded (x ∷ []) _ ∙ rw (← steps) i.yields;
      left = (let was = i.left in let gone = c.in-Some.ensures.steps.1 in let short = ap length steps in omega arith);
      here = c.in_ok-push.ensures.pushed ∙ (ap (λ (l : List Kept). l ++ kept x ∷ []) i.here ∙ sym (map_more kept at.yielded x));
    }
