-- One part more is joined.
use Rattle.std.proofs.Common.{[], ◌∷◌, ◌++◌, length, ap, sym, ◌∙◌, arith, append_assoc}
use Rattle.std.specs.Vec.Iter.{into_iter_items}
use Rattle.co_script.proofs.Joins.{joined_snoc}
use Rattle.co_script.proofs.joining.joined.Goals as goal

pub loop-part-preserved : goal.loop-part-preserved
loop-part-preserved g c =
    let steps = c.in-Some.ensures.steps in
    let before = c.loop-part.invariant in
    record {
      yields = append_assoc c.loop-part.yielded (c.in-Some.part ∷ []) (into_iter_items c.next.new.self) ∙ (ap (λ xs. c.loop-part.yielded ++ xs) (sym steps.0) ∙ before.yields);
      left = omega (arith, ap length steps.0, steps.1, before.left);
      joined = joined_snoc c.loop-part.yielded c.loop-part.all c.in-Some.part c.in_ok-part.field-0 c.append.new.items before.joined c.in_ok-part.was c.in_ok-append.ensures;
    }
