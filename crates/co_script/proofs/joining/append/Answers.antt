-- One item more is appended.
use Rattle.std.proofs.Common.{[], ◌∷◌, ◌++◌, length, ap, sym, ◌∙◌, arith, append_assoc}
use Rattle.std.specs.Vec.Iter.{into_iter_items}
use Rattle.co_script.proofs.joining.append.Goals as goal

pub loop-item-preserved : goal.loop-item-preserved
loop-item-preserved g c =
    let steps = c.in-Some.ensures.steps in
    let before = c.loop-item.invariant in
    let item = c.in-Some.item in
    record {
      yields = append_assoc c.loop-item.yielded (item ∷ []) (into_iter_items c.next.new.self) ∙ (ap (λ xs. c.loop-item.yielded ++ xs) (sym steps.0) ∙ before.yields);
      left = omega (arith, ap length steps.0, steps.1, before.left);
      appended = c.in_ok-push.ensures.ok ∙ (ap (λ xs. xs ++ item ∷ []) before.appended ∙ append_assoc c.args.items.now c.loop-item.yielded (item ∷ []));
    }
