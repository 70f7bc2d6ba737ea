use Rattle.std.proofs.Common.{◌≡◌, ◌+◌, [], ◌∷◌, ◌++◌, length, sym, ap, ◌∙◌, arith, append_assoc, length-append}
use Rattle.std.specs.Prelude.{slice_get}
use Rattle.std.specs.declared.option.Option.TheVariants.{Some}
use Rattle.std.specs.Vec.Iter.{into_iter_items}
use Rattle.co_desk.proofs.Items.{get_mid}
use Rattle.co_service.proofs.locked.lock_all.Goals as goal

pub into_desk-requires : goal.into_desk-requires
into_desk-requires g c =
    let at = c.loop-parts in
    let i = at.invariant in
    let x = c.in-Some.parts in
    let steps : into_iter_items at.parts-iterator ≡ x ∷ into_iter_items c.next.new.self = c.in-Some.ensures.steps.0 in
    let all = ap (λ l. at.yielded ++ l) (sym steps) ∙ (i.yields ∙ c.into_iter-parts-iterator.ensures.into_iter_gives.0) in
    let here : slice_get c.args.all_parts.items at.cpu ≡ Some x = ap (λ l. slice_get l at.cpu) (sym all) ∙ (ap (slice_get (at.yielded ++ x ∷ into_iter_items c.next.new.self)) i.at ∙ get_mid at.yielded x (into_iter_items c.next.new.self)) in
    c.requires.all_parts.each at.cpu x here

pub loop-parts-preserved : goal.loop-parts-preserved
loop-parts-preserved g c =
    let at = c.loop-parts in
    let i = at.invariant in
    let x = c.in-Some.parts in
    let steps : into_iter_items at.parts-iterator ≡ x ∷ into_iter_items c.next.new.self = c.in-Some.ensures.steps.0 in
    record {
      yields = append_assoc at.yielded (x ∷ []) _ ∙ rw (← steps) i.yields;
      left = (let was = i.left in let gone = c.in-Some.ensures.steps.1 in let short = ap length steps in omega arith);
      at = ap (λ n. n + 1) i.at ∙ sym (length-append at.yielded (x ∷ []));
      count = (let was = i.count in let e = ap length c.in_ok-push.ensures.pushed ∙ length-append at.desks.items _ in let m = c.push.new.items.ok.0 in let n = at.desks.ok.0 in omega arith);
    }

pub loop-parts-init : goal.loop-parts-init
loop-parts-init g c =
    let gives = c.into_iter-parts-iterator.ensures.into_iter_gives in
    record {
      yields = λ _. into_iter_items c.into_iter-parts-iterator.result;
      left = (let a = ap length gives.0 in let b = gives.1 in let m = c.args.all_parts.ok.0 in omega arith);
      at = λ _. 0;
      count = (let none = ap length c.new-desks.ensures.items in let m = c.new-desks.result.ok.0 in omega arith);
    }
