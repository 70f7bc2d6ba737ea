use Rattle.std.proofs.Common.{◌≡◌, ◌+◌, [], ◌∷◌, ◌++◌, length, sym, ap, ◌∙◌, subst, arith, append_assoc, length-append}
use Rattle.std.specs.Prelude.{slice_get}
use Rattle.std.specs.declared.option.Option.TheVariants.{Some}
use Rattle.std.specs.Vec.Iter.{into_iter_items}
use Rattle.co_service.specs.declared.desk_parts.DeskParts.{DeskParts}
use Rattle.co_service.specs.Booted.{IsDeskParts}
use Rattle.co_desk.proofs.Items.{each_place, get_mid}
use Rattle.co_service.proofs.FirstKeepers.{all_first}
use Rattle.co_service.proofs.desk_parts.make_all_parts.Goals as goal

pub loop-journal-init : goal.loop-journal-init
loop-journal-init c =
    let none = c.new-all_parts.ensures.items in
    record {
      yields = λ _. into_iter_items c.into_iter-journal-iterator.result;
      left = (let a = ap length c.into_iter-journal-iterator.ensures.into_iter_gives.0 in let b = c.into_iter-journal-iterator.ensures.into_iter_gives.1 in let m = c.args.journals.ok.0 in omega arith);
      at = λ _. 0;
      here = all_first c.args.places.now.timers c.args.params.now c.args.timers.items c.in_ok-here.here.items c.requires.timers.begun c.requires.timers.keepers_are c.in_ok-here.ensures;
      count = ap length none;
      each = λ k b is. (let bad = ap (λ l. slice_get l k) (sym none) ∙ is in absurd (cc));
    }

pub add_parts-requires-clause-journal : goal.add_parts-requires-clause-journal
add_parts-requires-clause-journal c =
    let at = c.loop-journal in
    let i = at.invariant in
    let x = c.in-Some.journal in
    let steps : into_iter_items at.journal-iterator ≡ x ∷ into_iter_items c.next.new.self = c.in-Some.ensures.steps.0 in
    let all = ap (λ l. at.yielded ++ l) (sym steps) ∙ (i.yields ∙ c.into_iter-journal-iterator.ensures.into_iter_gives.0) in
    let here : slice_get c.args.journals.items at.cpu ≡ Some x = ap (λ l. slice_get l at.cpu) (sym all) ∙ (ap (slice_get (at.yielded ++ x ∷ into_iter_items c.next.new.self)) i.at ∙ get_mid at.yielded x (into_iter_items c.next.new.self)) in
    record { kept = c.requires.journals.begun.each at.cpu x here; nothing = c.requires.journals.begun.nothing at.cpu x here }

pub loop-journal-preserved : goal.loop-journal-preserved
loop-journal-preserved c =
    let at = c.loop-journal in
    let i = at.invariant in
    let x = c.in-Some.journal in
    let added = c.in_ok-add_parts.ensures.parts in
    let b = added.0 in
    let name = c.args.places.now in
    let p = c.args.params.now in
    let steps : into_iter_items at.journal-iterator ≡ x ∷ into_iter_items c.next.new.self = c.in-Some.ensures.steps.0 in
    let more : c.add_parts.new.all_parts.items ≡ at.all_parts.items ++ b ∷ [] = added.1 in
    record {
      yields = append_assoc at.yielded (x ∷ []) _ ∙ rw (← steps) i.yields;
      left = (let was = i.left in let gone = c.in-Some.ensures.steps.1 in let short = ap length steps in omega arith);
      at = ap (λ n. n + 1) i.at ∙ sym (length-append at.yielded (x ∷ []));
      here = c.in_ok-add_parts.ensures.here;
      count = ap length more ∙ (length-append at.all_parts.items (b ∷ []) ∙ ap (λ n. n + 1) i.count);
      each = λ k y is. each_place (λ j (v : DeskParts). IsDeskParts name p j v.wheel v.keepers.items v.journal) at.all_parts.items b i.each
          (subst (λ n. IsDeskParts name p n b.wheel b.keepers.items b.journal) (sym i.count) added.2) k y (ap (λ l. slice_get l k) (sym more) ∙ is);
    }
