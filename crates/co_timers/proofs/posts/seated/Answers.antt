-- One more has a seat.
use Rattle.std.proofs.Common.{List, [], ◌∷◌, ◌++◌, ap, arith, length, sym, ◌∙◌}
use Rattle.std.proofs.lemmas.List.{map-append}
use Rattle.std.specs.Vec.Iter.{into_iter_items}
use Rattle.std.specs.declared.option.Option.{Option}
use Rattle.std.specs.declared.option.Option.TheVariants.{Some}
use Rattle.co_desk.specs.Views.{PassesView}
use Rattle.co_timers.proofs.Posted.{one_taken}
use Rattle.co_timers.proofs.posts.seated.Goals as goal

pub loop-one-preserved : goal.loop-one-preserved
loop-one-preserved c =
    let before = c.loop-one.invariant in
    let steps = c.in-Some.ensures.steps in
    let shorter = ap length steps.0 in
    let left = before.left in
    record {
      yields = one_taken c.loop-one.yielded (into_iter_items c.loop-one.one-iterator) (into_iter_items c.next.new.self) _ c.in-Some.one steps.0 before.yields;
      left = omega (arith, shorter, left, steps.1);
      here = c.in_ok-push.ensures.ok
          ∙ (ap (λ (seats : List (Option PassesView)). seats ++ Some c.in-Some.one ∷ []) before.here
          ∙ sym (map-append {B = Option PassesView} Some c.loop-one.yielded (c.in-Some.one ∷ [])));
    }
