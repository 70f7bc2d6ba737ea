use Rattle.std.proofs.Common.{◌≡◌, [], ◌∷◌, ◌++◌, sym, ap, ◌∙◌, arith, append_assoc, length-append}
use Rattle.std.specs.Vec.Iter.{into_iter_items}
use Rattle.std.proofs.lemmas.List.{map-append}
use Rattle.co_sleepq.specs.Closing.{service_passes}
use Rattle.co_sleepq.specs.Views.{SleepPassesView}
use Rattle.co_sleepq.proofs.ending.Ending.take.Goals as goal

pub loop-one-preserved : goal.loop-one-preserved
loop-one-preserved c =
    let at = c.loop-one in
    let i = at.invariant in
    let x = c.in-Some.one in
    let steps : into_iter_items at.one-iterator ≡ x ∷ into_iter_items c.next.new.self = c.in-Some.ensures.steps.0 in
    let one : c.one.inside.service ≡ x.service = ap (λ (v : SleepPassesView). v.service) c.one.view_is in
    let more = length-append at.yielded (x ∷ []) in
    record {
      yields = append_assoc at.yielded (x ∷ []) _ ∙ rw (← steps) i.yields;
      done = c.push.ensures.items ∙ (ap (λ l. l ++ c.one.inside.service ∷ []) i.done ∙ (ap (λ s. service_passes at.yielded ++ s ∷ []) one ∙ sym (map-append (λ (q : SleepPassesView). q.service) at.yielded (x ∷ []))));
      spare = omega (arith, more, i.spare, c.push.ensures.spare);
    }
