-- The list of one more book stands last.
use Rattle.std.proofs.Common.{List, [], ◌∷◌, ◌++◌, ap, arith, length, map, sym, ◌∙◌}
use Rattle.std.proofs.lemmas.List.{map-append}
use Rattle.std.specs.Vec.Iter.{into_iter_items}
use Rattle.co_object.specs.declared.note.Note.{Note}
use Rattle.co_run.proofs.groups.LastItem.{one_taken}
use Rattle.co_run.proofs.runs.lists_of.Goals as goal

pub loop-book-preserved : goal.loop-book-preserved
loop-book-preserved g c =
    let notes = g.B.Notebook.notes in
    let before = c.loop-book.invariant in
    let steps = c.in-Some.ensures.steps in
    let shorter = ap length steps.0 in
    let left = before.left in
    record {
      yields = one_taken c.loop-book.yielded (into_iter_items c.loop-book.book-iterator) (into_iter_items c.next.new.self) _ c.in-Some.book steps.0 before.yields;
      left = omega (arith, shorter, left, steps.1);
      lists = c.in_ok-push.ensures.ok
          ∙ (ap (λ (lists : List (List Note)). lists ++ c.into_notes.result ∷ []) before.lists
          ∙ (ap (λ (last : List Note). map notes c.loop-book.yielded ++ last ∷ []) c.into_notes.ensures
          ∙ sym (map-append notes c.loop-book.yielded (c.in-Some.book ∷ []))));
    }
