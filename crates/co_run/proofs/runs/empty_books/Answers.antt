-- One more book without notes and room.
use Rattle.std.proofs.Common.{◌≡◌, [], ◌∷◌, ◌++◌, ap, arith, length, length-append, subst, sym}
use Rattle.co_run.specs.Jobs.{AreBlank}
use Rattle.co_run.specs.declared.book.KeptBook.{KeptBook}
use Rattle.co_run.proofs.groups.LastItem.{each_snoc}
use Rattle.co_run.proofs.runs.empty_books.Goals as goal

pub loop-made-preserved : goal.loop-made-preserved
loop-made-preserved g c =
    let books = c.loop-made.books in
    let is : c.push.new.self ≡ books ++ c.new.result ∷ [] = c.in_ok-push.ensures.ok in
    let long = ap length is in
    let count = c.loop-made.invariant.count in
    record {
      count = omega (arith, long, count, length-append books (c.new.result ∷ []));
      blank = subst AreBlank (sym is)
          (each_snoc (λ (b : KeptBook _). (b.notes.items ≡ []) × (b.spare ≡ 0)) books c.new.result c.loop-made.invariant.blank (c.new.ensures.notes, c.new.ensures.spare));
    }
