use Rattle.std.proofs.Common.{◌≡◌, ◌++◌, length}
use Rattle.std.specs.Slice.Iter.{chunks_rest, chunks_size}
use Rattle.co_text.specs.Lines.{text}
use Rattle.co_print.specs.Origins.{lines_from}
use Rattle.co_print.proofs.origin.print_from.Given as goal

-- what is written, and the lines of the origins to come
abbrev pub invariant-loop-chunk : goal.invariant-loop-chunk
invariant-loop-chunk l =
    goal.iterator-loop-chunk.can_next l.chunk-iterator
    × goal.iterator-loop-chunk.is_finite l.chunk-iterator
    × (chunks_size l.chunk-iterator ≡ 16)
    × (length l.copies ≡ 16)
    × (l.page ++ text (lines_from l.script l.lists (chunks_rest l.chunk-iterator)) ≡ l.fn.page ++ text (lines_from l.script l.lists l.origins))
