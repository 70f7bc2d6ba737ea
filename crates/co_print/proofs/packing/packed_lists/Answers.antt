use Rattle.std.proofs.Common.{◌∙◌}
use Rattle.co_print.proofs.Counts.{copied_more}
use Rattle.co_print.proofs.packing.packed_lists.Goals as goal

pub loop-notes-preserved : goal.loop-notes-preserved
loop-notes-preserved c =
    copied_more c.args.lists.now c.loop-notes.notes-index c.notes-item.result c.in_ok-packed_list.field-0 _ _ c.loop-notes-test.true c.notes-item.is (c.in_ok-packed_list.ensures ∙ c.as_slice.ensures)
    c.loop-notes.invariant c.in_ok-push.ensures.ok
