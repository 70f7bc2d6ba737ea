use Rattle.co_print.proofs.Counts.{copied_more}
use Rattle.co_print.proofs.packing.packed_list.Goals as goal

pub loop-note-preserved : goal.loop-note-preserved
loop-note-preserved c =
    copied_more c.args.notes.now c.loop-note.note-index c.note-item.result c.of.result _ _ c.loop-note-test.true c.note-item.is c.of.ensures c.loop-note.invariant c.in_ok-push.ensures.ok
