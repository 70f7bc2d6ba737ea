use Rattle.std.proofs.Common.{arith, subst}
use Rattle.co_report.specs.Typed.{NotesTyped}
use Rattle.co_top.proofs.OneMore.{one_more, all_taken}
use Rattle.co_top.proofs.typed.lists_are_typed.Goals as goal

pub loop-notes-preserved : goal.loop-notes-preserved
loop-notes-preserved c = one_more NotesTyped c.args.lists.now c.loop-notes.notes-index c.notes-item.result c.loop-notes-test.true c.notes-item.is c.loop-notes.invariant (subst NotesTyped c.as_slice.ensures c.notes_are_typed.ensures)

pub returns : goal.returns
returns c = all_taken NotesTyped c.args.lists.now c.loop-notes.notes-index (omega arith) c.loop-notes.invariant
