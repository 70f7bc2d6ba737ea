use Rattle.std.proofs.Common.{arith}
use Rattle.co_object.specs.declared.note.Note.{Note}
use Rattle.co_report.specs.Typed.{EntryTyped}
use Rattle.co_top.proofs.OneMore.{one_more, all_taken}
use Rattle.co_top.proofs.typed.notes_are_typed.Goals as goal

pub loop-note-preserved : goal.loop-note-preserved
loop-note-preserved c = one_more (λ (note : Note). EntryTyped note.entry) c.args.notes.now c.loop-note.note-index c.note-item.result c.loop-note-test.true c.note-item.is c.loop-note.invariant c.is_typed.ensures

pub returns : goal.returns
returns c = record {
  entries = all_taken (λ (note : Note). EntryTyped note.entry) c.args.notes.now c.loop-note.note-index (omega arith) c.loop-note.invariant;
  short = omega arith;
}
