-- The callout takes the entry, or refuses it.
use Rattle.std.proofs.Common.{length, refl}
use Rattle.std.proofs.lemmas.Option.{slice_get_read}
use Rattle.co_check.proofs.Taken.{refused-callout, taken-callout}
use Rattle.co_check.proofs.replay.Replay.take_timer.Goals as goal

pub returns-in-Ok : goal.returns-in-Ok
returns-in-Ok c above l p q h =
    let at = slice_get_read c.args.self.now.callouts.items (length c.args.self.now.callouts.items) c.args.i c.index_mut-callout.result.now refl c.requires.i c.index_mut-callout.ensures.value in
    taken-callout c.args.script.now above l c.args.i c.args.entry.now c.args.self.now c.index_mut-callout.result.now c.take_callout.new.callout c.in-Ok.listed p q h at c.in-Ok.ensures c.new.result c.new.ensures _ refl refl refl

pub returns-in-Err : goal.returns-in-Err
returns-in-Err c above l p q h =
    let at = slice_get_read c.args.self.now.callouts.items (length c.args.self.now.callouts.items) c.args.i c.index_mut-callout.result.now refl c.requires.i c.index_mut-callout.ensures.value in
    refused-callout c.args.script.now above l c.args.i c.args.entry.now c.args.self.now c.index_mut-callout.result.now c.take_callout.new.callout c.in-Err.unfit p q h at c.in-Err.ensures
