use Rattle.std.proofs.Common.{ap, sym}
use Rattle.co_view.specs.Words.{run_words}
use Rattle.co_view.proofs.Pieces.{begun_is}
use Rattle.co_view.proofs.words.operation.print_run.Goals as goal

pub returns-in-Pick : goal.returns-in-Pick
returns-in-Pick c = begun_is _ _ _ _ _ (sym (ap (run_words c.args.timer) c.in-Pick.is)) c.print_arming_at.ensures

pub returns-in-Begin : goal.returns-in-Begin
returns-in-Begin c = begun_is _ _ _ _ _ (sym (ap (run_words c.args.timer) c.in-Begin.is)) c.print_arming.ensures
