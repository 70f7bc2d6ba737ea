use Rattle.std.proofs.Common.{ap, sym}
use Rattle.co_view.specs.Words.{plain_words}
use Rattle.co_view.proofs.Pieces.{begun_is}
use Rattle.co_view.proofs.words.operation.print_plain.Goals as goal

pub returns-in-Schedule : goal.returns-in-Schedule
returns-in-Schedule c = begun_is _ _ _ _ _ (sym (ap (plain_words c.args.timer) c.in-Schedule.is)) c.print_on_at.ensures

pub returns-in-Stop : goal.returns-in-Stop
returns-in-Stop c = begun_is _ _ _ _ _ (sym (ap (plain_words c.args.timer) c.in-Stop.is)) c.print_on.ensures

pub returns-in-Active : goal.returns-in-Active
returns-in-Active c = begun_is _ _ _ _ _ (sym (ap (plain_words c.args.timer) c.in-Active.is)) c.print_on-in-Active.ensures

pub returns-in-Pending : goal.returns-in-Pending
returns-in-Pending c = begun_is _ _ _ _ _ (sym (ap (plain_words c.args.timer) c.in-Pending.is)) c.print_on-in-Pending.ensures

pub returns-in-Deactivate : goal.returns-in-Deactivate
returns-in-Deactivate c = begun_is _ _ _ _ _ (sym (ap (plain_words c.args.timer) c.in-Deactivate.is)) c.print_on-in-Deactivate.ensures

pub returns-in-Init : goal.returns-in-Init
returns-in-Init c = begun_is _ _ _ _ _ (sym (ap (plain_words c.args.timer) c.in-Init.is)) c.print_on-in-Init.ensures

pub returns-in-Retire : goal.returns-in-Retire
returns-in-Retire c = begun_is _ _ _ _ _ (sym (ap (plain_words c.args.timer) c.in-Retire.is)) c.print_on-in-Retire.ensures
