use Rattle.co_script.proofs.TypedActs.{act-refused}
use Rattle.co_script.proofs.draft.Draft.act_line.Goals as goal

pub returns-in-Err : goal.returns-in-Err
returns-in-Err c = act-refused _ c.args.self.now c.is_func.result c.args.verb c.args.words.now c.in-Err.cause c.self.view_is c.self.invariant.script c.is_func.ensures c.in-Err.ensures.read
