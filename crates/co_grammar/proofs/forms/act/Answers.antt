use Rattle.co_grammar.specs.Forms.{act_form}
use Rattle.co_grammar.proofs.Typed.{typed_result}
use Rattle.co_grammar.proofs.forms.act.Goals as goal

pub returns-clause-act : goal.returns-clause-act
returns-clause-act c = typed_result c.read_act.result (act_form c.args.serviced c.args.verb c.args.words.now) c.read_act.new.into c.read_act.ensures
