-- One more actor has played its program.
use Rattle.std.proofs.lemmas.Result.{on_ok_weaker}
use Rattle.co_run.proofs.groups.Seats.{over_added}
use Rattle.co_run.proofs.runs.add.Goals as goal

pub returns-clause-over : goal.returns-clause-over
returns-clause-over g c =
    on_ok_weaker c.push-2.result
    (λ is. over_added g.B.Book.notes c.args.script.now g.N.Name.name c.args.all.now.passes c.push.new.self c.args.all.now.books c.push-2.new.self c.args.one.passes c.args.one.book c.in_ok-push.ensures.ok is c.requires.over c.requires.one)
    c.push-2.ensures.ok
