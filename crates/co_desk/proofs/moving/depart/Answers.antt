use Rattle.std.proofs.Common.{sym, subst}
use Rattle.co_desk.specs.Moving.{MayDepart}
use Rattle.co_desk.proofs.moving.depart.Goals as goal

pub send-requires-clause-may : goal.send-requires-clause-may
send-requires-clause-may g c = subst (MayDepart c.args.books.now c.args.n c.args.due) (sym c.take.ensures.value) c.requires.may
