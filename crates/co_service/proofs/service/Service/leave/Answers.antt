use Rattle.co_service.proofs.Crews.{new_actor, new_free, new_of}
use Rattle.co_service.proofs.service.Service.leave.Goals as goal

pub returns-clause-passes : goal.returns-clause-passes
returns-clause-passes g c = (c.last.ensures c.args.actor c.requires.all).0

pub returns-clause-of : goal.returns-clause-of
returns-clause-of g c = new_of g.N.Name.name c.args.self.now c.last.result c.args.actor (c.last.ensures c.args.actor c.requires.all).0

pub returns-clause-actor : goal.returns-clause-actor
returns-clause-actor g c = new_actor g.N.Name.name c.args.self.now c.last.result c.args.actor (c.last.ensures c.args.actor c.requires.all).0

pub returns-clause-free : goal.returns-clause-free
returns-clause-free g c = new_free g.N.Name.name c.args.self.now c.last.result c.args.actor (c.last.ensures c.args.actor c.requires.all).0

pub returns-clause-rest : goal.returns-clause-rest
returns-clause-rest g c = (c.last.ensures c.args.actor c.requires.all).1
