use Rattle.co_service.proofs.Crews.{leaves}
use Rattle.co_service.proofs.crew.last.Goals as goal

pub returns : goal.returns
returns g c = λ n are.
    leaves g.N.Name.name c.args.service.now n c.args.all.now.items c.pop.new.self.items c.pop.result c.unwrap.result c.pop.ensures.items c.unwrap.ensures are
