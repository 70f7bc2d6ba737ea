use Rattle.std.proofs.Common.{◌+◌, refl, false}
use Rattle.co_service.proofs.Crews.{cpu_scans, new_actor, new_free, new_of}
use Rattle.co_service.proofs.service.Service.leave_cpu.Goals as goal

pub returns-clause-kept : goal.returns-clause-kept
returns-clause-kept g c =
    let new = (c.last.ensures (c.args.self.now.clients + c.args.cpu) c.requires.all).0 in
    record {
      of = new_of g.N.Name.name c.args.self.now c.last.result (c.args.self.now.clients + c.args.cpu) new;
      actor_is = new_actor g.N.Name.name c.args.self.now c.last.result (c.args.self.now.clients + c.args.cpu) new;
      free = new_free g.N.Name.name c.args.self.now c.last.result (c.args.self.now.clients + c.args.cpu) new false c.args.cpu refl;
    }

pub returns-clause-scans : goal.returns-clause-scans
returns-clause-scans g c = cpu_scans g.N.Name.name c.args.self.now c.last.result (c.args.self.now.clients + c.args.cpu) (c.last.ensures (c.args.self.now.clients + c.args.cpu) c.requires.all).0 c.args.cpu refl

pub returns-clause-rest : goal.returns-clause-rest
returns-clause-rest g c = (c.last.ensures (c.args.self.now.clients + c.args.cpu) c.requires.all).1
