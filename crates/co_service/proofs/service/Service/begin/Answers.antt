use Rattle.std.proofs.Common.{false, sym, subst}
use Rattle.co_object.specs.Queue.{Due}
use Rattle.co_desk.specs.Serving.{Waits}
use Rattle.co_desk.specs.Services.{AreSame, IsBegun, IsServing}
use Rattle.co_desk.specs.Views.{PassesView}
use Rattle.co_service.proofs.Lasting.{still_of}
use Rattle.co_service.proofs.Lasts.{begun_same, begun_serving}
use Rattle.co_service.proofs.service.Service.begin.Goals as goal

-- the service that the caller begins, whichever it is
begun_in : (g : _) (c : goal.After-drop-iterator g) (d : Due) → IsServing false c.args.passes.now c.args.cpu d (Waits d.n) → IsBegun c.args.passes.now c.args.cpu c.args.act d c.in-Some-out.out c.begin-out.new.passes
begun_in g c = subst (λ (p : PassesView). (d : Due) → IsServing false p c.args.cpu d (Waits d.n) → IsBegun p c.args.cpu c.args.act d c.in-Some-out.out c.begin-out.new.passes) c.loop.invariant c.in-Some-out.ensures.asked.some

pub returns-in-Some-out-clause-kept : goal.returns-in-Some-out-clause-kept
returns-in-Some-out-clause-kept g c =
    let s = c.requires.serves in
    let same : AreSame c.args.passes.now c.begin-out.new.passes = begun_same c.args.passes.now c.begin-out.new.passes c.args.cpu c.args.act c.in-Some-out.out s.0 (begun_in g c s.0 s.1) in
    record {
      of = still_of g.N.Name.name c.args.self.now c.args.passes.now c.begin-out.new.passes same c.requires.passes;
      actor = same.actor;
      serving = λ d was. begun_serving c.args.passes.now c.begin-out.new.passes c.args.cpu c.args.act c.in-Some-out.out d (begun_in g c d was) was;
    }

pub begin-out-requires-clause-serves : goal.begin-out-requires-clause-serves
begin-out-requires-clause-serves g c = subst (λ (p : PassesView). (d : Due) × IsServing false p c.args.cpu d (Waits d.n)) (sym c.loop.invariant) c.requires.serves

pub returns-in-Some-out-clause-begun : goal.returns-in-Some-out-clause-begun
returns-in-Some-out-clause-begun g c = begun_in g c
