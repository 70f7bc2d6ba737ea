-- One call more.
use Rattle.std.proofs.Common.{List, ◌-◌, sym, subst, arith}
use Rattle.std.specs.Option.{option_copied}
use Rattle.co_hand.specs.declared.port_call.PortCall.{PortCall}
use Rattle.co_run.specs.PortCalls.{CallerView, IsPortCall}
use Rattle.co_run.specs.Ports.{IsServicePort}
use Rattle.co_run.proofs.PortCalls.{port_after}
use Rattle.co_run.proofs.port.ServicePortPort.call.Goals as goal

pub invariant_of-self : goal.invariant_of-self
invariant_of-self g c =
    let port = c.self.inside in
    let here : CallerView = record { passes = port.passes; act = port.act } in
    let next : CallerView = record { passes = c.ask-answer.new.passes; act = c.saturating_add-self-inside.result } in
    let plain : PortCall = record { i = c.args.i; op = c.args.op.now; answer = c.ask-answer.result } in
    let one : IsPortCall here plain next = record { hold = option_copied c.args.hold; came = c.ask-answer.ensures.came; counts = c.saturating_add-self-inside.ensures } in
    let call : IsPortCall here c.call_of-call.result next = subst (λ (x : PortCall). IsPortCall here x next) (sym c.call_of-call.ensures) one in
    subst
    (λ (l : List PortCall). IsServicePort g.N.Name.name port.service.now port.specs.now port.origin l next (port.room - 1) c.push.new.self.spare)
    (sym c.push.ensures.items)
    (port_after g.N.Name.name port.service.now port.specs.now port.origin port.calls.items here port.room port.calls.spare c.self.invariant
    c.call_of-call.result next (port.room - 1) c.push.new.self.spare call c.ask-answer.ensures.kept (omega (arith, c.self.invariant.roomy, c.push.ensures.spare)))
