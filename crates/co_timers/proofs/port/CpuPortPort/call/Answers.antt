-- One call more.
use Rattle.std.proofs.Common.{List, sym, subst}
use Rattle.std.specs.Option.{option_copied}
use Rattle.co_hand.specs.declared.port_call.PortCall.{PortCall}
use Rattle.co_timers.specs.Handles.{HandleView}
use Rattle.co_timers.specs.Ports.{AreCalls, IsPortCall, handle_of}
use Rattle.co_timers.proofs.Kept.{calls_more}
use Rattle.co_timers.proofs.port.CpuPortPort.call.Goals as goal

pub invariant_of-self : goal.invariant_of-self
invariant_of-self g c =
    let start : HandleView = handle_of c.self.inside.start.value in
    let old : HandleView = handle_of c.self.inside.lane in
    let new : HandleView = handle_of c.ask-answer.new.self in
    let calls : List PortCall = c.self.inside.calls.items in
    let plain : PortCall = record { i = c.args.i; op = c.args.op.now; answer = c.ask-answer.result } in
    let one : IsPortCall old plain new = record { hold = option_copied c.args.hold; came = c.ask-answer.ensures.came } in
    let made : IsPortCall old c.call_of-call.result new = subst (λ (x : PortCall). IsPortCall old x new) (sym {b = plain} c.call_of-call.ensures) one in
    record {
      handle = c.ask-answer.ensures.handle;
      made = subst (λ (l : List PortCall). AreCalls start l new) (sym c.and.ensures) (calls_more start old new calls c.call_of-call.result c.self.invariant.made made);
    }
