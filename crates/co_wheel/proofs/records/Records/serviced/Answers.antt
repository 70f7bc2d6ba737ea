use Rattle.std.proofs.Common.{sym, ap, ◌∙◌}
use Rattle.co_wheel.specs.Callouts.{is_here}
use Rattle.co_wheel.proofs.InService.{served-here}
use Rattle.co_wheel.proofs.records.Records.serviced.Goals as goal

pub returns-in-Some-clause-here : goal.returns-in-Some-clause-here
returns-in-Some-clause-here c =
    let v = c.self.inside in
    ap (λ s. is_here s c.in-Some.current.i) (sym c.self.view_is)
    ∙ served-here v.slot v.interrupt v.records.items c.args.direct c.in-Some.current c.self.invariant (sym c.current_in.ensures ∙ c.in-Some.is)
