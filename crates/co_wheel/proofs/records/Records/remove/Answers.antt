use Rattle.std.proofs.Common.{ap, ◌∙◌, ◌&&◌, not}
use Rattle.std.specs.Prelude.{is_some}
use Rattle.std.specs.declared.option.Option.TheVariants.{None}
use Rattle.co_object.specs.Stand.{is_idle}
use Rattle.co_wheel.specs.Callouts.{is_free_at, with_callout}
use Rattle.co_wheel.proofs.Filing.{record-there}
use Rattle.co_wheel.proofs.Placing.{free-within, free-is-idle, gone-filed, with-set}
use Rattle.co_wheel.proofs.records.Records.remove.Goals as goal

pub invariant_of-self : goal.invariant_of-self
invariant_of-self c =
    let v = c.self.inside in
    let free = ap (λ s. is_free_at s c.args.i) c.self.view_is ∙ c.requires in
    let within = free-within v.slot v.interrupt v.records.items c.self.invariant c.args.i free in
    let rec = record-there v.slot v.interrupt v.records.items c.args.i (λ a. is_idle a.state.run && not (is_some a.state.armed)) free in
    gone-filed v.slot v.interrupt v.records.items c.self.invariant c.args.i rec.0 rec.1 within (free-is-idle v.slot v.interrupt v.records.items c.self.invariant c.args.i free)

pub returns : goal.returns
returns c =
    let v = c.self.inside in
    with-set v.slot v.interrupt v.records.items c.self.invariant c.args.i None
    ∙ ap (λ s. with_callout s c.args.i None) c.self.view_is
