use Rattle.std.proofs.Common.{rules, sym, ap, ◌∙◌}
use Rattle.co_wheel.specs.Kept.{deferred_in}
use Rattle.co_wheel.proofs.Filing.{found, filed-here}
use Rattle.co_wheel.proofs.Kept.{served-within, deferred-is}
use Rattle.co_wheel.proofs.records.Records.deferred.Goals as goal

pub index-requires : goal.index-requires
index-requires c =
    let v = c.self.inside in
    let within = served-within v.slot v.interrupt v.records.items c.self.invariant c.args.direct c.in_ok-current.current (sym c.current_in.ensures ∙ c.in_ok-current.was) in
    search (rules, within)

pub deferred_in-requires : goal.deferred_in-requires
deferred_in-requires c =
    let v = c.self.inside in
    let cu = c.in_ok-current.current in
    let within = served-within v.slot v.interrupt v.records.items c.self.invariant c.args.direct cu (sym c.current_in.ensures ∙ c.in_ok-current.was) in
    filed-here cu.i v.slot v.interrupt v.records.items c.in-Some.record c.self.invariant (found v.records.items cu.i _ c.in-Some.record c.index.ensures c.in-Some.is within)

pub returns : goal.returns
returns c =
    let v = c.self.inside in
    let cu = c.in_ok-current.current in
    let is = sym c.current_in.ensures ∙ c.in_ok-current.was in
    let within = served-within v.slot v.interrupt v.records.items c.self.invariant c.args.direct cu is in
    c.deferred_in.ensures
    ∙ deferred-is v.slot v.interrupt v.records.items c.self.invariant c.args.direct cu is c.in-Some.record (found v.records.items cu.i _ c.in-Some.record c.index.ensures c.in-Some.is within)
    ∙ ap (deferred_in c.args.direct) c.self.view_is
