use Rattle.std.proofs.Common.{ap, ◌∙◌, subst}
use Rattle.co_desk.specs.Moving.{IsDone}
use Rattle.co_desk.specs.Views.{PassesView}
use Rattle.co_service.proofs.service.Service.call_into.Goals as goal

pub land_left-requires : goal.land_left-requires
land_left-requires g c =
    let done = subst (λ (p : PassesView). IsDone p c.args.act c.args.i c.args.op.now c.call-here.new.told c.call-here.new.gone c.call-here.new.passes) c.loop.invariant.0 (c.call-here.ensures.tried.some c.if-here.true) in
    (c.args.passes.now, c.args.op.now, c.requires.passes, done)

pub returns-then-here : goal.returns-then-here
returns-then-here g c =
    let done = subst (λ (p : PassesView). IsDone p c.args.act c.args.i c.args.op.now c.call-here.new.told c.call-here.new.gone c.call-here.new.passes) c.loop.invariant.0 (c.call-here.ensures.tried.some c.if-here.true) in
    record {
      called = c.land_left.ensures.called c.args.passes.now c.args.op.now done;
      kept = c.land_left.ensures.kept c.args.passes.now c.args.op.now c.requires.passes done;
    }

pub call-here-requires-clause-service : goal.call-here-requires-clause-service
call-here-requires-clause-service g c = record { places_are = c.self.invariant.same; passes_are = ap (λ (p : PassesView). p.name) c.loop.invariant.0 ∙ c.requires.passes.name_is }

pub loop-preserved : goal.loop-preserved
loop-preserved g c = let none = c.call-here.ensures.tried.none c.if-here.false in (none.0 ∙ c.loop.invariant.0, none.1, c.next_desk-cpu.ensures)
