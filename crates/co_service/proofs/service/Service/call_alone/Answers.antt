use Rattle.std.proofs.Common.{sym, ap, ◌∙◌, subst}
use Rattle.co_desk.specs.declared.params.Params.{Params}
use Rattle.co_service.specs.Kept.{Keeps}
use Rattle.co_desk.specs.Moving.{IsDone}
use Rattle.co_desk.specs.Views.{AreOf, PassesView}
use Rattle.co_service.proofs.service.Service.call_alone.Goals as goal

pub land_left-requires : goal.land_left-requires
land_left-requires g c =
    let are = subst (λ (r : Params). AreOf g.N.Name.name r c.args.passes.now) (sym (c.self.view_is ∙ c.loop.invariant.3)) c.requires.passes in
    let done = subst (λ (p : PassesView). IsDone p c.args.act c.args.i c.args.op.now c.call-here.new.told c.call-here.new.gone c.call-here.new.passes) c.loop.invariant.0 (c.call-here.ensures.tried.some c.if-here.true) in
    (c.args.passes.now, c.args.op.now, are, done)

pub returns-then-here : goal.returns-then-here
returns-then-here g c =
    let p = c.args.passes.now in
    let same = c.self.view_is ∙ c.loop.invariant.3 in
    let are = subst (λ (r : Params). AreOf g.N.Name.name r c.args.passes.now) (sym (c.self.view_is ∙ c.loop.invariant.3)) c.requires.passes in
    let done = subst (λ (p : PassesView). IsDone p c.args.act c.args.i c.args.op.now c.call-here.new.told c.call-here.new.gone c.call-here.new.passes) c.loop.invariant.0 (c.call-here.ensures.tried.some c.if-here.true) in
    record {
      called = c.land_left.ensures.called p c.args.op.now done;
      kept = record {
        params_are = same;
        keeps = subst (λ (r : Params). Keeps g.N.Name.name r p c.land_left.new.passes) same (c.land_left.ensures.kept p c.args.op.now are done);
      };
    }

pub call-here-requires-clause-service : goal.call-here-requires-clause-service
call-here-requires-clause-service g c = record { places_are = c.self.invariant.same; passes_are = ap (λ (p : PassesView). p.name) c.loop.invariant.0 ∙ c.requires.passes.name_is }

pub loop-preserved : goal.loop-preserved
loop-preserved g c = let none = c.call-here.ensures.tried.none c.if-here.false in (none.0 ∙ c.loop.invariant.0, none.1, c.next_desk-cpu.ensures, c.self.view_is ∙ c.loop.invariant.3)
