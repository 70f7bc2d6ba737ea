use Rattle.std.proofs.Common.{sym, ◌∙◌, subst}
use Rattle.co_service.specs.Kept.{MayLand}
use Rattle.co_desk.specs.Moving.{MovingView}
use Rattle.co_desk.specs.Services.{IsLanded}
use Rattle.co_desk.specs.Views.{PassesView}
use Rattle.co_service.proofs.service.Service.land.Goals as goal

pub land_once-requires : goal.land_once-requires
land_once-requires g c =
    let i = c.loop.invariant in
    subst (λ (t : PassesView × MovingView). MayLand g.N.Name.name c.args.self.now t.0 t.1) (λ d. (sym i.0 d, sym i.1 d)) c.requires

pub returns-in-Ok : goal.returns-in-Ok
returns-in-Ok g c =
    let i = c.loop.invariant in
    subst (λ (t : PassesView × MovingView). IsLanded t.0 c.args.act t.1.i t.1.target c.in-Ok.landed c.land_once.new.passes) (λ d. (i.0 d, i.1 d)) c.in-Ok.ensures.landed

pub loop-preserved : goal.loop-preserved
loop-preserved g c = let back = c.in-Err.ensures.back in (back.1 ∙ c.loop.invariant.0, back.0 ∙ c.loop.invariant.1)
