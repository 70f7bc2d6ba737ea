use Rattle.std.proofs.Common.{sym, subst}
use Rattle.co_object.specs.Queue.{Due}
use Rattle.co_desk.specs.declared.params.Params.{Params}
use Rattle.co_desk.specs.Ends.{IsFinished}
use Rattle.co_service.specs.Kept.{MayTryEnd}
use Rattle.co_desk.specs.Services.{IsServing}
use Rattle.co_desk.specs.Serving.{Runs}
use Rattle.co_desk.specs.Views.{PassesView}
use Rattle.co_service.proofs.service.Service.end_found_alone.Goals as goal

pub returns-then-end_here-clause-finished : goal.returns-then-end_here-clause-finished
returns-then-end_here-clause-finished g c = c.end_here.ensures.tried.some c.if-end_here.true

pub end_apart-requires : goal.end_apart-requires
end_apart-requires g c =
    let none = c.end_here.ensures.tried.none c.if-end_here.false in
    subst (λ (t : Params × PassesView). MayTryEnd g.N.Name.name t.0 c.args.direct t.1 c.args.cpu c.end_here.new.gone) (λ d. (sym c.end_here.ensures.params d, sym none.0 d))
    record { cpu_is = c.requires.cpu_is; passes = c.requires.passes; serves = c.requires.serves; none = none.1 }

pub returns-clause-finished : goal.returns-clause-finished
returns-clause-finished g c =
    let out = c.end_apart.new in
    subst (λ (p : PassesView). (d : Due) → IsServing c.args.direct p c.args.cpu d (Runs d.n) → IsFinished c.args.direct p c.args.cpu c.args.act d out.told out.gone out.passes)
    (c.end_here.ensures.tried.none c.if-end_here.false).0 c.end_apart.ensures
