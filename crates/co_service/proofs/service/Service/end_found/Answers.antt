use Rattle.std.proofs.Common.{sym, ap, ◌∙◌, subst}
use Rattle.co_object.specs.Queue.{Due}
use Rattle.co_desk.specs.Ends.{IsFinished}
use Rattle.co_desk.specs.Services.{IsServing}
use Rattle.co_desk.specs.Serving.{Runs}
use Rattle.co_desk.specs.Views.{PassesView}
use Rattle.co_service.proofs.service.Service.end_found.Goals as goal

pub end-ended-requires-clause-service : goal.end-ended-requires-clause-service
end-ended-requires-clause-service g c = record { places_are = c.self.invariant.same; passes_are = ap (λ (p : PassesView). p.name) c.loop.invariant.0 ∙ c.requires.passes.name_is }

pub end-ended-requires-clause-serves : goal.end-ended-requires-clause-serves
end-ended-requires-clause-serves g c = subst (λ (p : PassesView). (d : Due) × IsServing c.args.direct p c.args.cpu d (Runs d.n)) (sym c.loop.invariant.0) c.requires.serves

pub end-ended-requires-clause-none : goal.end-ended-requires-clause-none
end-ended-requires-clause-none g c = c.loop.invariant.1

pub returns-then-ended : goal.returns-then-ended
returns-then-ended g c =
    subst (λ (p : PassesView). (d : Due) → IsServing c.args.direct p c.args.cpu d (Runs d.n) → IsFinished c.args.direct p c.args.cpu c.args.act d c.end-ended.new.told c.end-ended.new.gone c.end-ended.new.passes) c.loop.invariant.0
    (c.end-ended.ensures.tried.some c.if-ended.true)

pub loop-preserved : goal.loop-preserved
loop-preserved g c = let none = c.end-ended.ensures.tried.none c.if-ended.false in (none.0 ∙ c.loop.invariant.0, none.1)
