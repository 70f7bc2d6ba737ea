use Rattle.std.proofs.Common.{ap, subst, sym, arith}
use Rattle.co_desk.specs.declared.params.Params.{Params}
use Rattle.co_service.specs.Crew.{CrewView}
use Rattle.co_desk.specs.Views.{AreOf}
use Rattle.co_service.proofs.Crews.{one_back}
use Rattle.co_service.proofs.crew.Crew.back.Goals as goal

pub push-requires : goal.push-requires
push-requires g c = let room = c.self.invariant.room in let n = ap (λ (v : CrewView). v.count) c.self.view_is in let few = c.requires.room in omega arith

pub invariant_of-self : goal.invariant_of-self
invariant_of-self g c =
    let params = ap (λ (v : CrewView). v.params) (sym c.self.view_is) in
    one_back g.N.Name.name c.self.inside.of.value c.self.inside.back c.push.new.self c.args.passes c.self.invariant (subst (λ (p : Params). AreOf g.N.Name.name p c.args.passes) params c.requires.of) c.push.ensures.items c.push.ensures.spare
