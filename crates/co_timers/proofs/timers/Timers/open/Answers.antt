-- What was fresh has the name.
use Rattle.std.proofs.Common.{ap, replicate, subst, true, ◌∙◌}
use Rattle.co_service.specs.Booted.{AreBooted}
use Rattle.co_service.specs.Fresh.{AreNamed}
use Rattle.co_desk.specs.Name.{ServiceName}
use Rattle.co_desk.specs.Params.{actor_count}
use Rattle.co_timers.specs.Posts.{FreshTimers}
use Rattle.co_timers.proofs.timers.Timers.open.Goals as goal

pub open_both-requires : goal.open_both-requires
open_both-requires g c =
    let name = ap (λ (v : FreshTimers). v.name) c.fresh.view_is ∙ c.requires in
    record {
      name = name;
      booted = subst (λ (n : ServiceName). AreBooted n c.fresh.inside.params c.fresh.inside.passes) name c.fresh.invariant.booted;
      named = subst (λ (n : ServiceName). AreNamed n c.fresh.inside.params) name c.fresh.invariant.named;
    }

pub returns-clause-here : goal.returns-clause-here
returns-clause-here g c = c.in_ok-service.ensures.here ∙ ap (λ (v : FreshTimers). replicate (actor_count v.params) true) c.fresh.view_is
