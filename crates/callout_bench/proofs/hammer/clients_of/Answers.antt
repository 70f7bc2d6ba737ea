-- The first actors are the clients.
use Rattle.std.proofs.Common.{ap, sym, subst, take, ◌∙◌}
use Rattle.std.specs.List.{All}
use Rattle.callout_bench.specs.Team.{IsClient}
use Rattle.callout_bench.proofs.Teams.{clients_are}
use Rattle.callout_bench.proofs.hammer.clients_of.Goals as goal

pub returns : goal.returns
returns c = λ name p are few.
    let items = c.truncate.ensures.items ∙ ap (take c.args.clients) c.into_vec-all.ensures in
    subst (All (IsClient name p)) (sym (items ∙ ap (λ n. take n c.args.passes) (sym few))) (clients_are name p c.args.passes are)
