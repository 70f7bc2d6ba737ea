-- The service is the one that was booted.
use Rattle.std.proofs.Common.{sym, subst}
use Rattle.std.specs.Prelude.{slice_index_or}
use Rattle.co_desk.specs.declared.params.Params.{Params}
use Rattle.co_desk.specs.Name.{ServiceName}
use Rattle.callout_bench.specs.Team.{IsClient}
use Rattle.callout_bench.proofs.hammer.run_open.Goals as goal

pub hammer_all-requires-clause-clients : goal.hammer_all-requires-clause-clients
hammer_all-requires-clause-clients g c κs within = λ k d inside.
    let x = slice_index_or c.clients_of-clients.result.items k d in
    let client = c.clients_of-clients.ensures c.args.fresh.name c.args.fresh.params c.requires.passes c.requires.team.clients k d inside in
    subst (λ (name : ServiceName). IsClient name c.in-Ok.service x) c.requires.name (subst (λ (p : Params). IsClient c.args.fresh.name p x) (sym c.in-Ok.ensures) client)
