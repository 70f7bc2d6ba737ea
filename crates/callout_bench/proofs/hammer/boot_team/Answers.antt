-- The service is within the limits, and is one for the threads.
use Rattle.std.proofs.Common.{◌≡◌, length, List, ap, ◌∙◌, sym, subst}
use Rattle.std.specs.List.{All}
use Rattle.std.proofs.lemmas.Result.{IfOk-weaker}
use Rattle.co_object.specs.declared.spec.Spec.{Spec}
use Rattle.callout_bench.specs.Team.{IsPlain}
use Rattle.callout_bench.proofs.Teams.{team_is, team_params}
use Rattle.callout_bench.proofs.hammer.boot_team.Goals as goal

pub boot-requires : goal.boot-requires
boot-requires c =
    let same : c.as_slice.result.now ≡ c.in_ok-specs.specs = c.as_slice.ensures in
    team_params c.args.work.now c.as_slice.result.now c.requires (ap (λ (l : List Spec). length l) same ∙ c.in_ok-specs.ensures.count) (subst (λ (l : List Spec). All IsPlain l) (sym same) c.in_ok-specs.ensures.each)

pub returns-clause-team : goal.returns-clause-team
returns-clause-team c =
    let same : c.as_slice.result.now ≡ c.in_ok-specs.specs = c.as_slice.ensures in
    IfOk-weaker c.boot.result _ _ (λ made e. team_is c.args.work.now made.0.params c.as_slice.result.now (ap (λ (l : List Spec). length l) same ∙ c.in_ok-specs.ensures.count) (subst (λ (l : List Spec). All IsPlain l) (sym same) c.in_ok-specs.ensures.each) e) c.boot.ensures.params
