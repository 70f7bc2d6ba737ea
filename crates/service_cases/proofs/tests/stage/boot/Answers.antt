use Rattle.std.proofs.Common.{◌≡◌, List, length, ap, replicate, sym, ◌∙◌, subst}
use Rattle.std.proofs.lemmas.List.{length-replicate}
use Rattle.std.specs.List.{All}
use Rattle.std.proofs.lemmas.Result.{IfOk-weaker}
use Rattle.co_object.specs.declared.spec.Spec.{Spec}
use Rattle.service_cases.specs.Scenes.{IsFreeSpec}
use Rattle.service_cases.proofs.Stages.{all_free, free_of, scene_allowed, scene_is}
use Rattle.service_cases.proofs.tests.stage.boot.Goals as goal

pub boot-requires : goal.boot-requires
boot-requires c =
    let r = c.requires in
    let specs : List Spec = c.as_slice.result.now in
    let are : specs ≡ replicate c.args.callouts (free_of c.args.direct) = c.as_slice.ensures ∙ c.in_ok-specs.ensures in
    scene_allowed c.args.version c.args.cpus c.args.callouts specs (ap length are ∙ length-replicate c.args.callouts (free_of c.args.direct))
    (subst (All (IsFreeSpec c.args.version)) (sym are) (all_free c.args.version c.args.callouts c.args.direct r.later))
    r.version.0 r.version.1 r.cpus.0 r.cpus.1 r.callouts.0 r.callouts.1

pub returns-clause-scene : goal.returns-clause-scene
returns-clause-scene c =
    let specs : List Spec = c.as_slice.result.now in
    let are : specs ≡ replicate c.args.callouts (free_of c.args.direct) = c.as_slice.ensures ∙ c.in_ok-specs.ensures in
    IfOk-weaker c.boot.result _ _
    (λ made is. scene_is c.args.version c.args.cpus c.args.callouts specs (ap length are ∙ length-replicate c.args.callouts (free_of c.args.direct))
    (subst (All (IsFreeSpec c.args.version)) (sym are) (all_free c.args.version c.args.callouts c.args.direct c.requires.later)) made.0.params is)
    c.boot.ensures.params
