-- Each of them is the same plain one.
use Rattle.std.proofs.Common.{List, length, refl, sym, ap, ◌∙◌, subst, inl}
use Rattle.std.specs.List.{All}
use Rattle.std.proofs.lemmas.List.{length-replicate}
use Rattle.std.proofs.lemmas.List.Elements.{All-replicate}
use Rattle.std.proofs.lemmas.Result.{IfOk-weaker}
use Rattle.co_object.specs.declared.spec.Spec.{Spec}
use Rattle.callout_bench.specs.Team.{IsPlain}
use Rattle.callout_bench.proofs.hammer.plain_specs.Goals as goal

pub returns-clause-count : goal.returns-clause-count
returns-clause-count c = IfOk-weaker c.filled.result _ _ (λ specs e. ap (λ (l : List Spec). length l) e ∙ length-replicate _ _) c.filled.ensures

pub returns-clause-each : goal.returns-clause-each
returns-clause-each c =
    IfOk-weaker c.filled.result _ _ (λ specs e. subst (λ (l : List Spec). All IsPlain l) (sym e) (All-replicate IsPlain _ _ (record { lock = refl; allowed = record { unlocked = λ _. refl; free = inl refl; later = λ _. refl } }))) c.filled.ensures
