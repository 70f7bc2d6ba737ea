-- Each section has its heading, and each count is 0.
use Rattle.std.proofs.Common.{ap, replicate, ◌∙◌}
use Rattle.co_report.proofs.ToldPages.{nothing-told, told-rooms}
use Rattle.co_report.proofs.sections.Sections.new.Goals as goal

pub invariant_of-result : goal.invariant_of-result
invariant_of-result c =
    told-rooms _ _ c.requires
    (nothing-told c.args.script.now c.in_ok-pages.pages.items c.into_vec-counts.result.items c.in_ok-pages.ensures (c.into_vec-counts.ensures ∙ (c.in_ok-filled.ensures ∙ ap (λ n. replicate n 0) c.actor_count.ensures)))

pub returns-clause-empty : goal.returns-clause-empty
returns-clause-empty c = nothing-told c.args.script.now c.in_ok-pages.pages.items c.into_vec-counts.result.items c.in_ok-pages.ensures (c.into_vec-counts.ensures ∙ (c.in_ok-filled.ensures ∙ ap (λ n. replicate n 0) c.actor_count.ensures))
