-- The client's passes have seen nothing.
use Rattle.std.proofs.Common.{ap, subst, sym, ◌∙◌}
use Rattle.co_desk.specs.Views.{PassesView}
use Rattle.co_desk.specs.declared.params.Params.{Params}
use Rattle.co_timers.specs.Handles.{IsHandle}
use Rattle.co_timers.proofs.posts.Posts.client.Goals as goal

pub new-requires : goal.new-requires
new-requires g c = subst (λ (r : Params). IsHandle g.N.Name.name r c.in_ok-passes.passes) (sym c.requires) c.in_ok-passes.ensures.handle

pub returns-clause-some : goal.returns-clause-some
returns-clause-some g c = c.new.ensures ∙ ap (λ (p : PassesView). record { passes = p; act = 0 }) c.in_ok-passes.ensures.some
