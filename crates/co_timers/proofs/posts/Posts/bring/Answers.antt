-- One more is back, and there was room.
use Rattle.std.proofs.Common.{ap, subst, sym}
use Rattle.co_desk.specs.Views.{AreOf}
use Rattle.co_desk.specs.declared.params.Params.{Params}
use Rattle.co_timers.specs.Posts.{PostsView}
use Rattle.co_timers.proofs.Posted.{posts_back}
use Rattle.co_timers.proofs.posts.Posts.bring.Goals as goal

pub invariant_of-self : goal.invariant_of-self
invariant_of-self g c =
    let of = subst (λ (r : Params). AreOf g.N.Name.name r c.args.passes) (sym (ap (λ (v : PostsView). v.params) c.self.view_is)) c.requires in
    posts_back g.N.Name.name c.self.inside.params.value c.self.inside.seats.items c.self.inside.back c.self.invariant c.push.new.self c.args.passes of c.push.ensures.items c.push.ensures.spare
