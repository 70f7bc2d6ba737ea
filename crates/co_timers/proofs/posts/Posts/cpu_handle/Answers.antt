-- Both actors have seen nothing, and the passes are of the service that the handle names.
use Rattle.std.proofs.Common.{rules, ◌≡◌, ◌+◌, ◌<◌, true, ap, sym, subst, ◌∙◌}
use Rattle.co_service.specs.Booted.{booted}
use Rattle.co_desk.specs.declared.params.Params.{Params}
use Rattle.co_timers.specs.Handles.{IsHandle}
use Rattle.co_timers.specs.Posts.{is_whole}
use Rattle.co_timers.proofs.Whole.{first, whole}
use Rattle.co_timers.proofs.posts.Posts.cpu_handle.Goals as goal

pub new-requires : goal.new-requires
new-requires g c =
    let inner : c.timers.inside.params ≡ c.args.timers.now.params = ap (λ v. v.params) c.timers.view_is in
    let there : c.args.timers.now.params ≡ c.args.self.now.params = c.requires in
    let stays : c.leave.new.self.params ≡ c.args.timers.now.params = ap (λ v. v.params) c.leave.ensures.stays ∙ sym there in
    let here : c.is_whole.result ≡ true = search rules in
    let is : is_whole c.args.self.now c.args.k ≡ true = sym c.is_whole.ensures ∙ here in
    first g.N.Name.name c.args.timers.now.params c.args.k c.in-Some-leave.direct c.in-Some.others
    (subst (λ (r : Params). c.args.k < r.cpus) (sym there) (whole c.args.self.now c.args.k is).below)
    (subst (λ (r : Params). IsHandle g.N.Name.name r c.in-Some-leave.direct) stays c.in-Some-leave.ensures.handle)
    (subst (λ (r : Params). IsHandle g.N.Name.name r c.in-Some.others) (sym there) c.in-Some.ensures.handle)
    (c.in-Some-leave.ensures.some
    ∙ (ap (λ (r : Params). booted g.N.Name.name r ((c.timers.inside.params.clients + c.timers.inside.params.cpus) + c.args.k)) stays
    ∙ ap (λ (r : Params). booted g.N.Name.name c.args.timers.now.params ((r.clients + r.cpus) + c.args.k)) inner))
    (c.in-Some.ensures.some
    ∙ (ap (λ (r : Params). booted g.N.Name.name r (c.timers.inside.params.clients + c.args.k)) (sym there)
    ∙ ap (λ (r : Params). booted g.N.Name.name c.args.timers.now.params (r.clients + c.args.k)) inner))
