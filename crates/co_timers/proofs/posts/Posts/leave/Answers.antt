-- The seat has seen nothing, and is empty then.
use Rattle.std.proofs.Common.{◌≡◌, ◌<◌, List, Bool, false, length, map, set, ap, sym, subst, ◌∙◌, arith}
use Rattle.std.specs.Prelude.{IfSome, is_some, slice_get, slice_index_or, slice_set}
use Rattle.std.specs.declared.option.Option.{Option}
use Rattle.std.specs.declared.option.Option.TheVariants.{Some}
use Rattle.co_service.specs.Booted.{booted}
use Rattle.co_desk.specs.Views.{PassesView}
use Rattle.co_desk.specs.declared.params.Params.{Params}
use Rattle.co_desk.proofs.Items.{get_here, get_map, get_or_of, set_map}
use Rattle.co_timers.specs.Handles.{IsHandle}
use Rattle.co_timers.specs.Posts.{ArePosts, PostsView}
use Rattle.co_timers.proofs.Posted.{posts_left, seat_booted, seat_handle}
use Rattle.co_timers.proofs.posts.Posts.leave.Goals as goal

pub returns-clause-stays : goal.returns-clause-stays
returns-clause-stays g c =
    let seats : List (Option PassesView) = c.self.inside.seats.items in
    let a = c.args.actor in
    let before : map is_some seats ≡ c.args.self.now.here = ap (λ (v : PostsView). v.here) c.self.view_is in
    let here : map is_some (set seats a c.take.new.self) ≡ slice_set c.args.self.now.here a false =
    set_map is_some seats a c.take.new.self
    ∙ (ap (λ (o : Option PassesView). set (map is_some seats) a (is_some o)) c.take.ensures.after ∙ ap (λ (l : List Bool). set l a false) before) in
    λ d. record {
      params = (ap (λ (v : PostsView). v.params) c.self.view_is) d;
      here = here d;
      back = (ap (λ (v : PostsView). v.back) c.self.view_is) d;
    }

pub returns-clause-here : goal.returns-clause-here
returns-clause-here g c =
    let seats : List (Option PassesView) = c.self.inside.seats.items in
    let a = c.args.actor in
    let seat : Option PassesView = c.index_mut.result.now in
    let low : a < length seats = omega (arith, c.len.ensures, c.self.inside.seats.ok.0) in
    let there : slice_get seats a ≡ Some seat = get_here seats a seat low c.index_mut.ensures.value in
    ap is_some c.take.ensures.value
    ∙ (sym (get_or_of (map is_some seats) a false (is_some seat) (get_map is_some seats a seat there))
    ∙ ap (λ (v : PostsView). slice_index_or v.here a false) c.self.view_is)

pub returns-clause-some : goal.returns-clause-some
returns-clause-some g c =
    let seats : List (Option PassesView) = c.self.inside.seats.items in
    let a = c.args.actor in
    let seat : Option PassesView = c.index_mut.result.now in
    let low : a < length seats = omega (arith, c.len.ensures, c.self.inside.seats.ok.0) in
    let there : slice_get seats a ≡ Some seat = get_here seats a seat low c.index_mut.ensures.value in
    let params : c.self.inside.params.value ≡ c.args.self.now.params = ap (λ (v : PostsView). v.params) c.self.view_is in
    subst (λ (r : Params). IfSome c.take.result (λ q. q ≡ booted g.N.Name.name r a)) params
    (subst (λ (o : Option PassesView). IfSome o (λ q. q ≡ booted g.N.Name.name c.self.inside.params.value a)) (sym c.take.ensures.value)
    (seat_booted g.N.Name.name c.self.inside.params.value seats c.self.inside.back c.self.invariant a seat there))

pub returns-clause-handle : goal.returns-clause-handle
returns-clause-handle g c =
    let seats : List (Option PassesView) = c.self.inside.seats.items in
    let a = c.args.actor in
    let seat : Option PassesView = c.index_mut.result.now in
    let low : a < length seats = omega (arith, c.len.ensures, c.self.inside.seats.ok.0) in
    let there : slice_get seats a ≡ Some seat = get_here seats a seat low c.index_mut.ensures.value in
    let params : c.self.inside.params.value ≡ c.args.self.now.params = ap (λ (v : PostsView). v.params) c.self.view_is in
    subst (λ (r : Params). IfSome c.take.result (IsHandle g.N.Name.name r)) params
    (subst (λ (o : Option PassesView). IfSome o (IsHandle g.N.Name.name c.self.inside.params.value)) (sym c.take.ensures.value)
    (seat_handle g.N.Name.name c.self.inside.params.value seats c.self.inside.back c.self.invariant a seat there))

pub invariant_of-self : goal.invariant_of-self
invariant_of-self g c =
    let seats : List (Option PassesView) = c.self.inside.seats.items in
    let a = c.args.actor in
    let low : a < length seats = omega (arith, c.len.ensures, c.self.inside.seats.ok.0) in
    subst (λ (o : Option PassesView). ArePosts g.N.Name.name c.self.inside.params.value (set seats a o) c.self.inside.back) (sym c.take.ensures.after)
    (posts_left g.N.Name.name c.self.inside.params.value seats c.self.inside.back c.self.invariant a low)
