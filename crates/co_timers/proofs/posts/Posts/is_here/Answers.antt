-- The seat is taken exactly where its actor is here.
use Rattle.std.proofs.Common.{◌≡◌, List, false, map, ap, sym, ◌∙◌}
use Rattle.std.specs.Prelude.{is_some, slice_get, slice_index_or}
use Rattle.std.specs.declared.option.Option.{Option}
use Rattle.std.specs.declared.option.Option.TheVariants.{Some}
use Rattle.co_desk.specs.Views.{PassesView}
use Rattle.co_desk.proofs.Items.{get_here, get_map, get_or_of}
use Rattle.co_timers.specs.Posts.{PostsView}
use Rattle.co_timers.proofs.posts.Posts.is_here.Goals as goal

pub returns-in-Some : goal.returns-in-Some
returns-in-Some g c =
    let seats : List (Option PassesView) = c.deref.result.now in
    let a = c.args.actor in
    let seat : Option PassesView = c.in-Some.seat.now in
    let there : slice_get seats a ≡ Some seat = get_here seats a seat c.in-Some.ensures.lookup.3.0 c.in-Some.ensures.lookup.1 in
    c.is_some.ensures
    ∙ (sym (get_or_of (map is_some seats) a false (is_some seat) (get_map is_some seats a seat there))
    ∙ (ap (λ (l : List (Option PassesView)). slice_index_or (map is_some l) a false) c.deref.ensures.value ∙ ap (λ (v : PostsView). slice_index_or v.here a false) c.self.view_is))
