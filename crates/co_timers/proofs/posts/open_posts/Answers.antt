use Rattle.std.proofs.Common.{◌≡◌, ◌≤◌, [], true, length, map, replicate, ap, sym, subst, ◌∙◌, arith}
use Rattle.std.proofs.lemmas.List.{length-map}
use Rattle.std.specs.Prelude.{is_some}
use Rattle.std.specs.declared.option.Option.TheVariants.{Some}
use Rattle.co_desk.specs.Params.{actor_count}
use Rattle.co_timers.specs.Posts.{ArePosts}
use Rattle.co_timers.proofs.Posted.{all_here, posts_open}
use Rattle.co_timers.proofs.posts.open_posts.Goals as goal

pub invariant_of-result : goal.invariant_of-result
invariant_of-result g c =
    let p = c.args.params.now in
    let name = g.N.Name.name in
    let seats = c.in_ok-seats.ensures in
    let none : c.reserve.new.self.items ≡ [] = c.reserve.ensures.items ∙ (c.from_seq-back.ensures ∙ c.new.ensures) in
    let room = c.in_ok-reserve.ensures.ok in
    let count = c.requires.booted.count in
    let long : length c.in_ok-seats.seats.items ≡ length c.args.passes = ap (λ l. length l) seats ∙ length-map c.args.passes Some in
    let spare : actor_count p ≤ c.reserve.new.self.spare = omega (arith, room, count, long, c.len.ensures, c.in_ok-seats.seats.ok.0) in
    subst (λ v. ArePosts name v c.in_ok-seats.seats.items c.reserve.new.self) (sym c.of.ensures)
    (subst (λ l. ArePosts name p l c.reserve.new.self) (sym seats) (posts_open name p c.args.passes c.reserve.new.self c.requires.booted c.requires.named none spare))

pub returns-clause-here : goal.returns-clause-here
returns-clause-here g c = ap (λ l. map is_some l) c.in_ok-seats.ensures ∙ (all_here c.args.passes ∙ ap (λ n. replicate n true) c.requires.booted.count)
