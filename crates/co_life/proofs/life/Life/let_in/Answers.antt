-- The join and the load keep the rule, and the load tells what the rule says of the pass inside.
use Rattle.std.proofs.Common.{arith, sym, ap, ◌∙◌}
use mathlib.Core.Option.{none}
use Rattle.atomic_table.specs.Table.{step}
use Rattle.co_life.specs.Rule.{glance}
use Rattle.co_life.specs.Steps.{entered, let_in}
use Rattle.co_life.specs.Views.{history_in, made_in, actor_in, seen_in}
use Rattle.co_life.proofs.Moves.{enters_as, looks_as, learnt}
use Rattle.co_life.proofs.life.Life.let_in.Goals as goal

pub join_seat-requires : goal.join_seat-requires
join_seat-requires g c =
    (c.requires.seat.0 ∙ sym c.self.view_is, ap (λ t. t.life) c.pass.view_is ∙ (c.requires.pass ∙ sym c.self.view_is), ap (λ m. m.1) c.pass.invariant, omega (arith, c.self.invariant.0), enters_as g.S.Story.actor g.S.Story.legal _ _ _ _ _ _ _ (ap (λ m. m.0) c.requires.seat.1) (ap (λ m. m.0) c.pass.invariant))

pub load-requires : goal.load-requires
load-requires g c =
    let j = c.join_seat.ensures in
    let v = c.args.seat.now.me.0 in
    let w = c.pass.inside.seat.me.0 in
    let p = glance (actor_in w) (seen_in w) in (
      j.0 ∙ (c.requires.seat.0 ∙ sym c.self.view_is),
      omega (arith, c.self.invariant.0),
      looks_as g.S.Story.actor g.S.Story.legal _ _ _ (history_in v) (made_in v) p (step 0 0 0 0 none) (j.2 ∙ (λ k. (entered (c.requires.seat.1 k).0 (c.pass.invariant k).0, (c.requires.seat.1 k).1))),
    )

pub returns-clause-seat : goal.returns-clause-seat
returns-clause-seat g c =
    let j = c.join_seat.ensures in
    let l = c.load.ensures in
    let h = history_in c.args.seat.now.me.0 in
    let n = made_in c.args.seat.now.me.0 in (
      l.0 ∙ (j.0 ∙ c.requires.seat.0),
      l.2.0 ∙ (j.2 ∙ ((λ k. (entered (c.requires.seat.1 k).0 (c.pass.invariant k).0, (c.requires.seat.1 k).1)) ∙ (λ k. let_in h n (glance (c.pass.view_is k).actor (c.pass.view_is k).seen)))),
    )

pub returns-clause-learns : goal.returns-clause-learns
returns-clause-learns g c =
    let j = c.join_seat.ensures in
    let h = history_in c.args.seat.now.me.0 in
    let n = made_in c.args.seat.now.me.0 in
    let p = glance c.args.pass.actor c.args.pass.seen in
    learnt g.S.Story.actor g.S.Story.legal c.join_seat.new.seat.me h n p
    (ap (λ m. m.0) j.2 ∙ ((λ k. entered (c.requires.seat.1 k).0 (c.pass.invariant k).0) ∙ (λ k. (let_in h n (glance (c.pass.view_is k).actor (c.pass.view_is k).seen)).0)))
    c.load.ensures.2.1
