-- The actor's notes are taken out, a step's come to them, and they are put back.
use Rattle.std.proofs.Common.{◌≡◌, ◌<◌, [], length, length-set, ap, ◌∙◌, sym, subst, arith}
use Rattle.co_program.specs.Actors.{actor_count}
use Rattle.co_world.specs.Step.{step, turn_of}
use Rattle.co_core.specs.Seen.{Seen}
use Rattle.co_core.specs.Shows.{Shows}
use Rattle.co_core.specs.Stands.{StandsFor}
use Rattle.co_core.specs.Written.{with_lists}
use Rattle.co_core.proofs.steps.Idle.{of_world}
use Rattle.co_core.proofs.steps.Standing.{stands_on}
use Rattle.co_core.proofs.written.There.{list_there}
use Rattle.co_core.proofs.world.World.step.Goals as goal

pub take_out-requires : goal.take_out-requires
take_out-requires c =
    let h = c.self.invariant in
    let within : c.args.actor < actor_count c.self.inside.script.now = subst (λ (x : Seen). c.args.actor < actor_count x.script) (sym c.self.view_is) c.requires in
    list_there c.self.inside.script.now (with_lists c.self.inside.engine.ledger c.self.inside.lists) h.world h.stands.written c.args.actor within

pub step-requires-clause-runs : goal.step-requires-clause-runs
step-requires-clause-runs c =
    let h = c.self.invariant in record {
      running = record { script = h.sound; world = h.world; stands = of_world c.self.inside.script.now c.self.inside.engine c.self.inside.lists h.world h.stands };
      actor = subst (λ (x : Seen). c.args.actor < actor_count x.script) (sym c.self.view_is) c.requires;
    }

pub put_back-requires : goal.put_back-requires
put_back-requires c =
    let h = c.self.invariant in
    let taken = c.in_ok-hand.ensures.ok in
    let within : c.args.actor < actor_count c.self.inside.script.now = subst (λ (x : Seen). c.args.actor < actor_count x.script) (sym c.self.view_is) c.requires in
    let row = list_there c.self.inside.script.now (with_lists c.self.inside.engine.ledger c.self.inside.lists) h.world h.stands.written c.args.actor within in
    let long = ap length taken.out ∙ length-set c.self.inside.lists c.args.actor [] in
    let own = taken.actor in
    let as_many = c.step.ensures.listens.as_many in
    omega (arith, row, long, own, as_many)

pub invariant_of-self-2 : goal.invariant_of-self-2
invariant_of-self-2 c =
    let h = c.self.invariant in
    let s = c.self.inside.script.now in record {
      sound = h.sound;
      world = step s h.world c.args.actor;
      stands = stands_on s c.args.actor c.in_ok-turn.turn c.self.inside.engine c.step.new.self c.self.inside.lists c.take_out.new.lists c.in_ok-hand.hand c.step.new.listener c.in_ok-hand.ensures.ok c.in_ok-turn.ensures.stepped c.step.ensures.listens.as_many
          c.put_back.new.lists c.put_back.ensures h.world h.stands;
    }

pub returns-clause-stands : goal.returns-clause-stands
returns-clause-stands c w h =
    subst (λ (x : Seen). StandsFor c.self.inside.script.now (with_lists c.step.new.self.ledger c.put_back.new.lists) c.step.new.self.depot (step x.script w c.args.actor)) c.self.view_is
    (stands_on c.self.inside.script.now c.args.actor c.in_ok-turn.turn c.self.inside.engine c.step.new.self c.self.inside.lists c.take_out.new.lists c.in_ok-hand.hand c.step.new.listener c.in_ok-hand.ensures.ok c.in_ok-turn.ensures.stepped c.step.ensures.listens.as_many
    c.put_back.new.lists c.put_back.ensures w (subst (λ (x : Seen). Shows x w) (sym c.self.view_is) h))

pub returns-clause-turn : goal.returns-clause-turn
returns-clause-turn c w h =
    subst (λ (x : Seen). c.in_ok-turn.turn ≡ turn_of x.script w c.args.actor) c.self.view_is
    (c.in_ok-turn.ensures.stepped.tells c.self.inside.lists w (subst (λ (x : Seen). Shows x w) (sym c.self.view_is) h))

-- there was memory
pub returns-clause-err : goal.returns-clause-err
returns-clause-err c = tt
