-- What is known after a step is what was and what it tells.
use Rattle.std.proofs.Common.{sym, arith, ◌∙◌}
use Rattle.co_world.specs.Step.{step}
use Rattle.co_core.proofs.walked.Known.{few_actors, learnt}
use Rattle.co_world.proofs.measure.Rounds.{turn-finished}
use Rattle.co_core.proofs.engine.Engine.tell_asked.Goals as goal

pub known_after-known-requires : goal.known_after-known-requires
known_after-known-requires g c =
    let at = c.requires.may.may in
    let long = (c.in_ok-turn.ensures.told.told at.world at.told).told.written.cursors_long in
    let actor = c.requires.may.actor in
    omega (arith, long, actor)

pub learn-requires-clause-actor : goal.learn-requires-clause-actor
learn-requires-clause-actor g c = few_actors c.args.script.now c.args.actor c.requires.may.may.script c.requires.may.actor

pub returns : goal.returns
returns g c =
    let s = c.args.script.now in
    let a = c.args.actor in
    let at = c.requires.may.may in record {
      world = (step s at.world a, (c.in_ok-turn.ensures.told.told at.world at.told).told);
      told = λ w h have.
          (let goes = c.in_ok-turn.ensures.told.told w h in (
            goes,
            learnt s w a c.args.resting.now c.learn.new.self c.known_after-known.result c.learn.ensures
                (λ done. turn-finished s w a (sym (c.in_ok-turn.ensures.turn w h) ∙ c.known_after-known.ensures.ended done))
                (λ held is. c.known_after-known.ensures.wanted held (step s w a) is goes.told.written c.requires.may.actor)
                have,
          ));
      finished = λ said w h have. turn-finished s w a (sym (c.in_ok-turn.ensures.turn w h) ∙ c.is_finished.ensures said);
      actors = c.tell_step.ensures.told.actors;
    }
