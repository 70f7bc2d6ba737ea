use Rattle.std.proofs.Common.{rules, ◌≡◌, ℕ, List, ◌∙◌, ap, subst, sym, refl, arith}
use Rattle.std.specs.List.{range_with_len}
use Rattle.co_program.specs.Actors.{actor_count}
use Rattle.co_core.specs.Resting.{IsKnown}
use Rattle.co_world.specs.Step.{step}
use Rattle.co_core.specs.Telling.{TellsOn}
use Rattle.co_world.specs.Walk.{run, HasFinished}
use Rattle.co_world.specs.World.{World}
use Rattle.co_world.proofs.basics.Changes.{decide}
use Rattle.co_world.proofs.measure.Rounds.{last_finished, range-more}
use Rattle.co_core.proofs.walked.Told.{further, may_tell, not_yet}
use Rattle.co_world.proofs.measure.Walks.{run_more, finished_step}
use Rattle.co_core.proofs.engine.Engine.tell_round.Goals as goal

pub loop-actor-init : goal.loop-actor-init
loop-actor-init g c = record {
  world = (c.requires.world, c.requires.told);
  told = λ w h have. (not_yet c.args.script.now g.N.Listener.has c.args.self.now c.args.listener.now w h, have);
  finished = λ all w h have. ((λ a below. absurd (let never : ⊥ = omega (arith, below) in never)), refl);
  actors = refl;
}

pub loop-actor-preserved : goal.loop-actor-preserved
loop-actor-preserved g c =
    let s = c.args.script.now in
    let i = c.loop-actor.actor in
    let has = g.N.Listener.has in
    let known = c.tell_unless_resting.new.resting in record {
      world = c.in_ok-done.ensures.world;
      told = λ w h have.
          (let at = run s w (range_with_len 0 i) in
          let before = c.loop-actor.invariant.told w h have in
          let after = c.in_ok-done.ensures.told at before.0.told before.1 in
          subst (λ (v : World). TellsOn s has c.tell_unless_resting.new.self c.args.listener.now c.tell_unless_resting.new.listener w v × IsKnown s v known) (sym (run_more s w (range_with_len 0 i) i) ∙ ap (λ (xs : List ℕ). run s w xs) (range-more i))
          (further s has c.loop-actor.self c.tell_unless_resting.new.self c.args.listener.now c.loop-actor.listener c.tell_unless_resting.new.listener w at (step s at i) before.0 after.0, after.1));
      finished = λ all w h have.
          (let is = c.both-finished.ensures all in
          let rest = c.loop-actor.invariant.finished is.0 w h have in
          let at = run s w (range_with_len 0 i) in
          let before = c.loop-actor.invariant.told w h have in
          let finished : HasFinished s at i = c.in_ok-done.ensures.finished is.1 at before.0.told before.1 in (
            λ a below. last_finished s w i a rest.0 (subst (λ (v : World). HasFinished s v i) rest.1 finished) (decide a i) below,
            ap (λ (xs : List ℕ). run s w xs) (sym (range-more i)) ∙ (run_more s w (range_with_len 0 i) i ∙ (finished_step s at i finished ∙ rest.1)),
          ));
      actors = c.tell_unless_resting.ensures.actors ∙ c.loop-actor.invariant.actors;
    }

pub returns : goal.returns
returns g c =
    let s = c.args.script.now in
    let whole : c.loop-actor.actor ≡ actor_count s = omega (arith, c.loop-actor.auto.actor-end, c.loop-actor-test.false, c.actor_count-actor-end.ensures) in record {
      world = c.loop-actor.invariant.world;
      told = λ w h have.
          subst (λ (n : ℕ). TellsOn s g.N.Listener.has c.loop-actor.self c.args.listener.now c.loop-actor.listener w (run s w (range_with_len 0 n)) × IsKnown s (run s w (range_with_len 0 n)) c.loop-actor.resting) whole
          (c.loop-actor.invariant.told w h have);
      finished = λ all w h have.
          (let rest = c.loop-actor.invariant.finished all w h have in (
            λ a within. rest.0 a (omega (arith, within, whole)),
            subst (λ (n : ℕ). run s w (range_with_len 0 n) ≡ w) whole rest.1,
          ));
      actors = c.loop-actor.invariant.actors;
    }

pub tell_unless_resting-requires : goal.tell_unless_resting-requires
tell_unless_resting-requires g c = record {
  may = may_tell c.args.script.now c.args.self.now c.loop-actor.self _ _ c.requires c.loop-actor.invariant.actors c.loop-actor.invariant.world;
  actor = search rules;
}
