use Rattle.std.proofs.Common.{◌≡◌, ◌<◌, ◌≤◌, ℕ, List, ◌+◌, ◌∙◌, ◌++◌, ◌∷◌, [], ap, subst, sym, take, get_or, length, refl, arith, rules}
use Rattle.std.specs.List.{AllByRecursion}
use Rattle.std.proofs.lemmas.List.{take_all, take_more}
use Rattle.co_program.specs.Actors.{actor_count}
use Rattle.co_world.specs.Step.{step}
use Rattle.co_core.specs.Resting.{IsKnown}
use Rattle.co_core.specs.Telling.{TellsOn}
use Rattle.co_world.specs.Walk.{run}
use Rattle.co_world.specs.World.{World}
use Rattle.co_core.proofs.walked.Told.{further, may_tell, not_yet}
use Rattle.co_world.proofs.measure.Rounds.{all-at}
use Rattle.co_world.proofs.measure.Walks.{run_more}
use Rattle.co_core.proofs.engine.Engine.tell_turns.Goals as goal

pub loop-actor-init : goal.loop-actor-init
loop-actor-init g c = record {
  world = (c.requires.world, c.requires.told);
  told = λ w h have. (not_yet c.args.script.now g.N.Listener.has c.args.self.now c.args.listener.now w h, have);
  actors = refl;
}

pub loop-actor-preserved : goal.loop-actor-preserved
loop-actor-preserved g c =
    let s = c.args.script.now in
    let turns = c.as_slice-actor-items.result.now in
    let i = c.loop-actor.actor-index in
    let has = g.N.Listener.has in
    let one_more : take (i + 1) turns ≡ take i turns ++ get_or turns i 0 ∷ [] = take_more turns i 0 c.loop-actor-test.true in record {
      world = c.in_ok-_finished.ensures.world;
      told = λ w h have.
          (let before = c.loop-actor.invariant.told w h have in
          let after = c.in_ok-_finished.ensures.told (run s w (take i turns)) before.0.told before.1 in
          subst (λ (v : World). TellsOn s has c.tell_unless_resting.new.self c.args.listener.now c.tell_unless_resting.new.listener w v × IsKnown s v c.tell_unless_resting.new.resting)
          (sym (run_more s w (take i turns) (get_or turns i 0)) ∙ ap (λ (xs : List ℕ). run s w xs) (sym one_more))
          (further s has c.loop-actor.self c.tell_unless_resting.new.self c.args.listener.now c.loop-actor.listener c.tell_unless_resting.new.listener w (run s w (take i turns)) (step s (run s w (take i turns)) (get_or turns i 0)) before.0 after.0, after.1));
      actors = c.tell_unless_resting.ensures.actors ∙ c.loop-actor.invariant.actors;
    }

pub tell_unless_resting-requires : goal.tell_unless_resting-requires
tell_unless_resting-requires g c =
    let s = c.args.script.now in
    let turns = c.as_slice-actor-items.result.now in
    let exist : AllByRecursion (λ (a : ℕ). a < actor_count s) turns = subst (AllByRecursion (λ (a : ℕ). a < actor_count s)) (sym c.as_slice-actor-items.ensures) c.requires.script.turns in record {
      may = may_tell s c.args.self.now c.loop-actor.self _ _ c.requires c.loop-actor.invariant.actors c.loop-actor.invariant.world;
      actor = all-at (λ (a : ℕ). a < actor_count s) turns c.loop-actor.actor-index 0 exist c.loop-actor-test.true;
    }

pub returns : goal.returns
returns g c =
    let s = c.args.script.now in
    let turns = c.as_slice-actor-items.result.now in
    let past : length turns ≤ c.loop-actor.actor-index = omega arith in record {
      told = λ w h have.
          subst (λ (xs : List ℕ). TellsOn s g.N.Listener.has c.loop-actor.self c.args.listener.now c.loop-actor.listener w (run s w xs) × IsKnown s (run s w xs) c.loop-actor.resting)
          (take_all c.loop-actor.actor-index turns past ∙ c.as_slice-actor-items.ensures)
          (c.loop-actor.invariant.told w h have);
      actors = c.loop-actor.invariant.actors;
    }

pub returns-in_err-_finished : goal.returns-in_err-_finished
returns-in_err-_finished g c = record { told = search rules; actors = c.tell_unless_resting.ensures.actors ∙ c.loop-actor.invariant.actors }
