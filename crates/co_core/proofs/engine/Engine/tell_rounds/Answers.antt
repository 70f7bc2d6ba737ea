use Rattle.std.proofs.Common.{◌∙◌, subst, inl, refl, arith}
use Rattle.co_core.specs.Resting.{IsKnown}
use Rattle.co_core.specs.Telling.{TellsOn}
use Rattle.co_world.specs.Walk.{round, rounds}
use Rattle.co_world.specs.World.{World}
use Rattle.co_world.proofs.measure.Rounds.{counted-more, counted-all, rounds-more}
use Rattle.co_core.proofs.walked.Told.{further, may_tell, not_yet}
use Rattle.co_core.proofs.engine.Engine.tell_rounds.Goals as goal

pub loop-round-init : goal.loop-round-init
loop-round-init g c = record {
  world = (c.requires.world, c.requires.told);
  told = λ w h have. (
    not_yet c.args.script.now g.N.Listener.has c.args.self.now c.args.listener.now w h,
    have,
    λ ok. inl (omega arith),
  );
  actors = refl;
}

pub returns-then-branch : goal.returns-then-branch
returns-then-branch g c =
    let s = c.args.script.now in
    let k = c.loop-round._round in record {
      told = λ w h have.
          (let at = c.loop-round.invariant.told w h have in
          let all = c.in_ok-tell_round.ensures.finished c.if-branch.true (rounds s w k) at.0.told at.1 in
          let after = c.in_ok-tell_round.ensures.told (rounds s w k) at.0.told at.1 in
          let both = further s g.N.Listener.has c.loop-round.self c.tell_round.new.self c.args.listener.now c.loop-round.listener c.tell_round.new.listener w (rounds s w k) (round s (rounds s w k)) at.0 after.0 in
          (k, subst (λ (v : World). TellsOn s g.N.Listener.has c.tell_round.new.self c.args.listener.now c.tell_round.new.listener w v) all.1 both, all.0));
      actors = c.tell_round.ensures.actors ∙ c.loop-round.invariant.actors;
    }

pub loop-round-preserved : goal.loop-round-preserved
loop-round-preserved g c =
    let s = c.args.script.now in
    let k = c.loop-round._round in record {
      world = c.in_ok-tell_round.ensures.world;
      told = λ w h have.
          (let before = c.loop-round.invariant.told w h have in
          let after = c.in_ok-tell_round.ensures.told (rounds s w k) before.0.told before.1 in
          let both = further s g.N.Listener.has c.loop-round.self c.tell_round.new.self c.args.listener.now c.loop-round.listener c.tell_round.new.listener w (rounds s w k) (round s (rounds s w k)) before.0 after.0 in (
            subst (λ (v : World). TellsOn s g.N.Listener.has c.tell_round.new.self c.args.listener.now c.tell_round.new.listener w v) (rounds-more s w k) both,
            subst (λ (v : World). IsKnown s v c.tell_round.new.resting) (rounds-more s w k) after.1,
            λ ok. counted-more s ok w k before.0.told.reached (before.2 ok),
          ));
      actors = c.tell_round.ensures.actors ∙ c.loop-round.invariant.actors;
    }

pub returns : goal.returns
returns g c =
    let s = c.args.script.now in
    let k = c.loop-round._round in record {
      told = λ w h have.
          (let before = c.loop-round.invariant.told w h have in
          (k, before.0, counted-all s c.requires.script w k h.reached before.0.told.reached (omega (arith, c.loop-round-test.false)) (before.2 c.requires.script)));
      actors = c.loop-round.invariant.actors;
    }

pub tell_round-requires : goal.tell_round-requires
tell_round-requires g c = may_tell c.args.script.now c.args.self.now c.loop-round.self _ _ c.requires c.loop-round.invariant.actors c.loop-round.invariant.world
