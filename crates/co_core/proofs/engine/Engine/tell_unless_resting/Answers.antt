-- One that has finished, or is kept from the lock that it takes next, would change nothing; of any other nothing is known before
-- it is asked.
use Rattle.std.proofs.Common.{◌≡◌, Bool, true, Option, Some, None, sym, refl, subst}
use Rattle.std.proofs.lemmas.Result.{IfOk-weaker, on_ok_weaker}
use Rattle.co_core.specs.Acting.{Stands}
use Rattle.co_core.specs.Resting.{IsKnown, RestsStill}
use Rattle.co_core.specs.Telling.{TellsOn}
use Rattle.co_world.specs.Walk.{HasFinished}
use Rattle.co_world.specs.World.{World}
use Rattle.co_core.proofs.walked.Known.{few_actors, forgotten}
use Rattle.co_core.proofs.walked.Told.{not_yet}
use Rattle.co_core.proofs.engine.Engine.tell_unless_resting.Goals as goal

none_is : (o : Option Bool) → ((x : Bool) → o ≡ Some x → ⊥) → o ≡ None
none_is None h = refl
none_is (Some x) h = absurd (h x refl)

pub still_rests-requires : goal.still_rests-requires
still_rests-requires g c = few_actors c.args.script.now c.args.actor c.requires.may.script c.requires.actor

pub returns-in-Some : goal.returns-in-Some
returns-in-Some g c =
    let s = c.args.script.now in
    let a = c.args.actor in
    let known = c.still_rests.new.resting in
    let same : known ≡ c.args.resting.now = c.still_rests.ensures.same c.in-Some.ended c.in-Some.is in
    let rests : (w : World) → Stands s c.args.self.now w → IsKnown s w c.args.resting.now → RestsStill s w a c.in-Some.ended = λ w h have. c.still_rests.ensures.rests c.in-Some.ended c.in-Some.is s w h.written have in record {
      world = (c.requires.may.world, c.requires.may.told);
      told = λ w h have.
          subst (λ (v : World). TellsOn s g.N.Listener.has c.args.self.now c.args.listener.now c.args.listener.now w v × IsKnown s v known) (sym (rests w h have).idle)
          (not_yet s g.N.Listener.has c.args.self.now c.args.listener.now w h, subst (IsKnown s w) (sym same) have);
      finished = λ said w h have. (rests w h have).finished said;
      actors = refl;
    }

pub returns : goal.returns
returns g c =
    let s = c.args.script.now in
    let a = c.args.actor in
    let known = c.still_rests.new.resting in
    let still : (w : World) → IsKnown s w c.args.resting.now → IsKnown s w known = λ w have. forgotten s w a c.args.resting.now known (c.still_rests.ensures.asked (none_is c.still_rests.result c.in_default.not-Some)) have in record {
      world = c.tell_asked.ensures.world;
      told = on_ok_weaker c.tell_asked.result (λ goes w h have. goes w h (still w have)) c.tell_asked.ensures.told;
      finished = IfOk-weaker c.tell_asked.result
          (λ (f : Bool). f ≡ true → (w : World) → Stands s c.args.self.now w → IsKnown s w known → HasFinished s w a)
          (λ (f : Bool). f ≡ true → (w : World) → Stands s c.args.self.now w → IsKnown s w c.args.resting.now → HasFinished s w a)
          (λ f done said w h have. done said w h (still w have)) c.tell_asked.ensures.finished;
      actors = c.tell_asked.ensures.actors;
    }
