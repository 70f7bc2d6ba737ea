-- The turns and then the rounds, from the opening to the end.
use Rattle.std.proofs.Common.{ℕ, ◌≤◌, ◌∙◌, subst, sym, rules}
use Rattle.co_program.specs.Actors.{actor_count}
use Rattle.co_world.specs.Walk.{run}
use Rattle.co_world.specs.World.{open_world}
use Rattle.std.proofs.lemmas.Result.{on_ok_weaker}
use Rattle.co_core.proofs.walked.Known.{nothing_known}
use Rattle.co_core.proofs.walked.Told.{walk_told}
use Rattle.co_core.proofs.engine.Engine.tell_all.Goals as goal

pub tell_rounds-requires : goal.tell_rounds-requires
tell_rounds-requires g c =
    let s = c.args.script.now in
    let m = c.requires in
    record {
      script = m.script;
      room = subst (λ (n : ℕ). actor_count s ≤ n) (sym c.tell_turns.ensures.actors) m.room;
      world = run s m.world s.turns;
      told = (c.in_ok-tell_turns.ensures.told m.world m.told (nothing_known s m.world c.none-resting.result c.none-resting.ensures)).0.told;
    }

pub returns : goal.returns
returns g c =
    let s = c.args.script.now in
    record {
      told = on_ok_weaker c.tell_rounds.result
          (λ ends opens empty. (let turns = c.in_ok-tell_turns.ensures.told (open_world s) opens (nothing_known s (open_world s) c.none-resting.result c.none-resting.ensures) in
          let end = ends (run s (open_world s) s.turns) turns.0.told turns.1 in
          walk_told s g.N.Listener.has c.tell_turns.new.self c.tell_rounds.new.self c.args.listener.now c.tell_turns.new.listener c.tell_rounds.new.listener end.0 turns.0 end.1 end.2 empty))
          c.tell_rounds.ensures.told;
      actors = c.tell_rounds.ensures.actors ∙ c.tell_turns.ensures.actors;
    }

pub returns-in_err-tell_turns : goal.returns-in_err-tell_turns
returns-in_err-tell_turns g c = record { told = search rules; actors = c.tell_turns.ensures.actors }
