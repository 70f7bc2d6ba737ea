-- The step is the plain world's, and its notes are told.
use Rattle.co_core.proofs.walked.Told.{answered, told_so}
use Rattle.co_core.proofs.engine.Engine.tell_step.Goals as goal

pub step-requires-clause-runs : goal.step-requires-clause-runs
step-requires-clause-runs g c = let may = c.requires.may in record { running = record { script = may.script; world = may.world; stands = may.told }; actor = c.requires.actor }

pub returns-clause-told : goal.returns-clause-told
returns-clause-told g c =
    let s = c.args.script.now in record {
      told = told_so s g.N.Listener.has c.args.self.now c.step.new.self c.args.listener.now c.step.new.listener c.args.actor c.requires.actor c.step.result c.step.ensures.stepped;
      actors = c.step.ensures.listens.as_many;
    }

pub returns-clause-turn : goal.returns-clause-turn
returns-clause-turn g c = answered c.args.script.now g.N.Listener.has c.args.self.now c.step.new.self c.args.listener.now c.step.new.listener c.args.actor c.step.result c.step.ensures.stepped
