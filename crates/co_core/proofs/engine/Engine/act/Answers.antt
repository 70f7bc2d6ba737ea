-- Each action is one section's.
use Rattle.std.proofs.Common.{rules, subst, sym}
use Rattle.co_program.specs.declared.action.Action.{Action}
use Rattle.co_program.specs.Indexed.{action_of}
use Rattle.co_core.specs.Acting.{MayDo, StandsWith}
use Rattle.co_core.specs.Written.{booked_at}
use Rattle.co_world.specs.World.{World}
use Rattle.co_core.proofs.steps.Idle.{ends}
use Rattle.co_core.proofs.written.Notes.{silent}
use Rattle.co_core.proofs.engine.Engine.act.Goals as goal

pub ask-requires : goal.ask-requires
ask-requires g c =
    let s = c.args.script.now in
    let a = c.args.actor in
    subst (λ (x : Action). MayDo s g.N.Listener.actors c.args.self.now c.args.listener.now a (action_of s a (booked_at c.args.self.now.ledger a) x)) c.in-Asks.is c.requires.may

pub returns-in-Silent : goal.returns-in-Silent
returns-in-Silent g c = record { acted = rw c.in-Silent.is (silent c.args.script.now g.N.Listener.has c.args.actor _ c.args.self.now c.go.new.self c.args.listener.now c.go.ensures.silent); listens = search rules }

pub returns-in-Take : goal.returns-in-Take
returns-in-Take g c = record { acted = rw c.in-Take.is (silent c.args.script.now g.N.Listener.has c.args.actor _ c.args.self.now c.go-in-Take.new.self c.args.listener.now (c.go-in-Take.ensures.take c.in-Take.held)); listens = search rules }

pub returns-in-Asks : goal.returns-in-Asks
returns-in-Asks g c = rw c.in-Asks.is c.ask.ensures

pub returns-in-Nothing : goal.returns-in-Nothing
returns-in-Nothing g c =
    let s = c.args.script.now in
    let a = c.args.actor in
    record {
      acted = silent s g.N.Listener.has a _ c.args.self.now c.args.self.now c.args.listener.now (λ lists w held due.
          subst (λ (v : World). StandsWith s c.args.self.now lists v) (sym (ends s w a (booked_at c.args.self.now.ledger a) c.args.action.now c.in-Nothing.is due.due due.free).0) held);
      listens = search rules;
    }
