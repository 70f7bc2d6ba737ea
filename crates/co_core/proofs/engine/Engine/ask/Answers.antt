-- What is asked is what the arm asks.
use Rattle.std.proofs.Common.{subst}
use Rattle.co_object.specs.declared.Op.{Op}
use Rattle.co_program.specs.Action.{Asks}
use Rattle.co_program.specs.declared.Asked.{Asked}
use Rattle.co_program.specs.declared.Asked.TheVariants.{Callout}
use Rattle.co_core.specs.Acting.{MayDo}
use Rattle.co_core.proofs.engine.Engine.ask.Goals as goal

pub call-requires-clause-may : goal.call-requires-clause-may
call-requires-clause-may g c =
    let may = subst (λ (a : Asked). MayDo c.args.script.now g.N.Listener.actors c.args.self.now c.args.listener.now c.args.author.actor (Asks c.args.author.act a)) c.in-Callout.is c.requires in
    subst (λ (op : Op). MayDo c.args.script.now g.N.Listener.actors c.args.self.now c.args.listener.now c.args.author.actor (Asks c.args.author.act (Callout c.in-Callout.i op))) c.in-Call.is may

pub serve-requires : goal.serve-requires
serve-requires g c =
    let may = subst (λ (a : Asked). MayDo c.args.script.now g.N.Listener.actors c.args.self.now c.args.listener.now c.args.author.actor (Asks c.args.author.act a)) c.in-Callout.is c.requires in
    subst (λ (op : Op). MayDo c.args.script.now g.N.Listener.actors c.args.self.now c.args.listener.now c.args.author.actor (Asks c.args.author.act (Callout c.in-Callout.i op))) c.in-Run.is may

pub queue-requires : goal.queue-requires
queue-requires g c =
    subst (λ (a : Asked). MayDo c.args.script.now g.N.Listener.actors c.args.self.now c.args.listener.now c.args.author.actor (Asks c.args.author.act a)) c.in-Queue.is c.requires

pub own-requires : goal.own-requires
own-requires g c =
    subst (λ (a : Asked). MayDo c.args.script.now g.N.Listener.actors c.args.self.now c.args.listener.now c.args.author.actor (Asks c.args.author.act a)) c.in-Itself.is c.requires

pub returns-in-Call : goal.returns-in-Call
returns-in-Call g c = rw (c.in-Callout.is, c.in-Call.is) c.call.ensures

pub returns-in-Run : goal.returns-in-Run
returns-in-Run g c = rw (c.in-Callout.is, c.in-Run.is) c.serve.ensures

pub returns-in-Queue : goal.returns-in-Queue
returns-in-Queue g c = rw c.in-Queue.is c.queue.ensures

pub returns-in-Itself : goal.returns-in-Itself
returns-in-Itself g c = rw c.in-Itself.is c.own.ensures
