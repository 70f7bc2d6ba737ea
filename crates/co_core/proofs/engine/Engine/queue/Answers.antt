-- A Remove is made by its call and a Free with its End, and so neither is ever due.
use Rattle.std.proofs.Common.{subst}
use Rattle.co_object.specs.declared.QOp.{QOp}
use Rattle.co_program.specs.Action.{Asks}
use Rattle.co_program.specs.declared.Asked.TheVariants.{Queue}
use Rattle.co_core.specs.Acting.{IsDue, MayDo}
use Rattle.co_core.specs.Written.{with_lists}
use Rattle.co_core.proofs.steps.Undue.{never_removes, never_frees, never_frees_direct}
use Rattle.co_core.proofs.engine.Engine.queue.Goals as goal

pub unreachable-requires : goal.unreachable-requires
unreachable-requires g c =
    never_removes c.args.script.now c.requires.may.script (with_lists c.args.self.now.ledger c.requires.may.lists) c.args.self.now.depot c.requires.may.world c.requires.may.held c.args.author.actor c.args.author.act c.args.cpu c.in-Remove.i
    (subst (λ (op : QOp). IsDue c.args.script.now c.requires.may.world c.args.author.actor (Asks c.args.author.act (Queue c.args.cpu op))) c.in-Remove.is c.requires.may.due)

pub unreachable-requires-in-Free : goal.unreachable-requires-in-Free
unreachable-requires-in-Free g c =
    never_frees c.args.script.now c.requires.may.script (with_lists c.args.self.now.ledger c.requires.may.lists) c.args.self.now.depot c.requires.may.world c.requires.may.held c.args.author.actor c.args.author.act c.args.cpu
    (subst (λ (op : QOp). IsDue c.args.script.now c.requires.may.world c.args.author.actor (Asks c.args.author.act (Queue c.args.cpu op))) c.in-Free.is c.requires.may.due)

pub unreachable-requires-in-FreeDirect : goal.unreachable-requires-in-FreeDirect
unreachable-requires-in-FreeDirect g c =
    never_frees_direct c.args.script.now c.requires.may.script (with_lists c.args.self.now.ledger c.requires.may.lists) c.args.self.now.depot c.requires.may.world c.requires.may.held c.args.author.actor c.args.author.act c.args.cpu
    (subst (λ (op : QOp). IsDue c.args.script.now c.requires.may.world c.args.author.actor (Asks c.args.author.act (Queue c.args.cpu op))) c.in-FreeDirect.is c.requires.may.due)

pub land-requires : goal.land-requires
land-requires g c =
    subst (λ (op : QOp). MayDo c.args.script.now g.N.Listener.actors c.args.self.now c.args.listener.now c.args.author.actor (Asks c.args.author.act (Queue c.args.cpu op))) c.in-Insert.is c.requires

pub scan-requires : goal.scan-requires
scan-requires g c =
    subst (λ (op : QOp). MayDo c.args.script.now g.N.Listener.actors c.args.self.now c.args.listener.now c.args.author.actor (Asks c.args.author.act (Queue c.args.cpu op))) c.in-Scan.is c.requires

pub next-requires : goal.next-requires
next-requires g c =
    subst (λ (op : QOp). MayDo c.args.script.now g.N.Listener.actors c.args.self.now c.args.listener.now c.args.author.actor (Asks c.args.author.act (Queue c.args.cpu op))) c.in-Pop.is c.requires

pub next-requires-in-PopDirect : goal.next-requires-in-PopDirect
next-requires-in-PopDirect g c =
    subst (λ (op : QOp). MayDo c.args.script.now g.N.Listener.actors c.args.self.now c.args.listener.now c.args.author.actor (Asks c.args.author.act (Queue c.args.cpu op))) c.in-PopDirect.is c.requires

pub returns-in-Insert : goal.returns-in-Insert
returns-in-Insert g c = rw c.in-Insert.is c.land.ensures

pub returns-in-Scan : goal.returns-in-Scan
returns-in-Scan g c = rw c.in-Scan.is c.scan.ensures

pub returns-in-Pop : goal.returns-in-Pop
returns-in-Pop g c = rw c.in-Pop.is c.next.ensures

pub returns-in-PopDirect : goal.returns-in-PopDirect
returns-in-PopDirect g c = rw c.in-PopDirect.is c.next-in-PopDirect.ensures
