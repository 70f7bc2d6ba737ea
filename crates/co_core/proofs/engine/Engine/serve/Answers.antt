-- A Pick is made with its Pop, and so never due.
use Rattle.std.proofs.Common.{subst}
use Rattle.co_object.specs.declared.Op.TheVariants.{Run}
use Rattle.co_object.specs.declared.RunOp.{RunOp}
use Rattle.co_program.specs.Action.{Asks}
use Rattle.co_program.specs.declared.Asked.TheVariants.{Callout}
use Rattle.co_core.specs.Acting.{IsDue, MayDo}
use Rattle.co_core.specs.Written.{with_lists}
use Rattle.co_core.proofs.steps.Undue.{never_picks}
use Rattle.co_core.proofs.engine.Engine.serve.Goals as goal

pub unreachable-requires : goal.unreachable-requires
unreachable-requires g c =
    never_picks c.args.script.now c.requires.may.script (with_lists c.args.self.now.ledger c.requires.may.lists) c.args.self.now.depot c.requires.may.world c.requires.may.held c.args.author.actor c.args.author.act c.args.i c.in-Pick.n c.in-Pick.cpu c.in-Pick.at
    (subst (λ (op : RunOp). IsDue c.args.script.now c.requires.may.world c.args.author.actor (Asks c.args.author.act (Callout c.args.i (Run op)))) c.in-Pick.is c.requires.may.due)

pub begin-requires : goal.begin-requires
begin-requires g c =
    subst (λ (op : RunOp). MayDo c.args.script.now g.N.Listener.actors c.args.self.now c.args.listener.now c.args.author.actor (Asks c.args.author.act (Callout c.args.i (Run op)))) c.in-Begin.is c.requires

pub end-requires : goal.end-requires
end-requires g c =
    subst (λ (op : RunOp). MayDo c.args.script.now g.N.Listener.actors c.args.self.now c.args.listener.now c.args.author.actor (Asks c.args.author.act (Callout c.args.i (Run op)))) c.in-End.is c.requires

pub returns-in-Begin : goal.returns-in-Begin
returns-in-Begin g c = rw c.in-Begin.is c.begin.ensures

pub returns-in-End : goal.returns-in-End
returns-in-End g c = rw c.in-End.is c.end.ensures
