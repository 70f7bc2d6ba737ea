use Rattle.std.proofs.Common.{rules, arith}
use Rattle.co_core.specs.Written.{noted, with_lists}
use Rattle.co_core.proofs.steps.Silent.{stands_own}
use Rattle.co_core.proofs.written.Notes.{acted, may_write}
use Rattle.co_core.proofs.engine.Engine.own.Goals as goal

pub write_own-requires-clause-may : goal.write_own-requires-clause-may
write_own-requires-clause-may g c = may_write c.args.script.now c.args.self.now c.args.author.actor _ c.requires.may

pub returns : goal.returns
returns g c =
    let a = c.args.author.actor in
    let one = c.in_ok-write_own.ensures.made in
    record {
      acted = acted c.args.script.now g.N.Listener.has g.N.Listener.room c.args.self.now a _ c.args.self.now.depot one.notes 1 c.write_own.new.self c.args.listener.now c.write_own.new.listener one.wrote one.one (omega arith) (λ lists w held due.
          stands_own c.args.script.now (with_lists c.args.self.now.ledger lists) (with_lists c.write_own.new.self (noted lists a one.notes)) c.args.self.now.depot w a c.args.author.act c.args.kind held due (one.written lists w held.written));
      listens = search rules;
    }
