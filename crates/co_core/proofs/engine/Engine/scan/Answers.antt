-- The depot's scan and its entry are together the plain world's step.
use Rattle.std.proofs.Common.{rules, arith, sym, subst}
use Rattle.co_core.specs.Stored.{Stored}
use Rattle.co_core.specs.Written.{Written, noted, with_lists}
use Rattle.co_core.specs.Stands.{StandsFor}
use Rattle.co_world.specs.Step.{step}
use Rattle.co_core.proofs.services.Queues.{scan_there, scan_below, stands_scanned}
use Rattle.co_core.proofs.written.Notes.{acted, may_write}
use Rattle.co_core.proofs.engine.Engine.scan.Goals as goal

pub scan-count-requires : goal.scan-count-requires
scan-count-requires g c =
    let m = c.requires.may in
    scan_there c.args.script.now c.requires.may.script (with_lists c.args.self.now.ledger m.lists) c.args.self.now.depot m.world m.held c.args.author.actor c.args.author.act c.args.cpu c.args.now m.due

pub write_queue-requires-clause-may : goal.write_queue-requires-clause-may
write_queue-requires-clause-may g c =
    let m = c.requires.may in record {
      may = may_write c.args.script.now c.args.self.now c.args.author.actor _ c.requires.may;
      known = scan_below c.args.script.now c.requires.may.script (with_lists c.args.self.now.ledger m.lists) c.args.self.now.depot m.world m.held c.args.author.actor c.args.author.act c.args.cpu c.args.now m.due;
    }

pub returns : goal.returns
returns g c =
    let s = c.args.script.now in
    let a = c.args.author.actor in
    let scanned = c.scan-count.ensures in
    let one = c.in_ok-write_queue.ensures.made in
    record {
      acted = acted s g.N.Listener.has g.N.Listener.room c.args.self.now a _ c.scan-count.new.self one.notes 1 c.write_queue.new.self c.args.listener.now c.write_queue.new.listener one.wrote one.one (omega arith) (λ lists w held due.
          (let ledger : Written = with_lists c.args.self.now.ledger lists in
          let ledger' : Written = with_lists c.write_queue.new.self (noted lists a one.notes) in
          subst (λ (d : Stored). StandsFor s ledger' d (step s w a)) (sym scanned.2)
          (stands_scanned s c.requires.may.script ledger c.args.self.now.depot w held a c.args.author.act c.args.cpu c.args.now due c.scan-count.result scanned.0 scanned.1 ledger' (λ queue. one.written queue lists w held.written))));
      listens = search rules;
    }
