-- The depot's landing and the Insert are together the plain world's step.
use Rattle.std.proofs.Common.{rules, arith, sym, subst}
use Rattle.co_core.specs.Stored.{Stored}
use Rattle.co_core.specs.Written.{Written, noted, with_lists}
use Rattle.co_core.specs.Stands.{StandsFor}
use Rattle.co_world.specs.Step.{step}
use Rattle.co_core.proofs.calls.Landing.{cpu_there, cpu_below, may_land, stands_landed}
use Rattle.co_core.proofs.written.Notes.{acted, may_write}
use Rattle.co_core.proofs.engine.Engine.land.Goals as goal

pub land-at-requires-clause-cpu : goal.land-at-requires-clause-cpu
land-at-requires-clause-cpu g c =
    let m = c.requires.may in
    cpu_there c.args.script.now c.requires.may.script (with_lists c.args.self.now.ledger m.lists) c.args.self.now.depot m.world m.held c.args.actor c.args.parcel.now m.due

pub land-at-requires-clause-may : goal.land-at-requires-clause-may
land-at-requires-clause-may g c =
    let m = c.requires.may in
    may_land c.args.script.now c.requires.may.script (with_lists c.args.self.now.ledger m.lists) c.args.self.now.depot m.world m.held c.args.actor c.args.parcel.now m.due

pub write_landing-requires-clause-may : goal.write_landing-requires-clause-may
write_landing-requires-clause-may g c =
    let m = c.requires.may in record {
      may = may_write c.args.script.now c.args.self.now c.args.actor _ c.requires.may;
      known = cpu_below c.args.script.now c.requires.may.script (with_lists c.args.self.now.ledger m.lists) c.args.self.now.depot m.world m.held c.args.actor c.args.parcel.now m.due;
    }

pub returns : goal.returns
returns g c =
    let s = c.args.script.now in
    let a = c.args.actor in
    let landed = c.land-at.ensures in
    let one = c.in_ok-write_landing.ensures.made in
    record {
      acted = acted s g.N.Listener.has g.N.Listener.room c.args.self.now a _ c.land-at.new.self one.notes 1 c.write_landing.new.self c.args.listener.now c.write_landing.new.listener one.wrote one.one (omega arith) (λ lists w held due.
          (let ledger : Written = with_lists c.args.self.now.ledger lists in
          let ledger' : Written = with_lists c.write_landing.new.self (noted lists a one.notes) in
          subst (λ (d : Stored). StandsFor s ledger' d (step s w a)) (sym landed.4)
          (stands_landed s c.requires.may.script ledger c.args.self.now.depot w held a c.args.parcel.now due landed.0 landed.1 c.land-at.result landed.2 landed.3 ledger' (λ queue. one.written queue lists w held.written))));
      listens = search rules;
    }
