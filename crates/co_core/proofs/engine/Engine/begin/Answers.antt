-- The depot's begin and its entry are together the plain world's step.
use Rattle.std.proofs.Common.{rules, arith, ◌≡◌, true, false, sym, ◌∙◌, subst}
use Rattle.co_object.specs.Entries.{is_armed}
use Rattle.co_core.specs.Stored.{Stored}
use Rattle.co_core.specs.Written.{Written, noted, with_lists}
use Rattle.co_core.specs.Stands.{StandsFor}
use Rattle.co_world.specs.Step.{step}
use Rattle.co_core.proofs.services.Begins.{begin_there, begin_known, begins_here, begin_unarmed, stands_begun}
use Rattle.co_core.proofs.written.Notes.{acted, may_write}
use Rattle.co_core.proofs.engine.Engine.begin.Goals as goal

pub begin-reply-requires-clause-cpu : goal.begin-reply-requires-clause-cpu
begin-reply-requires-clause-cpu g c =
    let m = c.requires.may in
    begin_there c.args.script.now c.requires.may.script (with_lists c.args.self.now.ledger m.lists) c.args.self.now.depot m.world m.held c.args.author.actor c.args.author.act c.args.i c.args.n c.args.cpu m.due

pub begin-reply-requires-clause-possible : goal.begin-reply-requires-clause-possible
begin-reply-requires-clause-possible g c =
    let m = c.requires.may in
    begins_here c.args.script.now c.requires.may.script (with_lists c.args.self.now.ledger m.lists) c.args.self.now.depot m.world m.held c.args.author.actor c.args.author.act c.args.i c.args.n c.args.cpu m.due

pub write_callout-requires-clause-may : goal.write_callout-requires-clause-may
write_callout-requires-clause-may g c = may_write c.args.script.now c.args.self.now c.args.author.actor _ c.requires.may

pub write_callout-requires-clause-known : goal.write_callout-requires-clause-known
write_callout-requires-clause-known g c =
    let m = c.requires.may in
    begin_known c.args.script.now c.requires.may.script (with_lists c.args.self.now.ledger m.lists) c.args.self.now.depot m.world m.held c.args.author.actor c.args.author.act c.args.i c.args.n c.args.cpu m.due

pub returns : goal.returns
returns g c =
    let s = c.args.script.now in
    let a = c.args.author.actor in
    let begun = c.begin-reply.ensures in
    let reply = c.begin-reply.result in
    let one = c.in_ok-write_callout.ensures.made in
    record {
      acted = acted s g.N.Listener.has g.N.Listener.room c.args.self.now a _ c.begin-reply.new.self one.notes 1 c.write_callout.new.self c.args.listener.now c.write_callout.new.listener one.wrote one.one (omega arith) (λ lists w held due.
          (let ledger : Written = with_lists c.args.self.now.ledger lists in
          let ledger' : Written = with_lists c.write_callout.new.self (noted lists a one.notes) in
          let none : is_armed reply ≡ false = begin_unarmed s c.requires.may.script ledger c.args.self.now.depot w held a c.args.author.act c.args.i c.args.n c.args.cpu due reply begun.0 begun.1 in
          subst (λ (d : Stored). StandsFor s ledger' d (step s w a)) (sym begun.2)
          (stands_begun s c.requires.may.script ledger c.args.self.now.depot w held a c.args.author.act c.args.i c.args.n c.args.cpu due reply begun.0 begun.1 ledger'
          (λ state. one.written state (λ e. absurd (let clash : true ≡ false = sym e ∙ none in cc)) lists w held.written))));
      listens = search rules;
    }
