-- The depot's next, the Pop and, where a callout has come due, its Pick are together the plain world's step.
use Rattle.std.proofs.Common.{rules, arith, ◌≡◌, true, false, List, ◌++◌, sym, ap, ◌∙◌, subst, length-append, Some}
use Rattle.co_object.specs.Entries.{is_armed}
use Rattle.co_object.specs.declared.op.Op.TheVariants.{Run}
use Rattle.co_object.specs.declared.op.RunOp.TheVariants.{Pick}
use Rattle.co_object.specs.declared.queue.QOp.{QOp}
use Rattle.co_object.specs.declared.queue.QReply.TheVariants.{Got, Empty}
use Rattle.co_object.specs.declared.reply.Reply.{Reply}
use Rattle.co_object.specs.Queue.{Queue as TimerQueue}
use Rattle.co_wheel.specs.Turns.{pop_of}
use Rattle.co_world.specs.World.{World}
use Rattle.co_core.specs.Stored.{Stored}
use Rattle.co_core.specs.Written.{Written, noted, with_lists}
use Rattle.co_object.specs.declared.note.Note.{Note}
use Rattle.co_core.specs.Stands.{StandsFor, ShowsWritten}
use Rattle.co_world.specs.Step.{callout_answers, queue_answers, step}
use Rattle.co_world.proofs.kept.Invariant.{queues_of}
use Rattle.co_core.proofs.services.Picks.{pop_there, pop_below, lane_free, pick_known, unarmed, stands_none, stands_picked}
use Rattle.co_core.proofs.written.Notes.{acted, may_go_on, may_write, noted_more, then_written}
use Rattle.co_core.proofs.engine.Engine.next.Goals as goal

pub next-requires-clause-cpu : goal.next-requires-clause-cpu
next-requires-clause-cpu g c =
    let m = c.requires.may in
    pop_there c.args.script.now c.requires.may.script (with_lists c.args.self.now.ledger m.lists) c.args.self.now.depot m.world m.held c.args.author.actor c.args.author.act c.args.cpu c.args.direct m.due

pub next-requires-clause-free : goal.next-requires-clause-free
next-requires-clause-free g c =
    let m = c.requires.may in
    lane_free c.args.script.now c.requires.may.script (with_lists c.args.self.now.ledger m.lists) c.args.self.now.depot m.world m.held c.args.author.actor c.args.author.act c.args.cpu c.args.direct m.due

pub write_queue-requires-clause-may : goal.write_queue-requires-clause-may
write_queue-requires-clause-may g c =
    let m = c.requires.may in record {
      may = may_write c.args.script.now c.args.self.now c.args.author.actor _ c.requires.may;
      known = pop_below c.args.script.now c.requires.may.script (with_lists c.args.self.now.ledger m.lists) c.args.self.now.depot m.world m.held c.args.author.actor c.args.author.act c.args.cpu c.args.direct m.due;
    }

pub write_queue-requires-in-Some-clause-may : goal.write_queue-requires-in-Some-clause-may
write_queue-requires-in-Some-clause-may g c =
    let m = c.requires.may in record {
      may = may_write c.args.script.now c.args.self.now c.args.author.actor _ c.requires.may;
      known = pop_below c.args.script.now c.requires.may.script (with_lists c.args.self.now.ledger m.lists) c.args.self.now.depot m.world m.held c.args.author.actor c.args.author.act c.args.cpu c.args.direct m.due;
    }

pub write_callout-requires-clause-may : goal.write_callout-requires-clause-may
write_callout-requires-clause-may g c =
    let m = c.requires.may in
    let a = c.args.author.actor in
    let one = c.in_ok-write_queue-in-Some.ensures.made in
    may_go_on c.args.script.now c.args.self.now a _ 1 c.write_queue-in-Some.new.self (noted m.lists a one.notes)
    (queue_answers c.args.script.now m.world a c.args.author.act c.args.cpu c.pop_of-op.result (Some (queues_of m.world c.args.cpu, Got c.in-Some.started.i c.in-Some.started.n c.in-Some.started.at))) m (omega (arith, one.wrote.made, one.one)) (omega arith)
    (one.written (queues_of m.world c.args.cpu) m.lists m.world m.held.written)

pub write_callout-requires-clause-known : goal.write_callout-requires-clause-known
write_callout-requires-clause-known g c =
    let m = c.requires.may in
    let next = c.in-Some.ensures in
    pick_known c.args.script.now c.requires.may.script (with_lists c.args.self.now.ledger m.lists) c.args.self.now.depot m.world m.held c.args.author.actor c.args.author.act c.args.cpu c.args.direct m.due c.in-Some.started.i c.in-Some.started.n c.in-Some.started.at c.in-Some.started.reply next.0 next.1

pub returns-in_ok-write_queue-in-None : goal.returns-in_ok-write_queue-in-None
returns-in_ok-write_queue-in-None g c =
    let a = c.args.author.actor in
    let s = c.args.script.now in
    let next = c.in-None.ensures in
    let one = c.in_ok-write_queue-in-None.ensures.made in
    record {
      acted = acted s g.N.Listener.has g.N.Listener.room c.args.self.now a _ c.next.new.self one.notes 1 c.write_queue.new.self c.args.listener.now c.write_queue.new.listener one.wrote one.one (omega arith) (λ lists w held due.
          (let ledger : Written = with_lists c.args.self.now.ledger lists in
          let ledger' : Written = with_lists c.write_queue.new.self (noted lists a one.notes) in
          let written : (queue : TimerQueue) (v : World) → ShowsWritten s ledger v → ShowsWritten s ledger' (queue_answers s v a c.args.author.act c.args.cpu (pop_of c.args.direct) (Some (queue, Empty))) =
          subst (λ (o : QOp). (queue : TimerQueue) (v : World) → ShowsWritten s ledger v → ShowsWritten s ledger' (queue_answers s v a c.args.author.act c.args.cpu o (Some (queue, Empty)))) c.pop_of-op.ensures (λ queue v h. one.written queue lists v h) in
          subst (λ (d : Stored). StandsFor s ledger' d (step s w a)) (sym next.2)
          (stands_none s c.requires.may.script ledger c.args.self.now.depot w held a c.args.author.act c.args.cpu c.args.direct due next.0 next.1 ledger' (λ queue. written queue w held.written))));
      listens = search rules;
    }

pub returns-in_ok-write_callout-in-Some : goal.returns-in_ok-write_callout-in-Some
returns-in_ok-write_callout-in-Some g c =
    let a = c.args.author.actor in
    let s = c.args.script.now in
    let act = c.args.author.act in
    let cpu = c.args.cpu in
    let i = c.in-Some.started.i in
    let n = c.in-Some.started.n in
    let at = c.in-Some.started.at in
    let reply = c.in-Some.started.reply in
    let has = g.N.Listener.has in
    let room = g.N.Listener.room in
    let one = c.in_ok-write_queue-in-Some.ensures.made in
    let two = c.in_ok-write_callout-in-Some.ensures.made in
    let next = c.in-Some.ensures in
    record {
      acted = acted s has room c.args.self.now a _ c.next.new.self (one.notes ++ two.notes) 2 c.write_callout.new.self c.args.listener.now c.write_callout.new.listener
          (then_written has room a one.notes two.notes c.args.self.now.ledger c.write_queue-in-Some.new.self c.write_callout.new.self c.args.listener.now c.write_queue-in-Some.new.listener c.write_callout.new.listener one.wrote two.wrote)
          (let long = length-append one.notes two.notes in omega (arith, long, one.one, two.one)) (omega arith)
          (λ lists w held due.
          (let ledger : Written = with_lists c.args.self.now.ledger lists in
          let lists1 : List (List Note) = noted lists a one.notes in
          let ledger1 : Written = with_lists c.write_queue-in-Some.new.self lists1 in
          let ledger2 : Written = with_lists c.write_callout.new.self (noted lists1 a two.notes) in
          let written1 : (queue : TimerQueue) (v : World) → ShowsWritten s ledger v → ShowsWritten s ledger1 (queue_answers s v a act cpu (pop_of c.args.direct) (Some (queue, Got i n at))) =
          subst (λ (o : QOp). (queue : TimerQueue) (v : World) → ShowsWritten s ledger v → ShowsWritten s ledger1 (queue_answers s v a act cpu o (Some (queue, Got i n at)))) c.pop_of-op.ensures (λ queue v h. one.written queue lists v h) in
          let none : is_armed reply ≡ false = unarmed s c.requires.may.script ledger c.args.self.now.depot w held a act cpu c.args.direct due i n at reply next.0 next.1 in
          subst (λ (l : List (List Note)). StandsFor s (with_lists c.write_callout.new.self l) c.next.new.self (step s w a)) (noted_more lists a one.notes two.notes)
          (subst (λ (d : Stored). StandsFor s ledger2 d (step s w a)) (sym next.2)
          (stands_picked s c.requires.may.script ledger c.args.self.now.depot w held a act cpu c.args.direct due i n at reply next.0 next.1 ledger2
          (λ queue state.
          subst (λ (r : Reply). ShowsWritten s ledger2 (callout_answers s (queue_answers s w a act cpu (pop_of c.args.direct) (Some (queue, Got i n at))) a act i (Run (Pick n cpu at)) (Some (state, r)))) c.reply-reply.ensures
          (two.written state (λ e. absurd (let clash : true ≡ false = sym e ∙ ap is_armed c.reply-reply.ensures ∙ none in cc)) lists1 (queue_answers s w a act cpu (pop_of c.args.direct) (Some (queue, Got i n at))) (written1 queue w held.written)))))));
      listens = search rules;
    }
