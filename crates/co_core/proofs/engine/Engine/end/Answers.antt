-- The depot's end, its entry and the Free are together the plain world's step.
use Rattle.std.proofs.Common.{rules, ◌≡◌, ℕ, ◌<◌, Bool, true, false, List, slice_index_or, ◌++◌, sym, ap, ◌∙◌, subst, length, length-append, Some, arith}
use Rattle.std.specs.Prelude.{is_some}
use Rattle.co_object.specs.declared.spec.LockUse.TheVariants.{Free}
use Rattle.co_object.specs.declared.spec.Spec.{Spec}
use Rattle.co_object.specs.declared.op.Op.TheVariants.{Run}
use Rattle.co_object.specs.declared.op.RunOp.TheVariants.{End}
use Rattle.co_object.specs.declared.queue.QOp.{QOp}
use Rattle.co_object.specs.declared.queue.QReply.TheVariants.{Freed}
use Rattle.co_object.specs.Entries.{is_armed}
use Rattle.co_object.specs.Queue.{Queue as TimerQueue}
use Rattle.co_program.specs.Action.{spec_at}
use Rattle.co_wheel.specs.Service.{end_here}
use Rattle.co_wheel.specs.Turns.{free_of}
use Rattle.co_world.specs.World.{World}
use Rattle.co_core.specs.Stored.{Stored, IsEnded, wheel_at}
use Rattle.co_core.specs.Written.{Written, noted, with_lists}
use Rattle.co_object.specs.declared.note.Note.{Note}
use Rattle.co_core.specs.Stands.{StandsFor, ShowsWritten}
use Rattle.co_world.specs.Step.{callout_answers, queue_answers, step}
use Rattle.co_world.proofs.kept.Invariant.{states_of}
use Rattle.co_core.proofs.services.Ends.{end_there, end_known, end_empty, ends_here, end_unarmed, stands_ended}
use Rattle.co_core.proofs.written.Notes.{acted, may_go_on, may_write, noted_more, then_written}
use Rattle.co_core.proofs.engine.Engine.end.Goals as goal

-- the lane of the callout, as it was read
abbrev lane_of : List Spec → ℕ → Bool
lane_of timers i = (slice_index_or timers i (record { lock = Free; returns_unlocked = false; direct = false })).direct

pub bounds-as_slice-i : goal.bounds-as_slice-i
bounds-as_slice-i g c =
    let m = c.requires.may in
    let below = end_known c.args.script.now c.requires.may.script (with_lists c.args.self.now.ledger m.lists) c.args.self.now.depot m.world m.held c.args.author.actor c.args.author.act c.args.i c.args.n c.args.cpu m.due in
    subst (λ (timers : List Spec). c.args.i < length timers) (sym c.as_slice.ensures) below

pub end-reply-requires-clause-may : goal.end-reply-requires-clause-may
end-reply-requires-clause-may g c =
    let m = c.requires.may in
    let long = m.held.stored.bags_long in
    let below = m.due.may in record {
      cpu = end_there c.args.script.now c.requires.may.script (with_lists c.args.self.now.ledger m.lists) c.args.self.now.depot m.world m.held c.args.author.actor c.args.author.act c.args.i c.args.n c.args.cpu m.due;
      actor = omega (arith, long, below);
      empty = end_empty c.args.script.now c.requires.may.script (with_lists c.args.self.now.ledger m.lists) c.args.self.now.depot m.world m.held c.args.author.actor c.args.author.act c.args.i c.args.n c.args.cpu m.due;
    }

pub end-reply-requires-clause-possible : goal.end-reply-requires-clause-possible
end-reply-requires-clause-possible g c =
    let m = c.requires.may in
    ap (λ (timers : List Spec). is_some (end_here (lane_of timers c.args.i) (wheel_at c.args.self.now.depot c.args.cpu).callouts)) c.as_slice.ensures
    ∙ ends_here c.args.script.now c.requires.may.script (with_lists c.args.self.now.ledger m.lists) c.args.self.now.depot m.world m.held c.args.author.actor c.args.author.act c.args.i c.args.n c.args.cpu m.due

pub write_callout-requires-clause-may : goal.write_callout-requires-clause-may
write_callout-requires-clause-may g c = may_write c.args.script.now c.args.self.now c.args.author.actor _ c.requires.may

pub write_callout-requires-clause-known : goal.write_callout-requires-clause-known
write_callout-requires-clause-known g c =
    let m = c.requires.may in
    end_known c.args.script.now c.requires.may.script (with_lists c.args.self.now.ledger m.lists) c.args.self.now.depot m.world m.held c.args.author.actor c.args.author.act c.args.i c.args.n c.args.cpu m.due

pub write_queue-requires-clause-may : goal.write_queue-requires-clause-may
write_queue-requires-clause-may g c =
    let m = c.requires.may in
    let a = c.args.author.actor in
    let s = c.args.script.now in
    let i = c.args.i in
    let ledger : Written = with_lists c.args.self.now.ledger m.lists in
    let out = c.end-reply.ensures in
    let reply = c.end-reply.result in
    let one = c.in_ok-write_callout.ensures.made in
    let lane : lane_of c.as_slice.result.now i ≡ (spec_at s i).direct = ap (λ (timers : List Spec). lane_of timers i) c.as_slice.ensures in
    let ended = subst (λ (direct : Bool). IsEnded direct (wheel_at c.args.self.now.depot c.args.cpu) reply out.1 out.0) lane out.2 in
    let none : is_armed reply ≡ false = end_unarmed s c.requires.may.script ledger c.args.self.now.depot m.world m.held a c.args.author.act i c.args.n c.args.cpu m.due reply out.1 out.0 ended in
    let there = end_there s c.requires.may.script ledger c.args.self.now.depot m.world m.held a c.args.author.act i c.args.n c.args.cpu m.due in
    let long = m.held.stored.wheels_long in record {
      may =
          may_go_on s c.args.self.now a _ 1 c.write_callout.new.self (noted m.lists a one.notes) (callout_answers s m.world a c.args.author.act i (Run (End c.args.n c.args.cpu)) (Some (states_of m.world i, reply))) m (omega (arith, one.wrote.made, one.one)) (omega arith)
          (one.written (states_of m.world i) (λ e. absurd (let clash : true ≡ false = sym e ∙ none in cc)) m.lists m.world m.held.written);
      known = omega (arith, there, long);
    }

pub returns : goal.returns
returns g c =
    let a = c.args.author.actor in
    let s = c.args.script.now in
    let i = c.args.i in
    let act = c.args.author.act in
    let cpu = c.args.cpu in
    let has = g.N.Listener.has in
    let room = g.N.Listener.room in
    let one = c.in_ok-write_callout.ensures.made in
    let two = c.in_ok-write_queue.ensures.made in
    let out = c.end-reply.ensures in
    let reply = c.end-reply.result in
    let lane : lane_of c.as_slice.result.now i ≡ (spec_at s i).direct = ap (λ (timers : List Spec). lane_of timers i) c.as_slice.ensures in
    let op_is : c.free_of.result ≡ free_of (spec_at s i).direct = c.free_of.ensures ∙ ap free_of lane in
    let ended = subst (λ (direct : Bool). IsEnded direct (wheel_at c.args.self.now.depot cpu) reply out.1 out.0) lane out.2 in
    record {
      acted = acted s has room c.args.self.now a _ c.end-reply.new.self (one.notes ++ two.notes) 2 c.write_queue.new.self c.args.listener.now c.write_queue.new.listener
          (then_written has room a one.notes two.notes c.args.self.now.ledger c.write_callout.new.self c.write_queue.new.self c.args.listener.now c.write_callout.new.listener c.write_queue.new.listener one.wrote two.wrote)
          (let long = length-append one.notes two.notes in omega (arith, long, one.one, two.one)) (omega arith)
          (λ lists w held due.
          (let ledger : Written = with_lists c.args.self.now.ledger lists in
          let lists1 : List (List Note) = noted lists a one.notes in
          let ledger1 : Written = with_lists c.write_callout.new.self lists1 in
          let ledger2 : Written = with_lists c.write_queue.new.self (noted lists1 a two.notes) in
          let none : is_armed reply ≡ false = end_unarmed s c.requires.may.script ledger c.args.self.now.depot w held a act i c.args.n cpu due reply out.1 out.0 ended in
          let written2 : (queue : TimerQueue) (v : World) → ShowsWritten s ledger1 v → ShowsWritten s ledger2 (queue_answers s v a act cpu (free_of (spec_at s i).direct) (Some (queue, Freed))) =
          subst (λ (op : QOp). (queue : TimerQueue) (v : World) → ShowsWritten s ledger1 v → ShowsWritten s ledger2 (queue_answers s v a act cpu op (Some (queue, Freed)))) op_is
          (λ queue v h. two.written queue lists1 v h) in
          subst (λ (l : List (List Note)). StandsFor s (with_lists c.write_queue.new.self l) c.end-reply.new.self (step s w a)) (noted_more lists a one.notes two.notes)
          (subst (λ (d : Stored). StandsFor s ledger2 d (step s w a)) (sym out.3)
          (stands_ended s c.requires.may.script ledger c.args.self.now.depot w held a act i c.args.n cpu due reply out.1 out.0 ended ledger2
          (λ queue state. written2 queue (callout_answers s w a act i (Run (End c.args.n cpu)) (Some (state, reply))) (one.written state (λ e. absurd (let clash : true ≡ false = sym e ∙ none in cc)) lists w held.written))))));
      listens = search rules;
    }
