-- The depot's call, the Remove before its entry, the entry and the Insert after it are together the plain world's step.
use Rattle.std.proofs.Common.{rules, arith, ◌≡◌, ℕ, ◌+◌, List, ◌++◌, sym, ap, ◌∙◌, subst, length-append}
use Rattle.std.specs.Prelude.{Some}
use Rattle.co_object.specs.declared.note.Note.{Note}
use Rattle.co_object.specs.declared.op.CallOp.{CallOp}
use Rattle.co_object.specs.declared.op.Op.{Op}
use Rattle.co_object.specs.declared.op.Op.TheVariants.{Call as ByCaller}
use Rattle.co_object.specs.declared.reply.Reply.{Reply}
use Rattle.co_object.specs.declared.state.State.{State}
use Rattle.co_program.specs.declared.script.Script.{Script}
use Rattle.co_world.specs.Step.{callout_answers, step}
use Rattle.co_world.specs.World.{World}
use Rattle.co_core.specs.Stored.{Stored}
use Rattle.co_core.specs.Written.{Written, noted, with_lists}
use Rattle.co_core.specs.Stands.{ShowsWritten, StandsFor}
use Rattle.co_core.proofs.calls.Whole.{known, stand_there, cpu_there, cpu_below, here, bag_empty, first_world, second_world, parcel_there, stands_called}
use Rattle.co_core.proofs.written.Notes.{acted, may_go_on, may_write, noted_more, nothing_noted, then_written}
use Rattle.co_core.proofs.engine.Engine.call.Goals as goal

-- the operation as it stands is the call's
whole_is : (s : Script) (x : Written) (v : World) (a act i : ℕ) (op : CallOp) (whole : Op) (out : State × Reply) → whole ≡ ByCaller op
    → ShowsWritten s x (callout_answers s v a act i whole (Some out)) → ShowsWritten s x (callout_answers s v a act i (ByCaller op) (Some out))
whole_is s x v a act i op whole out is h = subst (λ (o : Op). ShowsWritten s x (callout_answers s v a act i o (Some out))) is h

pub stand-cpu-requires : goal.stand-cpu-requires
stand-cpu-requires g c = let m = c.requires.may.may in stand_there c.args.script.now m.script (with_lists c.args.self.now.ledger m.lists) c.args.self.now.depot m.world m.held c.args.author.actor c.args.author.act c.args.i c.args.op.now m.due

pub call-listed-requires-clause-may : goal.call-listed-requires-clause-may
call-listed-requires-clause-may g c =
    let m = c.requires.may.may in
    let long = m.held.stored.bags_long in
    let below = m.due.may in record {
      cpu = cpu_there c.args.script.now m.script (with_lists c.args.self.now.ledger m.lists) c.args.self.now.depot m.world m.held c.args.author.actor c.args.author.act c.args.i c.args.op.now m.due c.stand-cpu.result c.stand-cpu.ensures;
      actor = omega (arith, long, below);
      empty = bag_empty c.args.script.now m.script (with_lists c.args.self.now.ledger m.lists) c.args.self.now.depot m.world m.held c.args.author.actor c.args.author.act c.args.i c.args.op.now m.due;
    }

pub call-listed-requires-clause-here : goal.call-listed-requires-clause-here
call-listed-requires-clause-here g c = let m = c.requires.may.may in here c.args.script.now m.script (with_lists c.args.self.now.ledger m.lists) c.args.self.now.depot m.world m.held c.args.author.actor c.args.author.act c.args.i c.args.op.now m.due c.stand-cpu.result c.stand-cpu.ensures

pub write_removal-requires-clause-may : goal.write_removal-requires-clause-may
write_removal-requires-clause-may g c =
    let m = c.requires.may.may in record {
      may = may_write c.args.script.now c.args.self.now c.args.author.actor _ m;
      known = cpu_below c.args.script.now m.script (with_lists c.args.self.now.ledger m.lists) c.args.self.now.depot m.world m.held c.args.author.actor c.args.author.act c.args.i c.args.op.now m.due c.stand-cpu.result c.stand-cpu.ensures;
    }

pub write_callout-requires-clause-known : goal.write_callout-requires-clause-known
write_callout-requires-clause-known g c = let m = c.requires.may.may in known c.args.script.now m.script (with_lists c.args.self.now.ledger m.lists) c.args.self.now.depot m.world m.held c.args.author.actor c.args.author.act c.args.i c.args.op.now m.due

pub write_callout-requires-clause-may : goal.write_callout-requires-clause-may
write_callout-requires-clause-may g c =
    let m = c.requires.may.may in
    let a = c.args.author.actor in
    let out = c.call-listed.ensures in
    let one = c.in_ok-removed.ensures.made in
    let lists1 : List (List Note) = noted m.lists a one.notes in
    let first = first_world c.args.script.now m.script (with_lists c.args.self.now.ledger m.lists) c.args.self.now.depot m.world m.held c.args.author.actor c.args.author.act c.args.i c.args.op.now m.due c.stand-cpu.result c.stand-cpu.ensures c.call-listed.new.out.reply c.call-listed.new.out.removed c.call-listed.result c.call-listed.new.out.inserted out.1 out.0 out.2
    (with_lists c.write_removal.new.self lists1) (λ none. nothing_noted c.args.self.now.ledger c.write_removal.new.self m.lists a one.notes (one.stays none)) (λ queue is v h. one.written queue is m.lists v h) in
    may_go_on c.args.script.now c.args.self.now a _ c.in_ok-removed.removed c.write_removal.new.self lists1 first.0 m (omega (arith, one.wrote.made, one.count)) (omega (arith, one.few)) first.1

pub write_insertion-requires-clause-may : goal.write_insertion-requires-clause-may
write_insertion-requires-clause-may g c =
    let m = c.requires.may.may in
    let a = c.args.author.actor in
    let out = c.call-listed.ensures in
    let one = c.in_ok-removed.ensures.made in
    let two = c.in_ok-write_callout.ensures.made in
    let lists1 : List (List Note) = noted m.lists a one.notes in
    let second = second_world c.args.script.now m.script (with_lists c.args.self.now.ledger m.lists) c.args.self.now.depot m.world m.held c.args.author.actor c.args.author.act c.args.i c.args.op.now m.due c.stand-cpu.result c.stand-cpu.ensures c.call-listed.new.out.reply c.call-listed.new.out.removed c.call-listed.result c.call-listed.new.out.inserted out.1 out.0 out.2
    (with_lists c.write_removal.new.self lists1) (λ none. nothing_noted c.args.self.now.ledger c.write_removal.new.self m.lists a one.notes (one.stays none)) (λ queue is v h. one.written queue is m.lists v h) (with_lists c.write_callout.new.self (noted lists1 a two.notes)) (λ state armed v h. whole_is c.args.script.now (with_lists c.write_callout.new.self (noted lists1 c.args.author.actor two.notes)) v c.args.author.actor c.args.author.act c.args.i c.args.op.now c.args.whole.now (state, c.call-listed.new.out.reply) c.requires.whole (two.written state armed lists1 v h)) in
    may_go_on c.args.script.now c.args.self.now a _ (c.in_ok-removed.removed + 1) c.write_callout.new.self (noted lists1 a two.notes) second.0 m (omega (arith, one.wrote.made, one.count, two.wrote.made, two.one)) (omega (arith, one.few)) second.1

pub write_insertion-requires-clause-known : goal.write_insertion-requires-clause-known
write_insertion-requires-clause-known g c =
    let m = c.requires.may.may in
    let a = c.args.author.actor in
    let out = c.call-listed.ensures in
    let one = c.in_ok-removed.ensures.made in
    let two = c.in_ok-write_callout.ensures.made in
    let lists1 : List (List Note) = noted m.lists a one.notes in
    parcel_there c.args.script.now m.script (with_lists c.args.self.now.ledger m.lists) c.args.self.now.depot m.world m.held c.args.author.actor c.args.author.act c.args.i c.args.op.now m.due c.stand-cpu.result c.stand-cpu.ensures c.call-listed.new.out.reply c.call-listed.new.out.removed c.call-listed.result c.call-listed.new.out.inserted out.1 out.0 out.2
    (with_lists c.write_removal.new.self lists1) (λ none. nothing_noted c.args.self.now.ledger c.write_removal.new.self m.lists a one.notes (one.stays none)) (λ queue is v h. one.written queue is m.lists v h) (with_lists c.write_callout.new.self (noted lists1 a two.notes)) (λ state armed v h. whole_is c.args.script.now (with_lists c.write_callout.new.self (noted lists1 c.args.author.actor two.notes)) v c.args.author.actor c.args.author.act c.args.i c.args.op.now c.args.whole.now (state, c.call-listed.new.out.reply) c.requires.whole (two.written state armed lists1 v h))

pub returns : goal.returns
returns g c =
    let s = c.args.script.now in
    let a = c.args.author.actor in
    let has = g.N.Listener.has in
    let room = g.N.Listener.room in
    let out = c.call-listed.ensures in
    let one = c.in_ok-removed.ensures.made in
    let two = c.in_ok-write_callout.ensures.made in
    let three = c.in_ok-inserted.ensures.made in
    record {
      acted = acted s has room c.args.self.now a _ c.call-listed.new.self ((one.notes ++ two.notes) ++ three.notes) (c.in_ok-removed.removed + 1 + c.in_ok-inserted.inserted) c.write_insertion.new.self c.args.listener.now c.write_insertion.new.listener
          (then_written has room a (one.notes ++ two.notes) three.notes c.args.self.now.ledger c.write_callout.new.self c.write_insertion.new.self c.args.listener.now c.write_callout.new.listener c.write_insertion.new.listener
          (then_written has room a one.notes two.notes c.args.self.now.ledger c.write_removal.new.self c.write_callout.new.self c.args.listener.now c.write_removal.new.listener c.write_callout.new.listener one.wrote two.wrote) three.wrote)
          (let long = length-append one.notes two.notes in let longer = length-append (one.notes ++ two.notes) three.notes in omega (arith, long, longer, one.count, two.one, three.count))
          (omega (arith, one.few, three.few)) (λ lists w held due.
          (let lists1 : List (List Note) = noted lists a one.notes in
          let lists2 : List (List Note) = noted lists1 a two.notes in
          let ledger3 : Written = with_lists c.write_insertion.new.self (noted lists2 a three.notes) in
          subst (λ (l : List (List Note)). StandsFor s (with_lists c.write_insertion.new.self l) c.call-listed.new.self (step s w a)) (ap (λ (l : List (List Note)). noted l a three.notes) (noted_more lists a one.notes two.notes) ∙ noted_more lists a (one.notes ++ two.notes) three.notes)
          (subst (λ (d : Stored). StandsFor s ledger3 d (step s w a)) (sym out.3)
          (stands_called c.args.script.now c.requires.may.may.script (with_lists c.args.self.now.ledger lists) c.args.self.now.depot w held c.args.author.actor c.args.author.act c.args.i c.args.op.now due c.stand-cpu.result c.stand-cpu.ensures c.call-listed.new.out.reply c.call-listed.new.out.removed c.call-listed.result c.call-listed.new.out.inserted out.1 out.0 out.2
          (with_lists c.write_removal.new.self lists1) (λ none. nothing_noted c.args.self.now.ledger c.write_removal.new.self lists a one.notes (one.stays none)) (λ queue is v h. one.written queue is lists v h) (with_lists c.write_callout.new.self lists2) (λ state armed v h. whole_is c.args.script.now (with_lists c.write_callout.new.self (noted lists1 c.args.author.actor two.notes)) v c.args.author.actor c.args.author.act c.args.i c.args.op.now c.args.whole.now (state, c.call-listed.new.out.reply) c.requires.whole (two.written state armed lists1 v h))
          ledger3 (λ none. nothing_noted c.write_callout.new.self c.write_insertion.new.self lists2 a three.notes (three.stays none)) (λ queue p time is carried v h. three.written queue p time is carried lists2 v h)))));
      listens = search rules;
    }
