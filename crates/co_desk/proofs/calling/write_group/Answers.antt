use Rattle.co_desk.proofs.GroupWritten.{entry_here, entry_reply, entry_together, group_written, insertion_owed, insertion_together}
use Rattle.co_desk.proofs.calling.write_group.Goals as goal

pub write_call-entry-requires-clause-together : goal.write_call-entry-requires-clause-together
write_call-entry-requires-clause-together g c =
    let r = c.write_removal-removal in
    entry_together g.N.Name.name c.args.places.now c.args.passes.now c.args.books.now c.args.act c.args.i c.args.op.now c.args.told.now c.requires.together c.requires.may r.new.passes r.new.books r.result r.ensures

pub write_call-entry-requires-clause-here : goal.write_call-entry-requires-clause-here
write_call-entry-requires-clause-here g c =
    let r = c.write_removal-removal in
    entry_here g.N.Name.name c.args.places.now c.args.passes.now c.args.books.now c.args.act c.args.i c.args.op.now c.args.told.now c.requires.together c.requires.may r.new.passes r.new.books r.result r.ensures

pub write_call-entry-requires-clause-reply : goal.write_call-entry-requires-clause-reply
write_call-entry-requires-clause-reply g c =
    let r = c.write_removal-removal in
    entry_reply g.N.Name.name c.args.places.now c.args.passes.now c.args.books.now c.args.act c.args.i c.args.op.now c.args.told.now c.requires.together c.requires.may r.new.passes r.new.books r.result r.ensures

pub write_insertion-insertion-requires-clause-together : goal.write_insertion-insertion-requires-clause-together
write_insertion-insertion-requires-clause-together g c =
    let r = c.write_removal-removal in
    let e = c.write_call-entry in
    insertion_together g.N.Name.name c.args.places.now c.args.passes.now c.args.books.now c.args.act c.args.i c.args.op.now c.args.told.now c.requires.together c.requires.may r.new.passes r.new.books r.result r.ensures e.new.passes e.new.books e.result e.ensures c.number-n.result c.time-due.result c.number-n.ensures c.time-due.ensures

pub write_insertion-insertion-requires-clause-owes : goal.write_insertion-insertion-requires-clause-owes
write_insertion-insertion-requires-clause-owes g c =
    let r = c.write_removal-removal in
    let e = c.write_call-entry in
    insertion_owed g.N.Name.name c.args.places.now c.args.passes.now c.args.books.now c.args.act c.args.i c.args.op.now c.args.told.now c.requires.together c.requires.may r.new.passes r.new.books r.result r.ensures e.new.passes e.new.books e.result e.ensures c.number-n.result c.time-due.result c.number-n.ensures c.time-due.ensures

pub returns : goal.returns
returns g c =
    let r = c.write_removal-removal in
    let e = c.write_call-entry in
    let x = c.write_insertion-insertion in
    group_written g.N.Name.name c.args.places.now c.args.passes.now c.args.books.now c.args.act c.args.i c.args.op.now c.args.told.now c.requires.together c.requires.may r.new.passes r.new.books r.result r.ensures e.new.passes e.new.books e.result e.ensures c.number-n.result c.time-due.result c.number-n.ensures c.time-due.ensures x.new.passes x.new.books x.result x.ensures
