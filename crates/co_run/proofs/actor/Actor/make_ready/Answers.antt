-- There is room for the notes then, or the actor rests.
use Rattle.co_run.proofs.room.Asking.{made_ready}
use Rattle.co_run.proofs.actor.Actor.make_ready.Goals as goal

pub returns : goal.returns
returns g c =
    let s = c.args.shared.now.script.now in
    let room = c.make_room.ensures in
    let both = made_ready s c.args.shared.now.longest g.N.Name.name c.args.self.now c.make_room.new.book c.args.act c.args.asked.now c.room_for-count.result c.room_for-count.ensures
    c.requires.due room.notes (room.few c.requires.due.ready.count.few) (room.serving s) room.none c.make_room.result (room.free s) room.err room.rests room.some in
    record { tried = both.0; room = both.1 }
