use Rattle.co_desk.proofs.CallNoted.{insertion_written}
use Rattle.co_desk.proofs.calling.write_insertion.Goals as goal

pub returns : goal.returns
returns g c =
    let w = c.write_turn-pos in
    insertion_written c.args.passes.now w.new.passes c.args.books.now w.new.books c.args.act c.args.i c.args.n c.args.due c.args.inserted c.cpu-cpu.result c.in-Some.at w.result c.in-Some.is c.cpu-cpu.ensures w.ensures
