use Rattle.std.proofs.Common.{arith}
use Rattle.co_packed.proofs.Widths.{four_put, four_widths}
use Rattle.co_packed.proofs.rows.put_four.Goals as goal

pub returns : goal.returns
returns c =
    let first = c.put_number-first.ensures in
    let second = c.put_number-second.ensures in
    let third = c.put_number-third.ensures in
    let fourth = c.put_number-fourth.ensures in
    record {
      widths = omega (arith, four_widths c.args.numbers.now c.args.from (omega arith), first.width, second.width, third.width, fourth.width);
      few = omega arith;
      written = λ front so_far.
          four_put c.args.buffer.now c.put_number-first.new.buffer c.put_number-second.new.buffer c.put_number-third.new.buffer c.put_number-fourth.new.buffer front c.args.numbers.now c.args.at c.args.from
          c.put_number-first.result c.put_number-second.result c.put_number-third.result c.put_number-fourth.result
          (omega arith) (omega arith) (omega arith) (omega arith) (omega arith) (omega arith)
          first.width second.width third.width fourth.width
          first.written second.written third.written fourth.written so_far;
      behind = omega arith;
      bounded = omega arith;
    }
