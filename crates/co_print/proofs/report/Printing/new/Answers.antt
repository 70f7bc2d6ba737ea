-- There is a start for each place, and the end.
use Rattle.std.proofs.Common.{length, ap, arith}
use Rattle.co_print.proofs.Starts.{length-starts}
use Rattle.co_print.proofs.report.Printing.new.Goals as goal

pub invariant_of-result : goal.invariant_of-result
invariant_of-result c = record {
  places = c.requires.places;
  formed = c.requires.formed;
  are_counted = c.requires.counted;
  begin = omega (arith, ap length c.in_ok-starts.ensures, ap length c.as_slice.ensures, length-starts 0 c.as_slice.result.now, c.requires.counted.counts.places);
}
