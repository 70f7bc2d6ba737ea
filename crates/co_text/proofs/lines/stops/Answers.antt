use Rattle.std.proofs.Common.{arith, false}
use Rattle.std.proofs.lemmas.List.FromFn.{get_or-map-range_with_len}
use Rattle.co_text.proofs.Contents.{is_stop}
use Rattle.co_text.proofs.lines.stops.Goals as goal

pub returns : goal.returns
returns c = get_or-map-range_with_len is_stop 0 256 c.args.c c.args.c false (omega (arith, c.ranges.c.fits)) (omega arith)
