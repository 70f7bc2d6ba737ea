-- The numbers of one place more are added.
use Rattle.std.proofs.Common.{◌+◌, length, get_or, ap, ◌∙◌, arith}
use Rattle.std.proofs.Math.ListN.{length-set}
use Rattle.co_print.proofs.Counts.{place_added, place_left}
use Rattle.co_print.proofs.counting.add_counts.Goals as goal

pub loop-place-preserved : goal.loop-place-preserved
loop-place-preserved c =
    let place = c.loop-place.place in
    let count = c.in_ok-count.count in
    let first = c.args.counts.now in
    let more = c.args.more.now in
    let before = c.loop-place.counts in
    let so_far = c.loop-place.invariant in
    record {
      places = ap length c.replace.ensures.set ∙ (length-set before place count ∙ so_far.places);
      added = place_added place count first more before c.replace.new.self (c.in_ok-count.ensures ∙ ap (λ ns. get_or ns place 0 + get_or more place 0) c.as_slice-counted.ensures) c.replace.ensures.set
          (omega (arith, c.loop-place-test.true, c.requires, so_far.places)) (so_far.left place (omega arith)) so_far.added;
      left = place_left place count first before c.replace.new.self c.replace.ensures.set so_far.left;
    }
