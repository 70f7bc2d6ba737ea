use Rattle.std.proofs.Common.{◌+◌, length, get_or, ap, ◌∙◌, arith}
use Rattle.std.proofs.Math.ListN.{length-set}
use Rattle.co_print.specs.Order.{spot_of}
use Rattle.co_print.proofs.Places.{index_below}
use Rattle.co_print.proofs.Counts.{note_exists, made_more, note_counted}
use Rattle.co_print.proofs.order.count_list.Goals as goal

pub bounds-counted-place : goal.bounds-counted-place
bounds-counted-place c =
    let below = index_below c.args.script.now c.note-item.result.place (note_exists c.args.script.now c.args.notes.now _ c.note-item.result c.requires.exist c.loop-note-test.true c.note-item.is) in
    omega (arith, below, ap (λ spot. spot.place) c.in_ok-spot.ensures, ap length c.as_slice-counted.ensures, c.loop-note.invariant.places)

pub loop-note-preserved : goal.loop-note-preserved
loop-note-preserved c =
    let s = c.args.script.now in
    let notes = c.args.notes.now in
    let k = c.loop-note.note-index in
    let n = c.note-item.result in
    let counts = c.loop-note.counts in
    let below = index_below s n.place (note_exists s notes k n c.requires.exist c.loop-note-test.true c.note-item.is) in
    record {
      places = ap length c.replace.ensures.set ∙ (length-set counts c.in_ok-spot.spot.place c.in_ok-count.count ∙ c.loop-note.invariant.places);
      each = λ i in_range. note_counted s notes k c.in_ok-spot.spot.place c.in_ok-count.count n c.args.counts.now counts c.replace.new.self c.loop-note-test.true c.note-item.is
          (ap (λ spot. spot.place) c.in_ok-spot.ensures) (c.in_ok-count.ensures ∙ ap (λ ns. get_or ns c.in_ok-spot.spot.place 0 + 1) c.as_slice-counted.ensures) c.replace.ensures.set
          (omega (arith, below, ap (λ spot. spot.place) c.in_ok-spot.ensures, c.loop-note.invariant.places)) i (c.loop-note.invariant.each i in_range);
      spots = made_more (spot_of s) notes k n c.in_ok-spot.spot _ _ c.loop-note-test.true c.note-item.is c.in_ok-spot.ensures c.loop-note.invariant.spots c.push.ensures.items;
      room = omega (arith, c.push.ensures.spare, c.loop-note.invariant.room);
    }

pub replace-requires : goal.replace-requires
replace-requires c =
    let below = index_below c.args.script.now c.note-item.result.place (note_exists c.args.script.now c.args.notes.now _ c.note-item.result c.requires.exist c.loop-note-test.true c.note-item.is) in
    omega (arith, below, ap (λ spot. spot.place) c.in_ok-spot.ensures, c.loop-note.invariant.places)
