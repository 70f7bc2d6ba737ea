use Rattle.std.proofs.Common.{◌≤◌, ◌<◌, ◌+◌, length, ap, sym, subst, arith, rules}
use Rattle.std.proofs.lemmas.List.{length-map}
use Rattle.co_print.specs.Order.{spot_of, AreWritten}
use Rattle.co_print.proofs.Spots.{row-of, note-of, stand-fits, at-inside, spot-passed, spot-written}
use Rattle.co_print.proofs.Written.{list-written}
use Rattle.co_print.proofs.order.write_list.Goals.{then-first-place+then-place-first, else-first-place, else-first-place-via-then-first-place+else-place-first, else-first-place-via-else-first-place}
use Rattle.co_print.proofs.order.write_list.Goals as goal

pub location-at-requires-clause-fits : goal.location-at-requires-clause-fits
location-at-requires-clause-fits c =
    let row = row-of c.args.script.now c.args.lists.now c.args.actor c.args.spots.now c.index-spots-actor.result c.requires.spots c.requires.actor c.index-spots-actor.is in
    let note = note-of c.args.script.now c.args.lists.now c.args.actor c.index-spots-actor.result c.as_slice-listed.result.now c.loop-number.number _ row c.as_slice-listed.ensures (omega arith) in
    stand-fits c.args.script.now c.args.lists.now c.args.actor c.args.first c.args.starts.now c.loop-number.number _ note (c.if-first-place.true, omega (arith, c.if-first-place.true, c.if-place-first.true)) (length c.args.origins.now) c.requires.room

pub offset_bounds-origins-at : goal.offset_bounds-origins-at
offset_bounds-origins-at c =
    let row = row-of c.args.script.now c.args.lists.now c.args.actor c.args.spots.now c.index-spots-actor.result c.requires.spots c.requires.actor c.index-spots-actor.is in
    let note = note-of c.args.script.now c.args.lists.now c.args.actor c.index-spots-actor.result c.as_slice-listed.result.now c.loop-number.number _ row c.as_slice-listed.ensures (omega arith) in
    let inside : c.location-at.result < length c.args.origins.now =
    at-inside c.args.script.now c.args.lists.now c.args.actor c.args.first c.args.starts.now c.loop-number.number _ note (c.if-first-place.true, omega (arith, c.if-first-place.true, c.if-place-first.true)) (length c.args.origins.now) c.location-at.result c.requires.room c.location-at.ensures in
    search rules

pub bounds-origins-at : goal.bounds-origins-at
bounds-origins-at c =
    let row = row-of c.args.script.now c.args.lists.now c.args.actor c.args.spots.now c.index-spots-actor.result c.requires.spots c.requires.actor c.index-spots-actor.is in
    let note = note-of c.args.script.now c.args.lists.now c.args.actor c.index-spots-actor.result c.as_slice-listed.result.now c.loop-number.number _ row c.as_slice-listed.ensures (omega arith) in
    let inside : c.location-at.result < length c.args.origins.now =
    at-inside c.args.script.now c.args.lists.now c.args.actor c.args.first c.args.starts.now c.loop-number.number _ note (c.if-first-place.true, omega (arith, c.if-first-place.true, c.if-place-first.true)) (length c.args.origins.now) c.location-at.result c.requires.room c.location-at.ensures in
    omega arith

pub loop-number-preserved : goal.loop-number-preserved
loop-number-preserved c =
    let row = row-of c.args.script.now c.args.lists.now c.args.actor c.args.spots.now c.index-spots-actor.result c.requires.spots c.requires.actor c.index-spots-actor.is in
    let note = note-of c.args.script.now c.args.lists.now c.args.actor c.index-spots-actor.result c.as_slice-listed.result.now c.loop-number.number _ row c.as_slice-listed.ensures (omega arith) in
    elim c.if-first-place.branch [
      | then-first-place+then-place-first w ↦ (
          let inside : w.location-at.result < length c.args.origins.now =
          at-inside c.args.script.now c.args.lists.now c.args.actor c.args.first c.args.starts.now c.loop-number.number _ note (w.if-first-place.true, omega (arith, w.if-first-place.true, w.if-place-first.true)) (length c.args.origins.now) w.location-at.result c.requires.room w.location-at.ensures in
          subst (λ os. AreWritten c.args.script.now c.args.lists.now c.args.first c.args.starts.now os c.args.actor (c.loop-number.number + 1)) (sym w.origins-is)
          (spot-written c.args.script.now c.args.lists.now c.args.actor c.args.first c.args.starts.now c.loop-number.number _ note (w.if-first-place.true, omega (arith, w.if-first-place.true, w.if-place-first.true)) c.loop-number.origins w.location-at.result w.location-at.ensures (omega arith) c.loop-number.invariant))
      | else-first-place w ↦
          subst (λ os. AreWritten c.args.script.now c.args.lists.now c.args.first c.args.starts.now os c.args.actor (c.loop-number.number + 1)) (sym w.origins-is)
          (spot-passed c.args.script.now c.args.lists.now c.args.actor c.args.first c.args.starts.now c.loop-number.number _ note c.loop-number.origins (λ of. elim w.else-first-place.branch [
            | else-first-place-via-then-first-place+else-place-first v ↦ absurd (omega (arith, of.0, of.1, v.if-place-first.false))
            | else-first-place-via-else-first-place v ↦ absurd (omega (arith, of.0, v.if-first-place.false))
          ]) c.loop-number.invariant)
    ]

pub returns-clause-written : goal.returns-clause-written
returns-clause-written c =
    let row = row-of c.args.script.now c.args.lists.now c.args.actor c.args.spots.now c.index-spots-actor.result c.requires.spots c.requires.actor c.index-spots-actor.is in
    let past : length row.item ≤ c.loop-number.number =
    omega (arith, length-map row.item (spot_of c.args.script.now), ap length row.is, ap length c.as_slice-listed.ensures) in
    list-written c.args.script.now c.args.lists.now c.args.first c.args.starts.now c.loop-number.origins c.args.actor c.loop-number.number row.item row.at past c.loop-number.invariant
