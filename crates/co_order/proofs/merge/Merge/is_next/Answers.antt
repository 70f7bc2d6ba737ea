use Rattle.std.proofs.Common.{◌∙◌, ◌<◌, ap, arith, length, rules}
use Rattle.std.proofs.lemmas.Option.{slice_get_within}
use Rattle.co_order.proofs.Boards.{actor_below, next_read, place_below, place_fits}
use Rattle.co_order.proofs.merge.Merge.is_next.Goals as goal

pub place_index-requires : goal.place_index-requires
place_index-requires c = place_fits c.args.board.now.script.now c.args.board.now.lines.now c.args.i c.args.line.now c.requires.board.script c.requires.board.lines c.requires.line

pub returns : goal.returns
returns c =
    c.fits.ensures
    ∙ next_read c.args.board.now.script.now c.args.board.now.lines.now c.args.self.now c.args.board.now.ranks c.args.i c.actor.result c.place_index.result c.args.line.now
    c.as_slice.result.now c.as_slice-2.result.now c.as_slice-3.result.now c.as_slice-4.result.now
    c.requires.merge c.requires.board.ranks c.requires.board.lines c.requires.line c.actor.ensures c.place_index.ensures
    c.as_slice.ensures c.as_slice-2.ensures c.as_slice-3.ensures c.as_slice-4.ensures

pub bounds-as_slice-i : goal.bounds-as_slice-i
bounds-as_slice-i c = omega (arith, ap length c.as_slice.ensures, slice_get_within c.args.board.now.lines.now c.args.i c.args.line.now c.requires.line, c.requires.merge.come.long)

pub bounds-as_slice-actor : goal.bounds-as_slice-actor
bounds-as_slice-actor c = omega (arith, ap length c.as_slice-2.ensures, c.actor.ensures, actor_below c.args.board.now.script.now c.args.board.now.lines.now c.args.i c.args.line.now c.requires.board.lines c.requires.line, c.requires.merge.numbers.long)

pub bounds-as_slice-place_index : goal.bounds-as_slice-place_index
bounds-as_slice-place_index c = omega (arith, ap length c.as_slice-3.ensures, c.place_index.ensures, place_below c.args.board.now.script.now c.args.board.now.lines.now c.args.i c.args.line.now c.requires.board.lines c.requires.line, c.requires.merge.positions.long)

pub bounds-as_slice-i-2 : goal.bounds-as_slice-i-2
bounds-as_slice-i-2 c = omega (arith, ap length c.as_slice-4.ensures, slice_get_within c.args.board.now.lines.now c.args.i c.args.line.now c.requires.line, c.requires.board.ranks.long)

pub offset_bounds-as_slice-i : goal.offset_bounds-as_slice-i
offset_bounds-as_slice-i c =
    let inside : c.args.i < length c.as_slice.result.now = omega (arith, ap length c.as_slice.ensures, slice_get_within c.args.board.now.lines.now c.args.i c.args.line.now c.requires.line, c.requires.merge.come.long) in
    search rules

pub offset_bounds-as_slice-place_index : goal.offset_bounds-as_slice-place_index
offset_bounds-as_slice-place_index c =
    let inside : c.place_index.result < length c.as_slice-3.result.now = omega (arith, ap length c.as_slice-3.ensures, c.place_index.ensures, place_below c.args.board.now.script.now c.args.board.now.lines.now c.args.i c.args.line.now c.requires.board.lines c.requires.line, c.requires.merge.positions.long) in
    search rules

pub offset_bounds-as_slice-i-2 : goal.offset_bounds-as_slice-i-2
offset_bounds-as_slice-i-2 c =
    let inside : c.args.i < length c.as_slice-4.result.now = omega (arith, ap length c.as_slice-4.ensures, slice_get_within c.args.board.now.lines.now c.args.i c.args.line.now c.requires.line, c.requires.board.ranks.long) in
    search rules
