use Rattle.std.proofs.Common.{◌≡◌, ◌<◌, ◌^◌, get_or, length, ap, sym, subst, ◌∙◌, arith, rules}
use Rattle.std.proofs.lemmas.Option.{get_or_from_slice_get, slice_get_within}
use Rattle.std.proofs.lemmas.Result.{on_ok_weaker}
use Rattle.co_program.specs.Actors.{actor_count}
use Rattle.co_print.specs.Order.{place_index, place_count}
use Rattle.co_report.specs.declared.line.Line.{Line}
use Rattle.co_check.specs.Shown.{actor_of}
use Rattle.co_order.specs.Merging.{actor_key, place_key}
use Rattle.co_order.proofs.Boards.{actor_below, place_below, place_fits}
use Rattle.co_order.proofs.Merges.{left_falls, merging_more}
use Rattle.co_order.proofs.merge.Merge.take.Goals as goal

pub place_index-requires : goal.place_index-requires
place_index-requires c =
    let s = c.args.board.now.script.now in
    let lines = c.args.board.now.lines.now in
    let l = c.requires.next.line in
    let same : get_or lines c.args.i c.index-board-i.result ≡ l = get_or_from_slice_get lines c.args.i l c.index-board-i.result c.requires.next.stands in
    subst (λ (m : Line). place_index s m.place < 2 ^ 64) (sym same) (place_fits s lines c.args.i l c.requires.board.script c.requires.board.lines c.requires.next.stands)

pub returns-clause-merge : goal.returns-clause-merge
returns-clause-merge c =
    let s = c.args.board.now.script.now in
    let lines = c.args.board.now.lines.now in
    let l = c.requires.next.line in
    let same : get_or lines c.args.i c.index-board-i.result ≡ l = get_or_from_slice_get lines c.args.i l c.index-board-i.result c.requires.next.stands in
    let a_is : c.actor.result ≡ actor_key l = c.actor.ensures ∙ ap (λ (m : Line). actor_of m.entry) same in
    let p_is : c.place_index.result ≡ place_key s l = c.place_index.ensures ∙ ap (λ (m : Line). place_index s m.place) same in
    let a_below : c.actor.result < actor_count s = omega (arith, a_is, actor_below s lines c.args.i l c.requires.board.lines c.requires.next.stands) in
    let p_below : c.place_index.result < place_count s = omega (arith, p_is, place_below s lines c.args.i l c.requires.board.lines c.requires.next.stands) in
    on_ok_weaker c.push.result (λ order_is. merging_more s lines c.args.self.now _ c.args.i c.actor.result c.place_index.result l c.requires.merge c.requires.next.stands c.requires.next.next a_is a_below p_is p_below c.in_ok-raise.ensures c.in_ok-raise-2.ensures c.in_ok-raise-3.ensures order_is) c.push.ensures.ok

pub returns-clause-left : goal.returns-clause-left
returns-clause-left c =
    let s = c.args.board.now.script.now in
    let lines = c.args.board.now.lines.now in
    on_ok_weaker c.push.result (λ order_is. left_falls s lines c.args.self.now _ c.args.i c.requires.next.line c.requires.merge c.requires.next.stands c.requires.next.next c.in_ok-raise-3.ensures) c.push.ensures.ok

pub bounds-board-i : goal.bounds-board-i
bounds-board-i c = slice_get_within c.args.board.now.lines.now c.args.i c.requires.next.line c.requires.next.stands

pub offset_bounds-board-i : goal.offset_bounds-board-i
offset_bounds-board-i c =
    let inside : c.args.i < length c.args.board.now.lines.now = slice_get_within c.args.board.now.lines.now c.args.i c.requires.next.line c.requires.next.stands in
    search rules

pub raise-requires : goal.raise-requires
raise-requires c =
    let s = c.args.board.now.script.now in
    let lines = c.args.board.now.lines.now in
    let l = c.requires.next.line in
    let same : get_or lines c.args.i c.index-board-i.result ≡ l = get_or_from_slice_get lines c.args.i l c.index-board-i.result c.requires.next.stands in
    let a_is : c.actor.result ≡ actor_key l = c.actor.ensures ∙ ap (λ (m : Line). actor_of m.entry) same in
    omega (arith, a_is, actor_below s lines c.args.i l c.requires.board.lines c.requires.next.stands, c.requires.merge.numbers.long)

pub raise-requires-2 : goal.raise-requires-2
raise-requires-2 c =
    let s = c.args.board.now.script.now in
    let lines = c.args.board.now.lines.now in
    let l = c.requires.next.line in
    let same : get_or lines c.args.i c.index-board-i.result ≡ l = get_or_from_slice_get lines c.args.i l c.index-board-i.result c.requires.next.stands in
    let p_is : c.place_index.result ≡ place_key s l = c.place_index.ensures ∙ ap (λ (m : Line). place_index s m.place) same in
    omega (arith, p_is, place_below s lines c.args.i l c.requires.board.lines c.requires.next.stands, c.requires.merge.positions.long)

pub raise-requires-3 : goal.raise-requires-3
raise-requires-3 c = omega (arith, slice_get_within c.args.board.now.lines.now c.args.i c.requires.next.line c.requires.next.stands, c.requires.merge.come.long)
