use Rattle.std.proofs.Common.{◌<◌, ◌^◌, ◌∷◌, [], ◌++◌, get_or, length, replicate, ap, sym, subst, ◌∙◌, arith}
use Rattle.std.specs.Prelude.{ℕ, List}
use Rattle.std.proofs.lemmas.Option.{slice_get-get_or}
use Rattle.std.proofs.lemmas.Grind.{common_steps}
use Rattle.co_print.specs.Order.{place_count, place_index}
use Rattle.co_report.specs.declared.line.Line.{Line}
use Rattle.co_order.proofs.Boards.{place_below, place_fits, ranking_all, ranking_more, ranking_none}
use Rattle.co_order.proofs.board.ranks_of.Goals as goal

pub loop-line-init : goal.loop-line-init
loop-line-init c = ranking_none c.args.script.now c.args.lines.now _ _ (c.in_ok-counts.ensures ∙ ap (λ (n : ℕ). replicate n 0) c.place_count.ensures) c.new-ranks.ensures

pub place_index-place-requires : goal.place_index-place-requires
place_index-place-requires c =
    let s = c.args.script.now in
    let lines = c.args.lines.now in
    let i = c.loop-line.line-index in
    let l = get_or lines i c.line-item.result in
    let at = slice_get-get_or lines i c.line-item.result c.loop-line-test.true in
    subst (λ (m : Line). place_index s m.place < 2 ^ 64) (sym c.line-item.is) (place_fits s lines i l c.requires.script c.requires.lines at)

pub loop-line-preserved : goal.loop-line-preserved
loop-line-preserved c =
    let s = c.args.script.now in
    let lines = c.args.lines.now in
    let i = c.loop-line.line-index in
    let l = get_or lines i c.line-item.result in
    let at = slice_get-get_or lines i c.line-item.result c.loop-line-test.true in
    let p_is = c.place_index-place.ensures ∙ ap (λ (m : Line). place_index s m.place) c.line-item.is in
    let below : c.place_index-place.result < place_count s = omega (arith, p_is, place_below s lines i l c.requires.lines at) in
    ranking_more s lines i c.place_index-place.result l c.loop-line.counts c.loop-line.ranks _ _ c.loop-line.invariant at p_is below
    (c.in_ok-push.ensures.ok ∙ ap (λ (xs : List ℕ). c.loop-line.ranks ++ get_or xs c.place_index-place.result 0 ∷ []) c.as_slice.ensures) c.in_ok-raise.ensures

pub returns : goal.returns
returns c = ranking_all c.args.script.now c.args.lines.now c.loop-line.line-index c.loop-line.counts c.loop-line.ranks c.loop-line.invariant c.loop-line-test.false

pub bounds-as_slice-place : goal.bounds-as_slice-place
bounds-as_slice-place c =
    let s = c.args.script.now in
    let lines = c.args.lines.now in
    let i = c.loop-line.line-index in
    let l = get_or lines i c.line-item.result in
    let at = slice_get-get_or lines i c.line-item.result c.loop-line-test.true in
    let p_is = c.place_index-place.ensures ∙ ap (λ (m : Line). place_index s m.place) c.line-item.is in
    omega (arith, ap length c.as_slice.ensures, p_is, place_below s lines i l c.requires.lines at, c.loop-line.invariant.counted.long)

pub raise-requires : goal.raise-requires
raise-requires c =
    let s = c.args.script.now in
    let lines = c.args.lines.now in
    let i = c.loop-line.line-index in
    let l = get_or lines i c.line-item.result in
    let at = slice_get-get_or lines i c.line-item.result c.loop-line-test.true in
    let p_is = c.place_index-place.ensures ∙ ap (λ (m : Line). place_index s m.place) c.line-item.is in
    omega (arith, p_is, place_below s lines i l c.requires.lines at, c.loop-line.invariant.counted.long)

pub offset_bounds-as_slice-place : goal.offset_bounds-as_slice-place
offset_bounds-as_slice-place c = grind (arith, common_steps)
