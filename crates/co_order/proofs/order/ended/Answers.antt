use Rattle.std.proofs.Common.{◌≡◌, ℕ, ◌<◌, get_or, ap, sym, List, length, refl, subst, arith}
use Rattle.std.specs.Prelude.{Some, None}
use Rattle.std.proofs.lemmas.Option.{slice_get_read}
use Rattle.co_order.specs.Merging.{FirstZero}
use Rattle.co_order.specs.Order.{IsOrder}
use Rattle.co_report.specs.declared.line.Line.{Line}
use Rattle.co_order.proofs.Boards.{none_stuck, stuck, whole}
use Rattle.co_order.proofs.order.ended.Goals as goal

pub returns-in-Some : goal.returns-in-Some
returns-in-Some c =
    let s = c.args.board.now.script.now in
    let lines = c.args.board.now.lines.now in
    let found : FirstZero c.args.merge.now.come (Some c.in-Some.i) = subst (λ (xs : List ℕ). FirstZero xs (Some c.in-Some.i)) c.as_slice.ensures c.in-Some.ensures in
    let inside : c.in-Some.i < length lines = omega (arith, found.0, c.requires.merge.come.long) in
    let here = slice_get_read lines (length lines) c.in-Some.i c.index-board-i.result refl inside c.index-board-i.is in
    let named : ◌≡◌ {A = ℕ} (get_or lines c.in-Some.i c.index-board-i.result).line c.index-board-i.result.line = ap (λ (l : Line). l.line) (sym c.index-board-i.is) in
    let is = stuck s lines c.args.merge.now c.in-Some.i (get_or lines c.in-Some.i c.index-board-i.result).line c.index-board-i.result c.requires.merge c.requires.nothing found.0 found.1.0 found.1.1 here named in
    (none_stuck s lines (get_or lines c.in-Some.i c.index-board-i.result).line is, is)

pub returns-in-None : goal.returns-in-None
returns-in-None c =
    let s = c.args.board.now.script.now in
    let lines = c.args.board.now.lines.now in
    subst (IsOrder s lines) (sym c.replace.ensures.value) (whole s lines c.args.merge.now c.requires.merge (subst (λ (xs : List ℕ). FirstZero xs None) c.as_slice.ensures c.in-None.ensures))
