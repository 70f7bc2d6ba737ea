-- One line more, of the last stretch or of one that begins with it.
use Rattle.std.proofs.Common.{◌≤◌, [], ◌∷◌, ◌++◌, ap, sym, ◌∙◌, arith}
use Rattle.co_report.specs.PackedLines.{line_of, lines_from}
use Rattle.co_report.proofs.LinesPacked.{begun, pushed-apart, pushed-on, then-ok}
use Rattle.co_report.proofs.packed_lines.PackedLines.push.Goals as goal

pub returns-then-is_next_of : goal.returns-then-is_next_of
returns-then-is_next_of c =
    let x = c.self.inside in
    let n = c.args.note.now in
    let line = c.args.line in
    then-ok c.push.result
    (λ pushed. ap (lines_from (x.earlier ++ x.latest ∷ []) 0) pushed
    ∙ (pushed-on x.earlier x.latest x.notes n c.len-at.result line c.len-at.ensures (sym c.is_next_of.ensures ∙ c.if-is_next_of.true)
    ∙ ap (λ ls. ls ++ line_of line n ∷ []) c.self.view_is))
    c.push.ensures.ok

pub returns : goal.returns
returns c =
    let x = c.self.inside in
    let n = c.args.note.now in
    let line = c.args.line in
    let few : line ≤ 18446744073709551615 = omega arith in
    then-ok c.push-3.result
    (λ pushed. ap (λ ss. lines_from (ss ++ begun c.len-at.result line ∷ []) 0 c.push-3.new.self) c.in_ok-push.ensures.ok
    ∙ (ap (lines_from ((x.earlier ++ x.latest ∷ []) ++ begun c.len-at.result line ∷ []) 0) pushed
    ∙ (pushed-apart (x.earlier ++ x.latest ∷ []) x.notes n c.len-at.result line c.len-at.ensures few
    ∙ ap (λ ls. ls ++ line_of line n ∷ []) c.self.view_is)))
    c.push-3.ensures.ok
