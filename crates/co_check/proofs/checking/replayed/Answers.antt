-- One line more is heard.
use Rattle.std.proofs.Common.{◌≡◌, [], ◌∷◌, ◌++◌, length, refl, take, subst, sym}
use Rattle.std.proofs.lemmas.List.{take_all}
use Rattle.std.proofs.lemmas.Option.{slice_get_read}
use Rattle.co_report.specs.PackedLines.{line_of}
use Rattle.co_check.specs.Hearing.{ComesTo, IsHeard}
use Rattle.co_check.proofs.Along.{front}
use Rattle.co_check.proofs.checking.replayed.Goals as goal

pub loop-line-preserved : goal.loop-line-preserved
loop-line-preserved c =
    let lines = c.args.lines.now in
    let k = c.loop-line.line-index in
    let here = slice_get_read lines (length lines) k c.line-item.result refl c.loop-line-test.true c.line-item.is in
    let l = c.line-item.result in
    let told = c.in_ok-take.ensures c.args.script.now (take k lines) c.loop-line.invariant in
    let heard = subst (λ n. IsHeard c.args.script.now (take k lines ++ line_of l.line n ∷ []) c.take.new.self) c.note_in.ensures told in
    subst (λ ls. IsHeard c.args.script.now ls c.take.new.self) (sym (front lines k l here)) heard

pub returns : goal.returns
returns c =
    let s = c.args.script.now in
    let lines = c.args.lines.now in
    let k = c.loop-line.line-index in
    subst (λ ls. (c.ended.result.0 ≡ ls) × ComesTo s ls c.ended.result.1) (take_all k lines c.loop-line-test.false) (c.ended.ensures s (take k lines) c.loop-line.invariant)
