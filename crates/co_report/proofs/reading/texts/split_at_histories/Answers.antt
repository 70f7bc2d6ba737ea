use Rattle.std.proofs.Common.{◌≡◌, false, ap, sym, ◌∙◌, arith}
use Rattle.std.specs.Prelude.{bytes_eq, codes}
use Rattle.co_text.specs.Lines.{Line}
use Rattle.co_report.specs.Reading.{is_line}
use Rattle.co_report.proofs.LinesWhole.{whole_more, halves_more}
use Rattle.co_report.proofs.reading.texts.split_at_histories.Goals as goal

pub loop-line-preserved : goal.loop-line-preserved
loop-line-preserved c =
    let text = c.args.text.now in
    let rest = c.loop-line.rest.now in
    let after = c.in-Some.after.now in
    let l : Line = record { bytes = c.in-Some.line.now; ended = c.in-Some.field-0-1 } in
    let other : is_line (codes "histories") l ≡ false = ap (λ w. bytes_eq c.in-Some.line.now w) (sym c.as_slice.ensures) ∙ (sym c.is_word.ensures ∙ c.if-is_word.false) in
    record {
      whole = whole_more text rest after l c.loop-line.invariant.whole c.in-Some.ensures.line;
      same = sym (halves_more text rest after l c.loop-line.count c.loop-line.invariant.whole c.in-Some.ensures.line other) ∙ c.loop-line.invariant.same;
      small = omega (arith, c.in-Some.ensures.shorter, c.loop-line.invariant.small);
    }
