-- What is appended is the digit between a space and a line feed.
use Rattle.std.proofs.Common.{◌++◌, ap, ◌∙◌, arith}
use Rattle.std.specs.List.{slice_range}
use Rattle.std.proofs.lemmas.Result.{IfOk-weaker}
use Rattle.co_batch.proofs.LineEnds.{one_digit}
use Rattle.co_batch.proofs.print.print_digit.Goals as goal

pub returns : goal.returns
returns c =
    let line = ap (λ bs. slice_range bs 0 3) c.to_le_bytes.ensures
    ∙ one_digit c.args.number _ c.requires (omega (arith, c.from.ensures, c.from-2.ensures, c.from-3.ensures, c.digit.ensures)) in
    IfOk-weaker c.text.result _ _ (λ _ is. is ∙ ap (λ bs. c.args.page.now ++ bs) line) c.text.ensures
