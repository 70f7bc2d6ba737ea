use Rattle.std.proofs.Common.{◌≡◌, ◌∷◌, drop, ap, sym, ◌∙◌}
use Rattle.co_text.specs.Lines.{Line, lines_of}
use Rattle.co_script.proofs.WholeLines.{behind, no-lines}
use Rattle.co_script.proofs.spot.content_at.Goals as goal

pub returns-in_default-clause-line : goal.returns-in_default-clause-line
returns-in_default-clause-line c = no-lines c.args.text.now c.args.at c.requires (ap lines_of (sym c.split_at.ensures.back) ∙ c.in_default.ensures.line)

pub returns-clause-line : goal.returns-clause-line
returns-clause-line c =
    let text = c.args.text.now in
    let l : Line = c.in-Some.ensures.line.0 in
    let first : lines_of (drop c.args.at text) ≡ l ∷ lines_of c.in-Some.after.now = ap lines_of (sym c.split_at.ensures.back) ∙ c.in-Some.ensures.line.1 in
    (l, first ∙ ap (λ t. l ∷ lines_of t) (behind text c.in-Some.after.now c.args.at l c.requires first), c.in-Some.ensures.line.2)
