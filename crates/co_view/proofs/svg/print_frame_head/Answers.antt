use Rattle.std.proofs.Common.{ℕ, List, [], ◌++◌, ◌∙◌, ap, codes, decimal}
use Rattle.co_view.specs.Svg.{style_text, x_of, y_of}
use Rattle.co_view.proofs.Pieces.{said_is}
use Rattle.co_view.proofs.svg.print_frame_head.Goals as goal

pub returns : goal.returns
returns c =
    let sized : ℕ → List ℕ → List ℕ = λ (x : ℕ) (rest : List ℕ). codes "<svg xmlns=\"http://www.w3.org/2000/svg\" width=\"" ++ (decimal x ++ (codes "\" height=\"" ++ (decimal (y_of c.args.steps) ++ (codes "\">\n<rect width=\"100%\" height=\"100%\" style=\"fill:#fff;fill-opacity:1\"/>\n" ++ rest)))) in
    let style : List ℕ = c.style_text.result.now in
    let legend : List ℕ = c.legend_text.result.now in
    said_is _ _ _ _ _ (ap (λ (x : ℕ). sized x (style ++ (legend ++ []))) c.x_of.ensures ∙ (ap (λ (s : List ℕ). sized (x_of c.args.actors) (s ++ (legend ++ []))) c.style_text.ensures ∙ ap (λ (l : List ℕ). sized (x_of c.args.actors) (style_text ++ (l ++ []))) c.legend_text.ensures)) c.print_parts.ensures
