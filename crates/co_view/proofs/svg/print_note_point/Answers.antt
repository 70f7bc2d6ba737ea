use Rattle.std.proofs.Common.{ℕ, List, ◌+◌, ◌*◌, ◌++◌, ◌∙◌, ap, codes, decimal}
use Rattle.co_object.specs.Lists.{actor_of}
use Rattle.co_view.specs.Svg.{foot_of, x_of, y_of}
use Rattle.co_view.specs.Words.{note_text}
use Rattle.co_view.proofs.Pieces.{said_is}
use Rattle.co_view.proofs.svg.print_note_point.Goals as goal

pub returns : goal.returns
returns c =
    let note : List ℕ = note_text c.args.line.now.place c.args.line.now.entry in
    let foot : List ℕ = decimal (foot_of c.args.step) in
    let words : ℕ → List ℕ = λ (actor : ℕ). codes "\" r=\"3\"/><text x=\"" ++ (decimal (82 + 400 * actor) ++ (codes "\" y=\"" ++ (foot ++ (codes "\">" ++ (note ++ codes "</text>\n"))))) in
    let text : ℕ → ℕ → List ℕ = λ (x actor : ℕ). codes "<text class=\"l\" x=\"8\" y=\"" ++ (foot ++ (codes "\">" ++ (decimal c.args.line.now.line ++ (codes "</text><circle cx=\"" ++ (decimal x ++ (codes "\" cy=\"" ++ (decimal (y_of c.args.step) ++ words actor))))))) in
    said_is _ _ _ _ _ (ap (λ (x : ℕ). text x c.from.result) (c.x_of.ensures ∙ ap x_of c.actor-actor.ensures) ∙ ap (text (x_of (actor_of c.args.line.now.entry))) (c.from.ensures ∙ c.actor-actor.ensures)) c.print_parts.ensures
