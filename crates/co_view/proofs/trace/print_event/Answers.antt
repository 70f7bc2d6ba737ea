use Rattle.std.proofs.Common.{ℕ, List, ◌++◌, ◌∙◌, ap, codes, decimal}
use Rattle.co_object.specs.Lists.{actor_of}
use Rattle.co_view.specs.Trace.{at_text}
use Rattle.co_view.specs.Words.{note_text}
use Rattle.co_view.proofs.Pieces.{said_is}
use Rattle.co_view.proofs.trace.print_event.Goals as goal

pub returns : goal.returns
returns c =
    let note : List ℕ = note_text c.args.line.now.place c.args.line.now.entry in
    let text : ℕ → ℕ → List ℕ = λ (actor act : ℕ). codes ",\n{\"ph\":\"X\",\"pid\":2,\"tid\":" ++ (at_text actor c.args.step ++ (codes ",\"dur\":1,\"name\":\"" ++ (note ++ (codes "\",\"args\":{\"line\":" ++ (decimal c.args.line.now.line ++ (codes ",\"act\":" ++ (decimal act ++ codes "}}"))))))) in
    said_is _ _ _ _ _ (ap (λ (actor : ℕ). text actor c.act.result) (c.from.ensures ∙ c.actor.ensures) ∙ ap (text (actor_of c.args.line.now.entry)) c.act.ensures) c.print_parts.ensures
