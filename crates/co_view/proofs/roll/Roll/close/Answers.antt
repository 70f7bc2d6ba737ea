use Rattle.std.proofs.Common.{ℕ, List, [], ◌∷◌, ◌++◌, ap, ◌∙◌}
use Rattle.co_view.proofs.Rows.{closed, ok_then}
use Rattle.co_view.proofs.roll.Roll.close.Goals as goal

pub returns-clause-text : goal.returns-clause-text
returns-clause-text c =
    ok_then c.push.result c.push.ensures.ok
    (λ is. closed c.args.self.now.pieces _ c.args.self.now.page _ (is ∙ ap (λ (t : List ℕ). c.args.self.now.pieces ++ t ∷ []) (c.in_ok-done.ensures ∙ c.replace-page.ensures.value)) (c.replace-page.ensures.after ∙ c.new.ensures))

pub returns-clause-page : goal.returns-clause-page
returns-clause-page c = ok_then c.push.result c.push.ensures.ok (λ is. c.replace-page.ensures.after ∙ c.new.ensures)
