use Rattle.std.proofs.Common.{ℕ, List, ◌∙◌, sym, ap, ◌++◌, append-nil}
use Rattle.std.specs.List.{concat}
use Rattle.co_view.proofs.roll.Roll.done.Goals as goal

pub returns : goal.returns
returns c = ap concat c.replace.ensures.value ∙ (sym (append-nil (concat c.close.new.self.pieces)) ∙ (ap (λ (p : List ℕ). concat c.close.new.self.pieces ++ p) (sym c.in_ok-close.ensures.page) ∙ c.in_ok-close.ensures.text))
