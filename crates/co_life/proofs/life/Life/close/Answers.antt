-- What the table last had keeps the rule, and the keeper's view says which history that is of.
use Rattle.std.proofs.Common.{sym, ap, ◌∙◌, subst, None}
use mathlib.Core.Option.{some}
use Rattle.co_life.specs.Views.{history_in, made_in}
use Rattle.co_life.proofs.Moves.{at_keeper}
use Rattle.co_life.proofs.life.Life.close.Goals as goal

pub close_with-requires : goal.close_with-requires
close_with-requires g c = ap (λ t. t.life) c.keeper.view_is ∙ (c.requires ∙ sym c.self.view_is)

pub returns-clause-history : goal.returns-clause-history
returns-clause-history g c = ap (λ t. t.history) c.of-last.ensures

pub returns-clause-legal : goal.returns-clause-legal
returns-clause-legal g c =
    let last = c.close_with.ensures.values.2 in
    let seat = c.keeper.inside.seat in
    let kept = at_keeper g.S.Story.actor g.S.Story.legal last.0 seat.id (history_in seat.me.0) (made_in seat.me.0) None last.1.0 (last.1.1 ∙ ap some (ap (λ m. m.0) c.keeper.invariant.0)) in
    subst g.S.Story.legal (ap (λ t. t.history) c.keeper.view_is ∙ sym (ap (λ t. t.history) c.of-last.ensures)) kept.is_legal
