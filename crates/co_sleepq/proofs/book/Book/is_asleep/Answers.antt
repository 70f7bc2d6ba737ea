use Rattle.std.proofs.Common.{◌<◌, length, is_some, ap, sym, subst, ◌∙◌, arith}
use Rattle.std.specs.declared.option.Option.TheVariants.{None}
use Rattle.std.proofs.lemmas.List.{get_or_read}
use Rattle.co_sleepq.specs.Book.{BookView}
use Rattle.co_sleepq.specs.Sleepers.{is_asleep}
use Rattle.co_sleepq.proofs.Slotted.{asleep_is}
use Rattle.co_sleepq.proofs.book.Book.is_asleep.Goals as goal

pub returns : goal.returns
returns c =
    let slots = c.self.inside.slots.items in
    let a = c.self.invariant.0.slots_are in
    let low : c.args.i < length c.self.inside.ends.items = subst (λ (b : BookView). c.args.i < length b.ends) (sym c.self.view_is) c.requires in
    c.is_some.ensures
    ∙ (ap is_some (get_or_read slots c.args.i c.index.result.now (omega (arith, low, a.size_is)) c.index.ensures None)
    ∙ (sym (asleep_is (length c.self.inside.ends.items) c.self.inside.next slots c.args.i a)
    ∙ ap (λ (b : BookView). is_asleep b.sleeps c.args.i) c.self.view_is))
