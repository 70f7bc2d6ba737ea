use Rattle.std.proofs.Common.{sym, ap, ◌∙◌}
use Rattle.co_desk.proofs.Found.{owned_pushed, seats_pushed}
use Rattle.co_desk.proofs.seats.Seats.add.Goals as goal

pub returns : goal.returns
returns g c = seats_pushed c.self.inside.actor c.self.inside.passes.items c.push.new.items.items c.args.pass c.push.result c.args.self.now c.self.view_is c.push.ensures.pushed

pub invariant_of-self : goal.invariant_of-self
invariant_of-self g c =
    owned_pushed c.self.inside.actor c.self.inside.passes.items c.push.new.items.items c.args.pass c.push.result c.self.invariant (c.requires ∙ sym (ap (λ s. s.actor) c.self.view_is)) c.push.ensures.pushed c.push.ensures.kept
