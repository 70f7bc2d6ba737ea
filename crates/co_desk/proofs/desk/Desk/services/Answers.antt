use Rattle.std.proofs.Common.{ap, ◌∙◌}
use Rattle.co_wheel.specs.Callouts.{is_serviced}
use Rattle.co_desk.specs.May.{queue_at_desk}
use Rattle.co_desk.proofs.NextSection.{has_service}
use Rattle.co_desk.proofs.desk.Desk.services.Goals as goal

pub returns : goal.returns
returns g c =
    has_service c.self.inside.wheel c.self.inside.books c.args.i c.args.n c.services.result c.self.invariant.shown c.services.ensures
    ∙ ap (λ b. is_serviced (queue_at_desk b).serving (queue_at_desk b).directing c.args.i c.args.n) c.self.view_is
