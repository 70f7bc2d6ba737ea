-- A drain's next try waits while the slots of the callout's CPU have the service that its last one named.
use Rattle.std.proofs.Common.{sym, ap, ◌∙◌, subst}
use Rattle.co_program.specs.Indexed.{stage_of}
use Rattle.co_world.specs.Blocked.{is_waiting}
use Rattle.co_core.proofs.stored.Services.{in-service}
use Rattle.co_world.proofs.kept.BySchedules.{reached_steady}
use Rattle.co_world.proofs.kept.BySteps.{IsSteady}
use Rattle.co_core.proofs.engine.Engine.drain_waits.Goals as goal

pub returns-in-Waiting : goal.returns-in-Waiting
returns-in-Waiting c = λ s w ok h within at.
    (let steady : IsSteady s w = subst (IsSteady s) (sym h.reached.world) (reached_steady s ok h.reached.schedule h.reached.may) in
    c.services.ensures ∙ (in-service s c.args.self.now.depot w h.stored h.placed steady c.args.i c.in-Waiting.n within c.args.cpu at
    ∙ sym (ap (λ stage. is_waiting w c.args.i (stage_of s stage)) c.in-Waiting.is)))
