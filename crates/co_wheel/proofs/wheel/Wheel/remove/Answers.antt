use Rattle.std.proofs.Common.{ap, sym, subst, ◌∙◌}
use Rattle.co_wheel.specs.Agreed.{IsWheel}
use Rattle.co_wheel.specs.Callouts.{is_free_at}
use Rattle.co_wheel.specs.Cpu.{Cpu, cpu_of}
use Rattle.co_wheel.proofs.AgreedAfter.{gone-kept}
use Rattle.co_wheel.proofs.wheel.Wheel.remove.Goals as goal

pub invariant_of-self : goal.invariant_of-self
invariant_of-self g c =
    let t = g.Q.TimerQueue.state c.self.inside.queue in
    subst (λ r. IsWheel (cpu_of r t)) (sym c.remove.ensures)
    (gone-kept c.self.inside.records c.args.i t (ap (λ (s : Cpu). is_free_at s.callouts c.args.i) c.self.view_is ∙ c.requires) c.self.invariant)
