-- The answer is the time that the queue gave.
use Rattle.std.proofs.Common.{subst}
use Rattle.co_wheel.specs.Cpu.{cpu_of}
use Rattle.co_wheel.specs.Sections.{IsLanding}
use Rattle.co_wheel.proofs.wheel.Wheel.land.Goals as goal

pub returns : goal.returns
returns g c =
    let after = cpu_of c.land.new.records (g.Q.TimerQueue.state c.land.new.queue) in
    subst (λ before. IsLanding before after c.args.parcel c.land.result) c.self.view_is c.land.ensures.section
