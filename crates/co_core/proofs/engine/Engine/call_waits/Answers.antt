-- A record that is not at its wheel is on its way, and one that is there may still be in a service that a drain waits for.
use Rattle.std.proofs.Common.{sym, ◌∙◌, refl}
use Rattle.co_core.proofs.steps.Waits.{stays, leaves}
use Rattle.co_core.proofs.engine.Engine.call_waits.Goals as goal

pub returns-then-not-holds : goal.returns-then-not-holds
returns-then-not-holds c = λ s w ok h below.
    rw (leaves s c.args.self.now.depot w h.stored h.placed c.args.i c.stand-cpu.result below c.stand-cpu.ensures (sym c.holds.ensures ∙ c.if-not-holds.true)) refl

pub returns-then-drain_waits : goal.returns-then-drain_waits
returns-then-drain_waits c = λ s w ok h below.
    rw (stays s c.args.self.now.depot w h.stored h.placed c.args.i c.stand-cpu.result below c.stand-cpu.ensures (sym c.holds.ensures ∙ c.if-not-holds.false), sym (c.drain_waits.ensures s w ok h below c.stand-cpu.ensures) ∙ c.if-drain_waits.true) refl

pub returns-else-drain_waits : goal.returns-else-drain_waits
returns-else-drain_waits c = λ s w ok h below.
    rw (stays s c.args.self.now.depot w h.stored h.placed c.args.i c.stand-cpu.result below c.stand-cpu.ensures (sym c.holds.ensures ∙ c.if-not-holds.false), sym (c.drain_waits.ensures s w ok h below c.stand-cpu.ensures) ∙ c.if-drain_waits.false) refl
