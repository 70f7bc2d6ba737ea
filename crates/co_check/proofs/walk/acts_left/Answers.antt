-- A CPU has as many acts as its ticks, in either version.
use Rattle.std.proofs.Common.{◌≡◌, ◌-◌, length, drop, ap, sym, ◌∙◌}
use Rattle.co_program.specs.declared.role.Role.TheVariants.{Cpu}
use Rattle.co_program.specs.Actors.{program_of, role_of}
use Rattle.co_check.proofs.Acts.{cpu-left}
use Rattle.co_check.proofs.walk.acts_left.Goals as goal

pub returns-in-Cpu : goal.returns-in-Cpu
returns-in-Cpu c =
    let role : role_of c.args.script.now c.args.actor ≡ Cpu c.in-Cpu.cpu = sym c.role_of.ensures ∙ c.in-Cpu.is in
    c.saturating_sub-in-Cpu.ensures
    ∙ (ap (λ n. n - c.args.over) c.count_of-in-Cpu.ensures
    ∙ (sym (cpu-left c.args.script.now c.in-Cpu.cpu c.args.over)
    ∙ ap (λ r. length (drop c.args.over (program_of c.args.script.now r))) (sym role)))
