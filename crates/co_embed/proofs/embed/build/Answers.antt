-- Each callout has its words, as many as the wheel has numbers.
use Rattle.std.proofs.Common.{ℕ, List, length, ap, sym, ◌∙◌}
use Rattle.std.proofs.lemmas.List.{length-replicate}
use Rattle.co_wheel.specs.Cpu.{Cpu}
use Rattle.co_embed.proofs.embed.build.Goals as goal

pub invariant_of-result : goal.invariant_of-result
invariant_of-result c =
    let size = ap (λ (wheel : Cpu). wheel.timers.size) c.in_ok-wheel.ensures in
    record {
      funcs = ap (λ (words : List ℕ). length words) c.in_ok-funcs.ensures ∙ length-replicate c.args.callouts 0 ∙ sym size;
      drains = ap (λ (words : List ℕ). length words) c.in_ok-drains.ensures ∙ length-replicate c.args.callouts 0 ∙ sym size;
    }
