use Rattle.std.proofs.Common.{◌≡◌, ◌+◌, ◌*◌, sym, ap, ◌∙◌, arith}
use Rattle.co_gen.specs.Generator.{client, client_acts, state_after}
use Rattle.co_gen.proofs.Drawing.{no-draws, draws-after}
use Rattle.co_gen.proofs.Ranges.{pushed}
use Rattle.co_gen.proofs.script.clients.Goals as goal

pub loop-init : goal.loop-init
loop-init c = record { draws = c.new-draws.ensures ∙ sym (no-draws c.args.seed); clients = c.new-clients.ensures }

pub loop-preserved : goal.loop-preserved
loop-preserved c =
    let next : 1024 * c.loop.counter + 1024 ≡ 1024 * (c.loop.counter + 1) = omega arith in
    record {
      draws = c.in_ok-client_acts.ensures.draws ∙ (ap (λ s. state_after s 1024) c.loop.invariant.draws
          ∙ (draws-after c.args.seed (1024 * c.loop.counter) 1024 ∙ ap (state_after c.args.seed) next));
      clients = pushed (client c.args.seed) c.loop.counter c.loop.clients c.push.new.self c.in_ok-client_acts.field-0 c.loop.invariant.clients
          (c.in_ok-client_acts.ensures.acts ∙ ap client_acts c.loop.invariant.draws) c.in_ok-push.ensures.ok;
    }
