use Rattle.co_batch_text.specs.Itimer.Answers.{itimer_text}
use Rattle.co_batch_text.specs.Itimer.Ends.{EndsRun}
use Rattle.co_top.specs.declared.command.Serving.TheVariants.{Itimer}
use Rattle.co_top.proofs.Outcomes.{batch_gives}
use Rattle.co_top.proofs.serving.itimer.Goals as goal

pub returns : goal.returns
returns g c =
    let bytes = c.args.bytes.now in
    batch_gives Itimer bytes (itimer_text bytes) (EndsRun bytes) (λ closing text done. done) (λ text refused. refused) c.of_batch.result c.run_itimer.result c.run_itimer.ensures.text c.run_itimer.ensures.end c.of_batch.ensures
