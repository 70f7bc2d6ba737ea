use Rattle.co_batch_text.specs.Sleep.Answers.{sleep_text}
use Rattle.co_batch_text.specs.Sleep.Ends.{EndsRun}
use Rattle.co_top.specs.declared.command.Serving.TheVariants.{Sleep}
use Rattle.co_top.proofs.Outcomes.{batch_gives}
use Rattle.co_top.proofs.serving.sleep.Goals as goal

pub returns : goal.returns
returns g c =
    let bytes = c.args.bytes.now in
    batch_gives Sleep bytes (sleep_text bytes) (EndsRun bytes) (λ closing text done. done) (λ text refused. refused) c.of_batch.result c.run_sleep.result c.run_sleep.ensures.text c.run_sleep.ensures.end c.of_batch.ensures
