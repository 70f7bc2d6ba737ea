use Rattle.co_batch_text.specs.Kq.Answers.{kq_text}
use Rattle.co_batch_text.specs.Kq.Ends.{EndsRun}
use Rattle.co_top.specs.declared.command.Serving.TheVariants.{Kq}
use Rattle.co_top.proofs.Outcomes.{batch_gives}
use Rattle.co_top.proofs.serving.kq.Goals as goal

pub returns : goal.returns
returns g c =
    let bytes = c.args.bytes.now in
    batch_gives Kq bytes (kq_text bytes) (EndsRun bytes) (λ closing text done. done) (λ text refused. refused) c.of_batch.result c.run_kq.result c.run_kq.ensures.text c.run_kq.ensures.end c.of_batch.ensures
