-- What holds of the sections of each part holds of all.
use Rattle.std.specs.List.{All}
use Rattle.std.proofs.lemmas.Result.{IfOk-weaker}
use Rattle.co_script.specs.Beside.{IsSection}
use Rattle.co_script.proofs.Joins.{joined_all}
use Rattle.co_script.proofs.by_threads.read_parts.Goals as goal

pub returns-in-Ok : goal.returns-in-Ok
returns-in-Ok g c =
    let is = IsSection c.args.text.now c.args.frame.now in
    IfOk-weaker c.joined.result _ (All is) (λ all joined. joined_all is _ all joined (λ k d inside. (c.in-Ok.ensures.each k d inside).1.call)) c.joined.ensures
