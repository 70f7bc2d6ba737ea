-- The heading and the notes are the place's part.
use Rattle.std.proofs.lemmas.Result.{on_ok_weaker}
use Rattle.co_print.proofs.PartsWritten.{place-written}
use Rattle.co_print.proofs.report.Printing.print_place.Goals as goal

pub returns : goal.returns
returns c =
    on_ok_weaker c.print_from.result
    (λ e. place-written c.args.self.now.script.now c.args.self.now.lists.now c.args.place c.args.origins.now _ _ _ c.requires c.in_ok-print_heading.ensures e)
    c.print_from.ensures
