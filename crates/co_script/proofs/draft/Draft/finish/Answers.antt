-- The draft's end is given, with its lists padded.
use Rattle.std.proofs.Common.{Ok, ap, sym, ◌∙◌}
use Rattle.co_script.proofs.draft.Draft.finish.Goals as goal

pub returns-in_ok-filled_script-in-Ok : goal.returns-in_ok-filled_script-in-Ok
returns-in_ok-filled_script-in-Ok c = c.in-Ok.ensures ∙ ap Ok (sym c.in_ok-filled_script-in-Ok.ensures)
