-- What is padded is the draft's own script.
use Rattle.std.proofs.Common.{ap, ◌∙◌}
use Rattle.co_script.specs.Drafts.{Draft, padded_script}
use Rattle.co_script.proofs.draft.Draft.filled_script.Goals as goal

pub returns-in-Ok : goal.returns-in-Ok
returns-in-Ok c = c.in-Ok.ensures ∙ ap (λ (draft : Draft). padded_script draft.funcs draft.script) c.self.view_is
