-- The last piece stands behind the full ones.
use Rattle.co_report.proofs.Pieces.{all-pieces}
use Rattle.co_report.proofs.section.Section.pieces.Goals as goal

pub returns : goal.returns
returns c = all-pieces c.self.inside.full c.push.new.self c.self.inside.page c.in_ok-done.field-0 c.args.self c.self.view_is c.in_ok-done.ensures c.in_ok-push.ensures.ok
