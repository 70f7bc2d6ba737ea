-- The page's text is a piece, and the page is empty.
use Rattle.std.proofs.lemmas.Result.{on_ok_weaker}
use Rattle.co_report.proofs.Pieces.{filled}
use Rattle.co_report.proofs.section.Section.fill.Goals as goal

pub returns : goal.returns
returns c =
    on_ok_weaker c.push.result
    (filled c.self.inside.full c.push.new.self c.self.inside.page c.in_ok-piece.piece c.take.new.self c.args.self.now c.self.view_is c.in_ok-piece.ensures.taken c.in_ok-piece.ensures.empty)
    c.push.ensures.ok
