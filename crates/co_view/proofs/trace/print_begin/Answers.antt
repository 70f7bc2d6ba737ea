use Rattle.std.proofs.Common.{codes, decimal}
use Rattle.co_view.specs.Parts.{part_text}
use Rattle.co_view.specs.Trace.{at_text}
use Rattle.co_view.proofs.Pieces.{behind, doing_is, said_is}
use Rattle.co_view.proofs.trace.print_begin.Goals as goal

pub returns : goal.returns
returns c =
    let is = behind (codes ",\n{\"ph\":\"B\",\"pid\":1,\"tid\":") _ _ (behind (at_text c.args.lane c.args.step) _ _ (behind (codes ",\"name\":\"#") _ _ (doing_is (decimal c.args.n) (part_text c.args.doing.now) (codes "\"}")))) in
    said_is _ _ _ _ _ is c.print_parts.ensures
