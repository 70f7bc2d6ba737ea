-- The lines before the places, the places and the last line.
use Rattle.std.proofs.Common.{◌∙◌}
use Rattle.co_print.proofs.Framed.{pieces-joined}
use Rattle.co_print.proofs.frame.in_frame.Goals as goal

pub returns : goal.returns
returns c =
    pieces-joined c.args.head _ _ _ _ c.args.parts c.new-pieces.ensures c.in_ok-push.ensures.ok c.in_ok-append.ensures (c.in_ok-copy_of.ensures ∙ c.as_slice.ensures) c.in_ok-push-2.ensures.ok
