-- The head and all places, in the frame of the report.
use Rattle.std.proofs.Common.{◌≡◌, ◌∷◌, [], ◌++◌}
use Rattle.std.specs.Prelude.{codes}
use Rattle.std.specs.List.{concat}
use Rattle.std.proofs.lemmas.Result.{IfOk-at_ok, IfOk-weaker}
use Rattle.co_text.specs.Lines.{line_text, text}
use Rattle.co_print.specs.Order.{place_count}
use Rattle.co_print.specs.Reports.{lines_between, head_text}
use Rattle.co_print.proofs.PartsWritten.{pieces-written}
use Rattle.co_print.proofs.by_threads.print_by_threads.Goals as goal

pub returns : goal.returns
returns g c =
    IfOk-weaker c.in_frame.result (λ q. concat q ≡ c.in_ok-head.head ++ concat c.in_ok-parts.parts ++ line_text (codes "end" ∷ [])) _
    (λ q is.
    pieces-written c.args.script.now c.args.lists.now c.in_ok-head.head c.in_ok-parts.parts q
    (IfOk-at_ok (λ h. h ≡ head_text c.args.script.now) c.in_ok-head.was c.join-before.ensures.first)
    (IfOk-at_ok (λ ps. concat ps ≡ text (lines_between c.args.script.now c.args.lists.now 0 (place_count c.args.script.now))) c.in_ok-parts.was c.join-before.ensures.second)
    is)
    c.in_frame.ensures
