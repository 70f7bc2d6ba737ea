-- One line more is heard.
use Rattle.std.proofs.Common.{List, [], ◌∷◌, ◌++◌, ap, ◌∙◌}
use Rattle.std.proofs.lemmas.Result.{on_ok_weaker}
use Rattle.co_report.specs.declared.line.Line.{Line}
use Rattle.co_report.specs.PackedLines.{line_of}
use Rattle.co_check.proofs.heard.Heard.take.Goals as goal

pub returns : goal.returns
returns c = on_ok_weaker c.push.result (λ pushed s lines h. record {
  script = rw c.in_ok-replay.ensures.script h.script;
  accepted = h.accepted;
  lines_are = pushed ∙ ap (λ (ls : List Line). ls ++ line_of c.args.line c.args.note.now ∷ []) (c.in_ok-replay.ensures.lines ∙ h.lines_are);
  so_far = c.in_ok-replay.ensures.replayed s lines h;
}) c.push.ensures
