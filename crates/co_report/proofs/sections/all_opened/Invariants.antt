use Rattle.std.proofs.Common.{◌≡◌, map, take}
use Rattle.co_text.specs.Lines.{line_text}
use Rattle.co_print.specs.Reports.{heading}
use Rattle.co_report.proofs.sections.all_opened.Given as goal

-- the sections of the first places are opened
abbrev pub invariant-loop-place : goal.invariant-loop-place
invariant-loop-place l = l.pages ≡ map (λ place. line_text (heading l.script place)) (take l.place-index l.place-items)
