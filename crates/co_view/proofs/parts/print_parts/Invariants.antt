use Rattle.std.proofs.Common.{◌≡◌, ◌++◌, take}
use Rattle.co_view.specs.Parts.{parts_text}
use Rattle.co_view.proofs.parts.print_parts.Given as goal

-- the parts so far stand at the end
abbrev pub invariant-loop-part : goal.invariant-loop-part
invariant-loop-part l = l.page ≡ l.fn.page ++ parts_text (take l.part-index l.parts)
