use Rattle.std.proofs.Common.{◌≡◌, ◌+◌, ◌-◌, ◌≤◌, length, drop}
use Rattle.co_text.specs.Lines.{lines_of}
use Rattle.co_script.specs.Beside.{HaveOneFrame, Reads}
use Rattle.co_script.proofs.sections.grow_on.Given as goal

abbrev pub decreases-loop-behind : goal.decreases-loop-behind
decreases-loop-behind l = length l.text - l.end

-- the lines so far are read
abbrev pub invariant-loop-behind : goal.invariant-loop-behind
invariant-loop-behind l = record {
  frame : HaveOneFrame l.fn.draft l.draft;
  kind : l.draft.stage ≡ l.fn.draft.stage;
  reads : Reads l.fn.draft l.fn.draft.stage (lines_of (drop l.from l.text)) l.draft.acts l.draft.clock l.lines (lines_of (drop l.end l.text));
  within : l.end ≤ length l.text;
  few : l.from + l.lines ≤ l.end;
}
