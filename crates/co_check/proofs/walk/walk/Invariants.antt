use Rattle.std.proofs.Common.{◌≡◌, drop}
use Rattle.co_program.specs.Cursor.{start_of}
use Rattle.co_program.specs.Indexed.{IsCounted, cursor_of}
use Rattle.co_check.specs.Astray.{seen_lines, first_astray, cursor_after_lines}
use Rattle.co_check.specs.Walked.{by_row}
use Rattle.co_check.proofs.walk.walk.Given as goal

-- what is left of the notes decides, from the place to which those before lead
abbrev pub invariant-loop-slot : goal.invariant-loop-slot
invariant-loop-slot l = record {
  astray : first_astray l.script l.actor (start_of l.script l.actor) (by_row (seen_lines l.script l.lines) l.row)
      ≡ first_astray l.script l.actor (cursor_of l.script l.actor l.cursor) (by_row (seen_lines l.script l.lines) (drop l.slot-index l.row));
  place : cursor_after_lines l.script l.actor (start_of l.script l.actor) (by_row (seen_lines l.script l.lines) l.row)
      ≡ cursor_after_lines l.script l.actor (cursor_of l.script l.actor l.cursor) (by_row (seen_lines l.script l.lines) (drop l.slot-index l.row));
  counted : IsCounted l.cursor l.slot-index;
}
