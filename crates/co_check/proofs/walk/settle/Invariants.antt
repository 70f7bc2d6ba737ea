use Rattle.std.proofs.Common.{◌≡◌, ◌-◌}
use Rattle.co_program.specs.Action.{action_for}
use Rattle.co_program.specs.Follows.{past, at_next_note}
use Rattle.co_program.specs.Indexed.{ActsAreCounted, cursor_of}
use Rattle.co_check.proofs.walk.settle.Given as goal

-- the steps that are left lead where all do
abbrev pub invariant-loop : goal.invariant-loop
invariant-loop l = record {
  left : past l.script l.actor (l.steps - l.counter) (cursor_of l.script l.actor l.cursor) (action_for l.script l.actor (cursor_of l.script l.actor l.cursor)) ≡ at_next_note l.script l.actor (cursor_of l.script l.actor l.fn.cursor);
  counted : ActsAreCounted l.fn.cursor l.cursor 0;
}
