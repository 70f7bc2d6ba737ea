use Rattle.std.proofs.Common.{◌≡◌, ◌++◌, drop}
use Rattle.co_view.specs.Pictures.{story}
use Rattle.co_view.specs.Rolls.{roll_text}
use Rattle.co_view.proofs.picture.tell_all.Given as goal

-- what is told so far and what is still to tell are the whole
abbrev pub invariant-loop-step : goal.invariant-loop-step
invariant-loop-step l = roll_text l.roll ++ story l.picture l.lines l.step l.scene (drop l.step l.order) ≡ roll_text l.fn.roll ++ story l.picture l.lines 0 l.fn.scene l.order
