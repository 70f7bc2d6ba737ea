use Rattle.std.proofs.Common.{◌≡◌}
use Rattle.text_cases.proofs.tests.told.tell.Given as goal

-- the listener keeps room for the actors
abbrev pub invariant-loop-row : goal.invariant-loop-row
invariant-loop-row g l = l.actors ≡ g.L.Listener.actors l.listener
