use Rattle.co_check.proofs.Programs.{AreDone}
use Rattle.co_check.proofs.checking.check_programs.Given as goal

-- the actors so far are done
abbrev pub invariant-loop-actor : goal.invariant-loop-actor
invariant-loop-actor l = AreDone l.script l.lines l.actor l.unfinished
