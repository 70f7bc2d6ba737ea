-- Between two steps.
use Rattle.std.proofs.Common.{◌≡◌}
use Rattle.co_run.specs.Ready.{IsReady}
use Rattle.co_run.proofs.actor.Actor.play_on.Given as goal

abbrev pub invariant-loop : goal.invariant-loop
invariant-loop g l =
    (goal.iterator-loop g).can_next l.iterator' × (goal.iterator-loop g).is_finite l.iterator'
    × IsReady g.B.Book.notes g.B.Book.spare l.shared.script.now l.shared.longest g.N.Name.name l.self
    × (l.self.number ≡ l.fn.self.number)
