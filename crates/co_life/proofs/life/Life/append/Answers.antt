-- The load in which the entry is appended keeps the rule.
use Rattle.std.proofs.Common.{arith, sym, ◌∙◌}
use mathlib.Core.Option.{none}
use Rattle.atomic_table.specs.Table.{step}
use Rattle.co_life.specs.Steps.{with_entry}
use Rattle.co_life.proofs.Moves.{appends_as}
use Rattle.co_life.proofs.life.Life.append.Goals as goal

pub load-requires : goal.load-requires
load-requires g c =
    (c.requires.seat ∙ sym c.self.view_is, omega (arith, c.self.invariant.0), appends_as g.S.Story.actor g.S.Story.legal _ _ _ c.requires.inside.0 c.args.entry.now _ (step 0 0 0 0 none) c.requires.said c.requires.inside.1)

pub returns : goal.returns
returns g c =
    let l = c.load.ensures in
    record { seat = (l.0 ∙ c.requires.seat, l.2 ∙ (λ j. (with_entry c.args.seat.now.me.0 (c.requires.said j), (c.requires.inside.1.inside j).1))) }
