-- The turns stand here by a copy of their words.
use Rattle.std.proofs.Common.{subst}
use Rattle.co_script.specs.TurnsTaken.{TurnsStand}
use Rattle.co_script.proofs.draft.Draft.turns_line.Goals as goal

pub take_turns-requires-clause-stand : goal.take_turns-requires-clause-stand
take_turns-requires-clause-stand c = subst (λ words. TurnsStand c.args.self.now words) c.copy.ensures c.in_ok-refuse_turns.ensures
