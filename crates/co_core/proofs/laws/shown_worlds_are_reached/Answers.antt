use Rattle.co_core.proofs.laws.shown_worlds_are_reached.Goals as goal

pub returns : goal.returns
returns c x w h = h.reached
